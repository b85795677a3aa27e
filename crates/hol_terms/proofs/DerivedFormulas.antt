-- What is derived from facts that are formulas is a formula.
use Rattle.std.proofs.Common.{◌≡◌, List, ◌++◌, refl, sym, ap, ◌∙◌, subst}
use Rattle.hol_types.specs.Ty.{Ty, BoolTy, FunTy}
use Rattle.hol_terms.specs.Term.{Term, FreeTm, BoundTm, ConstTm, NumTm, AppTm, LamTm, BoundsFit, ty_of}
use Rattle.hol_terms.specs.Substitution.{subst_bound}
use Rattle.hol_terms.specs.Formula.{IsFormula, AllFormulas, without}
use Rattle.hol_terms.specs.Derivable.{Derivable, abstraction, applied, by_assume, by_fact, by_weaken, by_imp_i, by_imp_e, by_and_i, by_and_e1, by_and_e2, by_or_i1, by_or_i2, by_or_e, by_not_i, by_not_e, by_true_i, by_false_e, by_classical, by_all_i, by_all_e, by_ex_i, by_ex_e, by_refl, by_subst, by_ext, by_iff_i, by_beta, by_choice, by_ite_t, by_ite_f, by_inst_type, by_int_axiom}
use Rattle.hol_terms.proofs.SubstitutionLemmas.{instance_is_formula, opened_typed, opened_ty, opened_loose, closed_typed, closed_fits, closed_ty, closed_loose}
use Rattle.hol_terms.proofs.FormulaLemmas.{Has, has_formula, formula_has, has_own, has_app, has_function, same_from, same_result, true_is_formula, false_is_formula, negation_is_formula, negation_part, implication_is_formula, implication_right, conjunction_is_formula, conjunction_left, conjunction_right, disjunction_is_formula, equation_is_formula, equation_left, equation_right, has_conditional, for_all_is_formula, for_all_part, exists_part, has_chosen, axiom_is_formula}
use Rattle.hol_terms.proofs.DerivableLemmas.{cut}

-- ---- lambdas

-- a formula's abstraction is a predicate
pub abstraction_is : {a : Term} (v : Term) → IsFormula a → Has (abstraction v a) (FunTy (ty_of v) BoolTy)
abstraction_is {a} v h = record {
  term = record {
    typed = (closed_typed a 0 v h.typed, closed_fits a 0 v h.closed);
    closed = closed_loose a 0 v h.closed;
  };
  type = ap (λ c. FunTy (ty_of v) c) (closed_ty a 0 v ∙ h.bool);
}

-- the body of a lambda with a term for the variable
pub body_has : {ty c : Ty} {b t : Term} → Has (LamTm ty b) (FunTy ty c) → Has t ty → Has (subst_bound b 0 t) c
body_has {ty} {c} {b} {t} h k = record {
  term = record {
    typed = opened_typed b t 0 h.term.typed.0 k.term.typed k.term.closed fits;
    closed = opened_loose b t 0 k.term.closed h.term.closed;
  };
  type = opened_ty b t 0 fits ∙ same_result h.type;
}
  where
    fits : BoundsFit b 0 (ty_of t)
    fits = subst (λ u. BoundsFit b 0 u) (sym k.type) h.term.typed.1

-- what a predicate says of a term
pub applied_is : {ty : Ty} {t : Term} (p : Term) → Has p (FunTy ty BoolTy) → Has t ty → IsFormula (applied p t)
applied_is {ty} {t} (LamTm u b) h k = formula_has (body_has own (record { term = k.term; type = k.type ∙ sym (same_from h.type) }))
  where
    own : Has (LamTm u b) (FunTy u BoolTy)
    own = record { term = h.term; type = ap (λ c. FunTy u c) (same_result h.type) }
applied_is (FreeTm k n u) h l = formula_has (has_app h l)
applied_is (BoundTm i u) h l = formula_has (has_app h l)
applied_is (ConstTm n u) h l = formula_has (has_app h l)
applied_is (NumTm z) h l = formula_has (has_app h l)
applied_is (AppTm f x) h l = formula_has (has_app h l)

-- ---- derivations

pub derived_is_formula : {facts G : List Term} {f : Term} → AllFormulas facts → Derivable facts G f → IsFormula f
derived_is_formula all (by_assume t) = t
derived_is_formula all (by_fact s f there) = instance_is_formula s f (all.each f there)
derived_is_formula all (by_weaken t d same) = derived_is_formula all d
derived_is_formula all (by_imp_i t d) = implication_is_formula t (derived_is_formula all d)
derived_is_formula all (by_imp_e d e) = implication_right (derived_is_formula all d)
derived_is_formula all (by_and_i d e) = conjunction_is_formula (derived_is_formula all d) (derived_is_formula all e)
derived_is_formula all (by_and_e1 d) = conjunction_left (derived_is_formula all d)
derived_is_formula all (by_and_e2 d) = conjunction_right (derived_is_formula all d)
derived_is_formula all (by_or_i1 t d) = disjunction_is_formula (derived_is_formula all d) t
derived_is_formula all (by_or_i2 t d) = disjunction_is_formula t (derived_is_formula all d)
derived_is_formula all (by_or_e d e k) = derived_is_formula all e
derived_is_formula all (by_not_i t d) = negation_is_formula t
derived_is_formula all (by_not_e d e) = false_is_formula
derived_is_formula all by_true_i = true_is_formula
derived_is_formula all (by_false_e t d) = t
derived_is_formula all (by_classical t d) = t
derived_is_formula all (by_all_i v free absent d) = for_all_is_formula (abstraction_is v (derived_is_formula all d))
derived_is_formula all (by_all_e {p} t fits d) = applied_is p (for_all_part (derived_is_formula all d)) (record { term = t; type = fits })
derived_is_formula all (by_ex_i t fits e d) = e
derived_is_formula all (by_ex_e v free fits in_body in_claim absent d e) = derived_is_formula all e
derived_is_formula all (by_refl t) = equation_is_formula (has_own t) (has_own t)
derived_is_formula all (by_subst {ty} {t} {u} {b} p d e) =
    let equal = derived_is_formula all d in
    let left = equation_left equal in
    let bool : ty_of b ≡ BoolTy = sym (opened_ty b t 0 (subst (λ c. BoundsFit b 0 c) (sym left.type) p.typed.1)) ∙ (derived_is_formula all e).bool in
    formula_has (body_has (record { term = p; type = ap (λ c. FunTy ty c) bool }) (equation_right equal))
derived_is_formula all (by_ext v free in_left in_right absent d) =
    let equal = derived_is_formula all d in equation_is_formula (has_function (equation_left equal)) (has_function (equation_right equal))
derived_is_formula all (by_iff_i d e) = equation_is_formula (has_formula (derived_is_formula all e)) (has_formula (derived_is_formula all d))
derived_is_formula all (by_beta {ty} {b} {u} t) =
    let own : Has (LamTm ty b) (FunTy ty (ty_of b)) = record { term = record { typed = t.typed.0; closed = t.closed.0 }; type = refl } in
    let argument : Has u ty = record { term = record { typed = t.typed.1; closed = t.closed.1 }; type = sym (same_from t.typed.2) } in
    equation_is_formula (has_own t) (body_has own argument)
derived_is_formula all (by_choice d) = let p = exists_part (derived_is_formula all d) in formula_has (body_has p (has_chosen p))
derived_is_formula all (by_ite_t t u fits d) =
    equation_is_formula (has_conditional (derived_is_formula all d) (has_own t) (record { term = u; type = fits })) (has_own t)
derived_is_formula all (by_ite_f t u fits d) =
    equation_is_formula (has_conditional (negation_part (derived_is_formula all d)) (has_own t) (record { term = u; type = fits })) (record { term = u; type = fits })
derived_is_formula all (by_inst_type s kept d) = instance_is_formula s _ (derived_is_formula all d)
derived_is_formula all (by_int_axiom row) = axiom_is_formula row

-- the cut, where the facts are formulas
pub cut_derived : {facts G H : List Term} {a b : Term} → AllFormulas facts → Derivable facts G a → Derivable facts H b → Derivable facts (G ++ without a H) b
cut_derived all d e = cut (derived_is_formula all d) d e
