-- Natural deduction for HOL: which formulas follow from which.
use Rattle.std.specs.Prelude.{◌≡◌, ℕ, List, [], ◌∷◌, ◌++◌}
use Rattle.hol_types.specs.Ty.{Ty, BoolTy, FunTy}
use Rattle.hol_types.specs.TypeSubst.{TypeSubst}
use Rattle.hol_terms.specs.Term.{Term, FreeTm, BoundTm, ConstTm, NumTm, AppTm, LamTm, ty_of}
use Rattle.hol_terms.specs.Substitution.{subst_bound, subst_types, close_free, IsFreeVariable}
use Rattle.hol_terms.specs.Formula.{IsTerm, IsFormula, In, SameMembers, without, NotFreeIn, NotFreeInAny, ChangesNone}
use Rattle.hol_terms.specs.Constants.{true_tm, false_tm, negation, conjunction, disjunction, implication, equation, conditional, for_all, exists, chosen}
use Rattle.hol_terms.specs.IntAxiom.{IsIntAxiom}

-- the predicate that a formula states of a free variable
abbrev pub abstraction : Term → Term → Term
abstraction v a = LamTm (ty_of v) (close_free a 0 v)

-- what a predicate says of a term: a lambda's body with the term, else the application
abbrev pub applied : Term → Term → Term
applied (LamTm ty b) t = subst_bound b 0 t
applied (FreeTm k n ty) t = AppTm (FreeTm k n ty) t
applied (BoundTm i ty) t = AppTm (BoundTm i ty) t
applied (ConstTm n ty) t = AppTm (ConstTm n ty) t
applied (NumTm z) t = AppTm (NumTm z) t
applied (AppTm f x) t = AppTm (AppTm f x) t

-- From the facts, and from the hypotheses of the list (read as a set), the formula can be derived: the least
-- relation closed under these rules. A conclusion's hypotheses are those of all premises together, less
-- what the rule discharges. The facts have no loose Bound; their type variables stand for all types, and a free
-- variable in one would stand for all values.
pub data Derivable (facts : List Term) : List Term → Term → Type 0 where
  -- a formula from itself
  by_assume : {t : Term} → IsFormula t → Derivable facts (t ∷ []) t
  -- a fact at any types, from nothing
  by_fact : (s : TypeSubst) (f : Term) → In f facts → Derivable facts [] (subst_types s f)
  -- one hypothesis more; the list may be written in any order
  by_weaken : {G H : List Term} {a t : Term} → IsFormula t → Derivable facts G a → SameMembers H (t ∷ G) → Derivable facts H a
  -- what follows under t, as an implication
  by_imp_i : {G : List Term} {a t : Term} → IsFormula t → Derivable facts G a → Derivable facts (without t G) (implication t a)
  -- modus ponens
  by_imp_e : {G H : List Term} {a b : Term} → Derivable facts G (implication a b) → Derivable facts H a → Derivable facts (G ++ H) b
  -- both
  by_and_i : {G H : List Term} {a b : Term} → Derivable facts G a → Derivable facts H b → Derivable facts (G ++ H) (conjunction a b)
  -- the left one of both
  by_and_e1 : {G : List Term} {a b : Term} → Derivable facts G (conjunction a b) → Derivable facts G a
  -- the right one of both
  by_and_e2 : {G : List Term} {a b : Term} → Derivable facts G (conjunction a b) → Derivable facts G b
  -- the one or any other
  by_or_i1 : {G : List Term} {a t : Term} → IsFormula t → Derivable facts G a → Derivable facts G (disjunction a t)
  -- any other or the one
  by_or_i2 : {G : List Term} {a t : Term} → IsFormula t → Derivable facts G a → Derivable facts G (disjunction t a)
  -- what follows in either case
  by_or_e : {G H K : List Term} {a b c : Term} → Derivable facts G (disjunction a b) → Derivable facts H c → Derivable facts K c → Derivable facts (G ++ without a H ++ without b K) c
  -- what leads to false doesn't hold
  by_not_i : {G : List Term} {t : Term} → IsFormula t → Derivable facts G false_tm → Derivable facts (without t G) (negation t)
  -- a formula and its negation are false together
  by_not_e : {G H : List Term} {a : Term} → Derivable facts G (negation a) → Derivable facts H a → Derivable facts (G ++ H) false_tm
  -- true
  by_true_i : Derivable facts [] true_tm
  -- from false, anything
  by_false_e : {G : List Term} {t : Term} → IsFormula t → Derivable facts G false_tm → Derivable facts G t
  -- what can't fail to hold
  by_classical : {G : List Term} {t : Term} → IsFormula t → Derivable facts G false_tm → Derivable facts (without (negation t) G) t
  -- a formula holds of each value of a variable that no hypothesis speaks of
  by_all_i : {G : List Term} {a : Term} (v : Term) → IsFreeVariable v → NotFreeInAny v G → Derivable facts G a → Derivable facts G (for_all (ty_of v) (abstraction v a))
  -- what holds of all holds of the term
  by_all_e : {G : List Term} {ty : Ty} {p t : Term} → IsTerm t → ty_of t ≡ ty → Derivable facts G (for_all ty p) → Derivable facts G (applied p t)
  -- a witness
  by_ex_i : {G : List Term} {ty : Ty} {b t : Term} → IsTerm t → ty_of t ≡ ty → IsFormula (exists ty (LamTm ty b)) → Derivable facts G (subst_bound b 0 t) → Derivable facts G (exists ty (LamTm ty b))
  -- what follows from a witness of which nothing else is known
  by_ex_e : {G H : List Term} {ty : Ty} {b c : Term} (v : Term) → IsFreeVariable v → ty_of v ≡ ty → NotFreeIn v b → NotFreeIn v c → NotFreeInAny v (without (subst_bound b 0 v) H)
      → Derivable facts G (exists ty (LamTm ty b)) → Derivable facts H c → Derivable facts (G ++ without (subst_bound b 0 v) H) c
  -- each term equals itself
  by_refl : {t : Term} → IsTerm t → Derivable facts [] (equation (ty_of t) t t)
  -- equals for equals in a predicate
  by_subst : {G H : List Term} {ty : Ty} {t u b : Term} → IsTerm (LamTm ty b) → Derivable facts G (equation ty t u) → Derivable facts H (subst_bound b 0 t) → Derivable facts (G ++ H) (subst_bound b 0 u)
  -- functions that agree on a variable of which nothing is known are equal
  by_ext : {G : List Term} {ty : Ty} {f g : Term} (v : Term) → IsFreeVariable v → NotFreeIn v f → NotFreeIn v g → NotFreeInAny v G
      → Derivable facts G (equation ty (AppTm f v) (AppTm g v)) → Derivable facts G (equation (FunTy (ty_of v) ty) f g)
  -- formulas that follow from each other are equal
  by_iff_i : {G H : List Term} {a b : Term} → Derivable facts G b → Derivable facts H a → Derivable facts (without a G ++ without b H) (equation BoolTy a b)
  -- a lambda applied to a term is its body with the term
  by_beta : {ty : Ty} {b u : Term} → IsTerm (AppTm (LamTm ty b) u) → Derivable facts [] (equation (ty_of b) (AppTm (LamTm ty b) u) (subst_bound b 0 u))
  -- where there is a witness, choice gives one
  by_choice : {G : List Term} {ty : Ty} {b : Term} → Derivable facts G (exists ty (LamTm ty b)) → Derivable facts G (subst_bound b 0 (chosen ty (LamTm ty b)))
  -- a conditional whose condition holds is its first branch
  by_ite_t : {G : List Term} {c t u : Term} → IsTerm t → IsTerm u → ty_of u ≡ ty_of t → Derivable facts G c → Derivable facts G (equation (ty_of t) (conditional (ty_of t) c t u) t)
  -- a conditional whose condition doesn't hold is its second branch
  by_ite_f : {G : List Term} {c t u : Term} → IsTerm t → IsTerm u → ty_of u ≡ ty_of t → Derivable facts G (negation c) → Derivable facts G (equation (ty_of t) (conditional (ty_of t) c t u) u)
  -- a formula at other types, where the hypotheses don't change
  by_inst_type : {G : List Term} {a : Term} → (s : TypeSubst) → ChangesNone s G → Derivable facts G a → Derivable facts G (subst_types s a)
  -- an axiom of the integers, from nothing
  by_int_axiom : {row : ℕ} {args : List Term} {f : Term} → IsIntAxiom row args f → Derivable facts [] f
