-- What holds of derivations: further hypotheses and facts, the cut, and the rules over sets of hypotheses.
use Rattle.std.proofs.Common.{List, [], ◌∷◌, ◌++◌, refl, sym, subst, inl, inr}
use Rattle.hol_types.specs.Ty.{BoolTy}
use Rattle.hol_types.specs.TypeSubst.{TypeSubst}
use Rattle.hol_terms.specs.Term.{Term}
use Rattle.hol_terms.specs.Substitution.{subst_types, subst_bound}
use Rattle.hol_terms.specs.Formula.{In, IsFormula, AllFormulas, Within, WithinBut, SameMembers, without}
use Rattle.hol_terms.specs.Constants.{true_tm, false_tm, negation, conjunction, disjunction, implication, equation}
use Rattle.hol_terms.specs.Derivable.{Derivable, by_assume, by_fact, by_weaken, by_imp_i, by_imp_e, by_and_i, by_and_e1, by_and_e2, by_or_i1, by_or_i2, by_or_e, by_not_i, by_not_e, by_true_i, by_false_e, by_classical, by_all_i, by_all_e, by_ex_i, by_ex_e, by_refl, by_subst, by_ext, by_iff_i, by_beta, by_choice, by_ite_t, by_ite_f, by_inst_type, by_int_axiom}
use Rattle.hol_terms.proofs.SetLemmas.{within_nothing, within_left, within_right, within_both, within_but, same_refl, no_formulas, one_more, formulas_within, formulas_both, formulas_without, formulas_first, formulas_rest}

-- ---- further hypotheses

-- each formula of a list, one after the other
weaken_all : (facts G H : List Term) (f : Term) → AllFormulas H → Derivable facts G f → Derivable facts (H ++ G) f
weaken_all facts G [] f all d = d
weaken_all facts G (h ∷ H) f all d = by_weaken (formulas_first all) (weaken_all facts G H f (formulas_rest all) d) (same_refl (h ∷ (H ++ G)))

-- a derivation from a set is one from each larger set of formulas
pub more : (facts G H : List Term) (f : Term) → AllFormulas H → Within G H → Derivable facts G f → Derivable facts H f
more facts [] [] f all within d = d
more facts (g ∷ G) [] f all within d = absurd (within.inside g (inl refl))
more facts G (h ∷ H) f all within d = by_weaken (formulas_first all) (weaken_all facts G H f (formulas_rest all) d) same
  where
    back : (t : Term) → In t (h ∷ (H ++ G)) → In t (h ∷ H)
    back t (inl e) = inl e
    back t (inr k) = (within_both (record { inside = λ u l. inr l }) within).inside t k

    same : SameMembers (h ∷ H) (h ∷ (H ++ G))
    same = record { to = (within_left (h ∷ H) G).inside; from = back }

-- ---- further facts

pub facts_more : {facts facts' G : List Term} {f : Term} → Within facts facts' → Derivable facts G f → Derivable facts' G f
facts_more w (by_assume t) = by_assume t
facts_more w (by_fact s f there) = by_fact s f (w.inside f there)
facts_more w (by_weaken t d same) = by_weaken t (facts_more w d) same
facts_more w (by_imp_i t d) = by_imp_i t (facts_more w d)
facts_more w (by_imp_e d e) = by_imp_e (facts_more w d) (facts_more w e)
facts_more w (by_and_i d e) = by_and_i (facts_more w d) (facts_more w e)
facts_more w (by_and_e1 d) = by_and_e1 (facts_more w d)
facts_more w (by_and_e2 d) = by_and_e2 (facts_more w d)
facts_more w (by_or_i1 t d) = by_or_i1 t (facts_more w d)
facts_more w (by_or_i2 t d) = by_or_i2 t (facts_more w d)
facts_more w (by_or_e d e k) = by_or_e (facts_more w d) (facts_more w e) (facts_more w k)
facts_more w (by_not_i t d) = by_not_i t (facts_more w d)
facts_more w (by_not_e d e) = by_not_e (facts_more w d) (facts_more w e)
facts_more w by_true_i = by_true_i
facts_more w (by_false_e t d) = by_false_e t (facts_more w d)
facts_more w (by_classical t d) = by_classical t (facts_more w d)
facts_more w (by_all_i v free absent d) = by_all_i v free absent (facts_more w d)
facts_more w (by_all_e t fits d) = by_all_e t fits (facts_more w d)
facts_more w (by_ex_i t fits e d) = by_ex_i t fits e (facts_more w d)
facts_more w (by_ex_e v free fits in_body in_claim absent d e) = by_ex_e v free fits in_body in_claim absent (facts_more w d) (facts_more w e)
facts_more w (by_refl t) = by_refl t
facts_more w (by_subst p d e) = by_subst p (facts_more w d) (facts_more w e)
facts_more w (by_ext v free in_left in_right absent d) = by_ext v free in_left in_right absent (facts_more w d)
facts_more w (by_iff_i d e) = by_iff_i (facts_more w d) (facts_more w e)
facts_more w (by_beta t) = by_beta t
facts_more w (by_choice d) = by_choice (facts_more w d)
facts_more w (by_ite_t t u fits d) = by_ite_t t u fits (facts_more w d)
facts_more w (by_ite_f t u fits d) = by_ite_f t u fits (facts_more w d)
facts_more w (by_inst_type s kept d) = by_inst_type s kept (facts_more w d)
facts_more w (by_int_axiom row) = by_int_axiom row

-- ---- hypotheses are formulas

pub hyps_are_formulas : {facts G : List Term} {f : Term} → Derivable facts G f → AllFormulas G
hyps_are_formulas (by_assume t) = one_more t no_formulas
hyps_are_formulas (by_fact s f there) = no_formulas
hyps_are_formulas (by_weaken t d same) = formulas_within (record { inside = same.to }) (one_more t (hyps_are_formulas d))
hyps_are_formulas (by_imp_i {t} is d) = formulas_without t (hyps_are_formulas d)
hyps_are_formulas (by_imp_e d e) = formulas_both (hyps_are_formulas d) (hyps_are_formulas e)
hyps_are_formulas (by_and_i d e) = formulas_both (hyps_are_formulas d) (hyps_are_formulas e)
hyps_are_formulas (by_and_e1 d) = hyps_are_formulas d
hyps_are_formulas (by_and_e2 d) = hyps_are_formulas d
hyps_are_formulas (by_or_i1 t d) = hyps_are_formulas d
hyps_are_formulas (by_or_i2 t d) = hyps_are_formulas d
hyps_are_formulas (by_or_e {a} {b} d e k) = formulas_both (formulas_both (hyps_are_formulas d) (formulas_without a (hyps_are_formulas e))) (formulas_without b (hyps_are_formulas k))
hyps_are_formulas (by_not_i {t} is d) = formulas_without t (hyps_are_formulas d)
hyps_are_formulas (by_not_e d e) = formulas_both (hyps_are_formulas d) (hyps_are_formulas e)
hyps_are_formulas by_true_i = no_formulas
hyps_are_formulas (by_false_e t d) = hyps_are_formulas d
hyps_are_formulas (by_classical {t} is d) = formulas_without (negation t) (hyps_are_formulas d)
hyps_are_formulas (by_all_i v free absent d) = hyps_are_formulas d
hyps_are_formulas (by_all_e t fits d) = hyps_are_formulas d
hyps_are_formulas (by_ex_i t fits e d) = hyps_are_formulas d
hyps_are_formulas (by_ex_e {b} v free fits in_body in_claim absent d e) = formulas_both (hyps_are_formulas d) (formulas_without (subst_bound b 0 v) (hyps_are_formulas e))
hyps_are_formulas (by_refl t) = no_formulas
hyps_are_formulas (by_subst p d e) = formulas_both (hyps_are_formulas d) (hyps_are_formulas e)
hyps_are_formulas (by_ext v free in_left in_right absent d) = hyps_are_formulas d
hyps_are_formulas (by_iff_i {a} {b} d e) = formulas_both (formulas_without a (hyps_are_formulas d)) (formulas_without b (hyps_are_formulas e))
hyps_are_formulas (by_beta t) = no_formulas
hyps_are_formulas (by_choice d) = hyps_are_formulas d
hyps_are_formulas (by_ite_t t u fits d) = hyps_are_formulas d
hyps_are_formulas (by_ite_f t u fits d) = hyps_are_formulas d
hyps_are_formulas (by_inst_type s kept d) = hyps_are_formulas d
hyps_are_formulas (by_int_axiom row) = no_formulas

-- the hypotheses are a set: the order in which they stand, and how often, makes no difference
pub same_hyps : {facts G H : List Term} {f : Term} → SameMembers G H → Derivable facts G f → Derivable facts H f
same_hyps {facts} {G} {H} {f} same d = more facts G H f (formulas_within (record { inside = same.from }) (hyps_are_formulas d)) (record { inside = same.to }) d

-- ---- the rules over sets of hypotheses: what the conclusion keeps may be any larger set of formulas

pub assume_in : {facts K : List Term} {t : Term} → AllFormulas K → In t K → Derivable facts K t
assume_in {facts} {K} {t} all there = more facts (t ∷ []) K t all (record { inside = inside }) (by_assume (all.each t there))
  where
    inside : (u : Term) → In u (t ∷ []) → In u K
    inside u (inl e) = subst (λ v. In v K) (sym e) there
    inside u (inr h) = absurd h

pub fact_in : {facts K : List Term} (s : TypeSubst) (f : Term) → AllFormulas K → In f facts → Derivable facts K (subst_types s f)
fact_in {facts} {K} s f all there = more facts [] K (subst_types s f) all (within_nothing K) (by_fact s f there)

pub imp_i_in : {facts G K : List Term} {a t : Term} → IsFormula t → AllFormulas K → WithinBut t G K → Derivable facts G a → Derivable facts K (implication t a)
imp_i_in {facts} {G} {K} {a} {t} is all within d = more facts (without t G) K (implication t a) all (within_but within) (by_imp_i is d)

pub imp_e_in : {facts G H K : List Term} {a b : Term} → AllFormulas K → Within G K → Within H K → Derivable facts G (implication a b) → Derivable facts H a → Derivable facts K b
imp_e_in {facts} {G} {H} {K} {a} {b} all left right d e = more facts (G ++ H) K b all (within_both left right) (by_imp_e d e)

pub not_e_in : {facts G H K : List Term} {a : Term} → AllFormulas K → Within G K → Within H K → Derivable facts G (negation a) → Derivable facts H a → Derivable facts K false_tm
not_e_in {facts} {G} {H} {K} {a} all left right d e = more facts (G ++ H) K false_tm all (within_both left right) (by_not_e d e)

pub false_e_in : {facts G K : List Term} {t : Term} → IsFormula t → AllFormulas K → Within G K → Derivable facts G false_tm → Derivable facts K t
false_e_in {facts} {G} {K} {t} is all within d = more facts G K t all within (by_false_e is d)

pub classical_in : {facts G K : List Term} {t : Term} → IsFormula t → AllFormulas K → WithinBut (negation t) G K → Derivable facts G false_tm → Derivable facts K t
classical_in {facts} {G} {K} {t} is all within d = more facts (without (negation t) G) K t all (within_but within) (by_classical is d)

pub weaken_in : {facts G K : List Term} {a : Term} → AllFormulas K → Within G K → Derivable facts G a → Derivable facts K a
weaken_in {facts} {G} {K} {a} all within d = more facts G K a all within d

pub and_i_in : {facts G H K : List Term} {a b : Term} → AllFormulas K → Within G K → Within H K → Derivable facts G a → Derivable facts H b → Derivable facts K (conjunction a b)
and_i_in {facts} {G} {H} {K} {a} {b} all left right d e = more facts (G ++ H) K (conjunction a b) all (within_both left right) (by_and_i d e)

pub and_e1_in : {facts G K : List Term} {a b : Term} → AllFormulas K → Within G K → Derivable facts G (conjunction a b) → Derivable facts K a
and_e1_in all within d = by_and_e1 (weaken_in all within d)

pub and_e2_in : {facts G K : List Term} {a b : Term} → AllFormulas K → Within G K → Derivable facts G (conjunction a b) → Derivable facts K b
and_e2_in all within d = by_and_e2 (weaken_in all within d)

pub or_i1_in : {facts G K : List Term} {a t : Term} → IsFormula t → AllFormulas K → Within G K → Derivable facts G a → Derivable facts K (disjunction a t)
or_i1_in is all within d = by_or_i1 is (weaken_in all within d)

pub or_i2_in : {facts G K : List Term} {a t : Term} → IsFormula t → AllFormulas K → Within G K → Derivable facts G a → Derivable facts K (disjunction t a)
or_i2_in is all within d = by_or_i2 is (weaken_in all within d)

pub or_e_in : {facts G H J K : List Term} {a b c : Term} → AllFormulas K → Within G K → WithinBut a H K → WithinBut b J K
    → Derivable facts G (disjunction a b) → Derivable facts H c → Derivable facts J c → Derivable facts K c
or_e_in {facts} {G} {H} {J} {K} {a} {b} {c} all left middle right d e k =
    more facts (G ++ without a H ++ without b J) K c all (within_both (within_both left (within_but middle)) (within_but right)) (by_or_e d e k)

pub not_i_in : {facts G K : List Term} {t : Term} → IsFormula t → AllFormulas K → WithinBut t G K → Derivable facts G false_tm → Derivable facts K (negation t)
not_i_in {facts} {G} {K} {t} is all within d = more facts (without t G) K (negation t) all (within_but within) (by_not_i is d)

pub true_i_in : {facts K : List Term} → AllFormulas K → Derivable facts K true_tm
true_i_in {facts} {K} all = weaken_in all (within_nothing K) by_true_i

pub iff_i_in : {facts G H K : List Term} {a b : Term} → AllFormulas K → WithinBut a G K → WithinBut b H K → Derivable facts G b → Derivable facts H a → Derivable facts K (equation BoolTy a b)
iff_i_in {facts} {G} {H} {K} {a} {b} all left right d e =
    more facts (without a G ++ without b H) K (equation BoolTy a b) all (within_both (within_but left) (within_but right)) (by_iff_i d e)

-- ---- the cut

-- a derivation of a formula in the place of the hypothesis
pub cut : {facts G H : List Term} {a b : Term} → IsFormula a → Derivable facts G a → Derivable facts H b → Derivable facts (G ++ without a H) b
cut {facts} {G} {H} {a} {b} is d e = imp_e_in all (within_right G (without a H)) (within_left G (without a H)) (by_imp_i is e) d
  where
    all : AllFormulas (G ++ without a H)
    all = formulas_both (hyps_are_formulas d) (formulas_without a (hyps_are_formulas e))

pub cut_in : {facts G H K : List Term} {a b : Term} → IsFormula a → AllFormulas K → Within G K → WithinBut a H K → Derivable facts G a → Derivable facts H b → Derivable facts K b
cut_in is all left right d e = imp_e_in all (within_but right) left (by_imp_i is e) d
