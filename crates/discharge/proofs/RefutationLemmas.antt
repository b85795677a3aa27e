-- From false under the facts and the negation of a goal: the goal, from the facts alone.
use Rattle.std.proofs.Common.{◌≡◌, ◌⊎◌, List, [], ◌∷◌, ◌++◌, refl, subst, inl, inr, ⊎_elim}
use Rattle.hol_terms.specs.Term.{Term}
use Rattle.hol_terms.specs.Formula.{In, IsFormula, AllFormulas, Within, WithinBut}
use Rattle.hol_terms.specs.Constants.{false_tm, negation}
use Rattle.hol_terms.specs.Derivable.{Derivable, by_fact}
use Rattle.hol_terms.proofs.SetLemmas.{in_append_either, within_nothing, within_refl, formulas_within}
use Rattle.hol_terms.proofs.UnchangedTypes.{term_unchanged}
use Rattle.hol_terms.proofs.DerivableLemmas.{classical_in, cut_in}

-- ---- sets of hypotheses

-- two sets, each within a third but for a formula
pub but_both : {t : Term} {G H K : List Term} → WithinBut t G K → WithinBut t H K → WithinBut t (G ++ H) K
but_both {t} {G} {H} {K} g h = record { inside = inside }
  where
    inside : (u : Term) → In u (G ++ H) → (u ≡ t → ⊥) → In u K
    inside u there apart = ⊎_elim (λ l. g.inside u l apart) (λ r. h.inside u r apart) (in_append_either u G H there)

-- no formulas
pub but_nothing : {G : List Term} (t : Term) (K : List Term) → G ≡ [] → WithinBut t G K
but_nothing {G} t K none = record { inside = inside }
  where
    inside : (u : Term) → In u G → (u ≡ t → ⊥) → In u K
    inside u there apart = absurd (subst (λ (us : List Term). In u us) none there)

-- a set and the formula
pub but_last : {G : List Term} (t : Term) (K : List Term) → G ≡ K ++ t ∷ [] → WithinBut t G K
but_last {G} t K is = record { inside = λ u there apart. either u apart (in_append_either u K (t ∷ []) (subst (λ (us : List Term). In u us) is there)) }
  where
    either : (u : Term) → (u ≡ t → ⊥) → In u K ⊎ In u (t ∷ []) → In u K
    either u apart (inl there) = there
    either u apart (inr (inl e)) = absurd (apart e)
    either u apart (inr (inr there)) = absurd there

-- ---- derivations

-- a fact without hypotheses
fact_alone : (facts : List Term) (f : Term) → In f facts → Derivable facts [] f
fact_alone facts f there = subst (λ (t : Term). Derivable facts [] t) (term_unchanged [] f (λ n k. refl)) (by_fact [] f there)

-- hypotheses that are facts aren't needed
pub without_facts : (facts hyps : List Term) (f : Term) → AllFormulas facts → Within hyps facts → Derivable facts hyps f → Derivable facts [] f
without_facts facts [] f all within d = d
without_facts facts (h ∷ hyps) f all within d =
    without_facts facts hyps f all rest (cut_in (all.each h first) (formulas_within rest all) (within_nothing hyps) others (fact_alone facts h first) d)
  where
    first : In h facts
    first = within.inside h (inl refl)

    rest : Within hyps facts
    rest = record { inside = λ t there. within.inside t (inr there) }

    other : (u : Term) → In u (h ∷ hyps) → (u ≡ h → ⊥) → In u hyps
    other u (inl e) apart = absurd (apart e)
    other u (inr there) apart = there

    others : WithinBut h (h ∷ hyps) hyps
    others = record { inside = other }

-- what can't fail to hold where the facts do
pub from_refutation : (facts hyps : List Term) (goal : Term) → AllFormulas facts → IsFormula goal → WithinBut (negation goal) hyps facts → Derivable facts hyps false_tm → Derivable facts [] goal
from_refutation facts hyps goal all is within d = without_facts facts facts goal all (within_refl facts) (classical_in is all within d)
