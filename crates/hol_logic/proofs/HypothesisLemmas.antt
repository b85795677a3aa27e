-- Hypotheses by number and by tree.
use Rattle.std.proofs.Common.{◌≡◌, ◌++◌, ◌∙◌, ◌↔◌, sym, subst, ⊎_elim, IsTrue, ℕ, List, Bool}
use Rattle.hol_terms.specs.Term.{Term}
use Rattle.hol_terms.specs.TermStore.{TermStore, HasTerm, TermsApart, term_tree}
use Rattle.hol_terms.specs.Formula.{In, SameMembers}
use Rattle.hol_terms.proofs.SetLemmas.{in_append_left, in_append_right, in_append_either}
use Rattle.lcf_kernel.specs.Hyps.{stands}
use Rattle.hol_formulas.specs.Formulas.{trees, HasFormulas}
use Rattle.lcf_kernel.proofs.IdLemmas.{stands-In, stands-from_In}
use Rattle.hol_formulas.proofs.TreesLemmas.{in_trees, from_trees}

pub hypothesis_found : (s : TermStore) (ts : List ℕ) (t : ℕ) (b : Bool) → TermsApart s → HasTerm s t → HasFormulas s ts → b ≡ stands t ts → IsTrue b ↔ In (term_tree s t) (trees s ts)
hypothesis_found s ts t b apart there all e = (to, from)
  where
    to : IsTrue b → In (term_tree s t) (trees s ts)
    to h = in_trees s t ts (stands-In ts t (sym e ∙ h))

    from : In (term_tree s t) (trees s ts) → IsTrue b
    from h =
        let p = from_trees s (term_tree s t) ts h in
        let same : t ≡ p.0 = apart t p.0 there (all.each p.0 p.1).there p.2 in
        e ∙ stands-from_In ts t (subst (λ u. In u ts) (sym same) p.1)

pub same_both : {G H K L : List Term} → SameMembers G K → SameMembers H L → SameMembers (G ++ H) (K ++ L)
same_both {G} {H} {K} {L} p q = record {
  to = λ t h. ⊎_elim (λ (i : In t G). in_append_left t K L (p.to t i)) (λ (i : In t H). in_append_right t K L (q.to t i)) (in_append_either t G H h);
  from = λ t h. ⊎_elim (λ (i : In t K). in_append_left t G H (p.from t i)) (λ (i : In t L). in_append_right t G H (q.from t i)) (in_append_either t K L h);
}
