-- Each rule makes a record.
use Rattle.std.proofs.Common.{◌≡◌, ◌++◌, ◌∷◌, [], refl, sym, subst, ℕ, ◌<◌, length, slice_index, List, Bool, true, false, ◌&&◌}
use Rattle.hol_terms.specs.Term.{Term}
use Rattle.hol_terms.specs.TermStore.{TermStore, HasTerm, term_tree}
use Rattle.hol_terms.specs.Constants.{false_tm, negation, implication}
use Rattle.hol_terms.specs.Formula.{In, IsFormula, without}
use Rattle.hol_types.specs.TypeSubst.{TypeSubst}
use Rattle.hol_terms.specs.Substitution.{subst_types}
use Rattle.hol_terms.proofs.FormulaLemmas.{false_is_formula}
use Rattle.hol_terms.proofs.SubstitutionLemmas.{instance_is_formula}
use Rattle.hol_formulas.specs.Constants.{AreConstants}
use Rattle.hol_formulas.specs.declared.formula.Constants.{Constants}
use Rattle.lcf_kernel.specs.declared.thm.Made.TheVariants.{Rule}
use Rattle.lcf_kernel.specs.KernelState.{KernelState, HasThm, concl_of, hyps_of, bare_of, facts_of, fact_of, context_of, Follows, IsThm, IsKernel, IsOutside, GivesHyps}
use Rattle.hol_formulas.specs.Formulas.{trees, HasFormula, HasFormulas}
use Rattle.std.proofs.lemmas.Grind.{get_or_default_zero}
use Rattle.hol_formulas.proofs.ListLemmas.{In-from_Contains}
use Rattle.hol_formulas.proofs.TreesLemmas.{in_trees}
use Rattle.lcf_kernel.proofs.KeepLemmas.{thm_is}
use Rattle.lcf_kernel.proofs.RuleLemmas.{right_formula, follows_assume, follows_fact, follows_imp_i, follows_imp_e, follows_not_e, follows_false_e, follows_classical}

stands_at : (ts : List ℕ) (i : ℕ) → i < length ts → In (slice_index ts i) ts
stands_at ts i below = In-from_Contains ts (slice_index ts i) (i, below, get_or_default_zero ts i (slice_index ts i) below)

-- the fact of a number
pub fact_formula : (s : TermStore) (facts : List ℕ) → HasFormulas s facts → (i t : ℕ) → i < length facts → t ≡ slice_index facts i → HasFormula s t
fact_formula s facts all i t below e = rw e (all.each (slice_index facts i) (stands_at facts i below))

module _ (k : KernelState) (is : IsKernel k) (hyps : List ℕ) where
  -- what the record of a premise says, where its conclusion is known
  said : (a : ℕ) → HasThm k a → (f : Term) → concl_of k a ≡ f → Follows (facts_of k) (context_of k ++ hyps_of k a) (bare_of k a) f
  said a has f e = subst (λ u. Follows (facts_of k) (context_of k ++ hyps_of k a) (bare_of k a) u) e (thm_is k is a has).follows

  rule : (given : List Term) (concl : ℕ) (bare : Bool) → GivesHyps k hyps given → HasFormula k.store concl → Follows (facts_of k) (context_of k ++ trees k.store hyps) bare (term_tree k.store concl) → IsThm k.store k.facts k.context (record { hyps = hyps; concl = concl; made = Rule; bare = bare })
  rule given concl bare gives formula follows = record { concl = formula; hyps = gives.hyps; follows = follows }

  pub rule_assume : (t : ℕ) → HasTerm k.store t → IsFormula (term_tree k.store t) → GivesHyps k hyps (trees k.store hyps) → IsOutside (context_of k) (term_tree k.store t ∷ []) (trees k.store hyps) → IsThm k.store k.facts k.context (record { hyps = hyps; concl = t; made = Rule; bare = true })
  rule_assume t there formula gives out =
      rule (trees k.store hyps) t true gives (record { there = there; formula = formula }) (follows_assume (facts_of k) (context_of k) (trees k.store hyps) gives.formulas (term_tree k.store t) out)

  pub rule_fact : (i t : ℕ) (σ : TypeSubst) → i < length k.facts → HasTerm k.store t → term_tree k.store t ≡ subst_types σ (fact_of k i) → GivesHyps k hyps [] → IsThm k.store k.facts k.context (record { hyps = hyps; concl = t; made = Rule; bare = false })
  rule_fact i t σ below there e gives =
      let at : In (slice_index k.facts i) k.facts = stands_at k.facts i below in
      let formula = instance_is_formula σ (fact_of k i) (is.facts.each (slice_index k.facts i) at).formula in
      rule [] t false gives (record { there = there; formula = rw e formula })
      (rw e (follows_fact (facts_of k) (context_of k) (trees k.store hyps) gives.formulas σ (fact_of k i) (in_trees k.store (slice_index k.facts i) k.facts at)))

  pub rule_imp_i : (a t concl : ℕ) → HasThm k a → IsFormula (term_tree k.store t) → GivesHyps k hyps (without (term_tree k.store t) (hyps_of k a)) → HasFormula k.store concl → term_tree k.store concl ≡ implication (term_tree k.store t) (concl_of k a) → (bare : Bool) → bare ≡ bare_of k a → IsThm k.store k.facts k.context (record { hyps = hyps; concl = concl; made = Rule; bare = bare })
  rule_imp_i a t concl has formula gives made e bare b =
      rule (without (term_tree k.store t) (hyps_of k a)) concl bare gives made
      (rw (e, b) (follows_imp_i (facts_of k) (context_of k) (trees k.store hyps) gives.formulas (hyps_of k a) (bare_of k a) (concl_of k a) (term_tree k.store t) formula gives.same (said a has (concl_of k a) refl)))

  pub rule_imp_e : (a b l r : ℕ) → HasThm k a → HasThm k b → GivesHyps k hyps (hyps_of k a ++ hyps_of k b) → HasTerm k.store r → concl_of k a ≡ implication (term_tree k.store l) (term_tree k.store r) → term_tree k.store l ≡ concl_of k b → (bare : Bool) → bare ≡ (bare_of k a && bare_of k b) → IsThm k.store k.facts k.context (record { hyps = hyps; concl = r; made = Rule; bare = bare })
  rule_imp_e a b l r has_a has_b gives there e same bare p =
      let whole = subst (λ f. IsFormula f) e (thm_is k is a has_a).concl.formula in
      rule (hyps_of k a ++ hyps_of k b) r bare gives (record { there = there; formula = right_formula (term_tree k.store l) (term_tree k.store r) whole })
      (rw p (follows_imp_e (facts_of k) (context_of k) (trees k.store hyps) gives.formulas (hyps_of k a) (hyps_of k b) (bare_of k a) (bare_of k b) (term_tree k.store l) (term_tree k.store r) gives.same (said a has_a (implication (term_tree k.store l) (term_tree k.store r)) e) (said b has_b (term_tree k.store l) (sym same))))

  -- false is the kernel's constant
  false_formula : (c : Constants) → AreConstants k.store c → HasFormula k.store c.falsity
  false_formula c are = record { there = are.falsity.there; formula = rw are.falsity.is false_is_formula }

  pub rule_not_e : (a b l : ℕ) (c : Constants) → HasThm k a → HasThm k b → GivesHyps k hyps (hyps_of k a ++ hyps_of k b) → AreConstants k.store c → concl_of k a ≡ negation (term_tree k.store l) → term_tree k.store l ≡ concl_of k b → (bare : Bool) → bare ≡ (bare_of k a && bare_of k b) → IsThm k.store k.facts k.context (record { hyps = hyps; concl = c.falsity; made = Rule; bare = bare })
  rule_not_e a b l c has_a has_b gives are e same bare p =
      rule (hyps_of k a ++ hyps_of k b) c.falsity bare gives (false_formula c are)
      (rw (p, are.falsity.is) (follows_not_e (facts_of k) (context_of k) (trees k.store hyps) gives.formulas (hyps_of k a) (hyps_of k b) (bare_of k a) (bare_of k b) (term_tree k.store l) gives.same (said a has_a (negation (term_tree k.store l)) e) (said b has_b (term_tree k.store l) (sym same))))

  pub rule_false_e : (a t : ℕ) → HasThm k a → HasTerm k.store t → IsFormula (term_tree k.store t) → GivesHyps k hyps (hyps_of k a) → concl_of k a ≡ false_tm → (bare : Bool) → bare ≡ bare_of k a → IsThm k.store k.facts k.context (record { hyps = hyps; concl = t; made = Rule; bare = bare })
  rule_false_e a t has there formula gives e bare p =
      rule (hyps_of k a) t bare gives (record { there = there; formula = formula })
      (rw p (follows_false_e (facts_of k) (context_of k) (trees k.store hyps) gives.formulas (hyps_of k a) (bare_of k a) (term_tree k.store t) formula gives.same (said a has false_tm e)))

  pub rule_classical : (a t n : ℕ) → HasThm k a → HasTerm k.store t → IsFormula (term_tree k.store t) → term_tree k.store n ≡ negation (term_tree k.store t) → GivesHyps k hyps (without (term_tree k.store n) (hyps_of k a)) → concl_of k a ≡ false_tm → (bare : Bool) → bare ≡ bare_of k a → IsThm k.store k.facts k.context (record { hyps = hyps; concl = t; made = Rule; bare = bare })
  rule_classical a t n has there formula neg gives e bare p =
      let same = rw neg at gives.same in
      rule (without (term_tree k.store n) (hyps_of k a)) t bare gives (record { there = there; formula = formula })
      (rw p (follows_classical (facts_of k) (context_of k) (trees k.store hyps) gives.formulas (hyps_of k a) (bare_of k a) (term_tree k.store t) formula same (said a has false_tm e)))
