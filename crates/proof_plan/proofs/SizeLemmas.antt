-- How large a rule application is.
use Rattle.std.proofs.Common.{◌≡◌, ℕ, List, [], ◌∷◌, true, false, cond, length, refl, sym, ap, ◌∙◌, nat_lt}
use Rattle.std.specs.List.{AllByRecursion}
use Rattle.std.proofs.lemmas.List.{length-map}
use Rattle.hol_terms.specs.TermStore.{TermStore, HasTerm, Keeps, term_tree}
use Rattle.part_numbers.specs.Parts.{parts_of}
use Rattle.part_numbers.specs.Walk.{terms_at}
use Rattle.proof_plan.specs.declared.why.Why.TheVariants.{TooLarge}
use Rattle.proof_plan.specs.PlanValue.{PlanValue, claim_of, premise_claims}
use Rattle.proof_plan.specs.Accept.{Accept, refused, row_answer, step_answer, count_of}

terms_kept : (s u : TermStore) → Keeps s u → (ts : List ℕ) → AllByRecursion (HasTerm s) ts → terms_at u ts ≡ terms_at s ts
terms_kept s u k [] all = refl
terms_kept s u k (t ∷ ts) all =
    let e = k.trees t all.0 in
    let r = terms_kept s u k ts all.1 in
    rw (e, r) refl

module _ (p : PlanValue) (k : ℕ) where
  pub count_is : (s : TermStore) → Keeps p.store s → (ts ns : List ℕ) → AllByRecursion (HasTerm p.store) ts → terms_at p.store ts ≡ claim_of p k ∷ premise_claims p k → terms_at s ns ≡ parts_of (terms_at s ts) → length ns ≡ count_of (premise_claims p k) (claim_of p k)
  unfolding count_of
  count_is s keeps ts ns there trees parts = sym (length-map ns (λ t. term_tree s t)) ∙ ap (λ l. length l) (parts ∙ ap parts_of (terms_kept p.store s keeps ts there ∙ trees))

  pub large : (n : ℕ) → n ≡ count_of (premise_claims p k) (claim_of p k) → nat_lt 100000 n ≡ true → Accept p k ≡ refused (TooLarge n)
  unfolding Accept step_answer row_answer
  large n e more = ap (λ b. cond b (refused (TooLarge (count_of (premise_claims p k) (claim_of p k)))) (row_answer p k)) (ap (nat_lt 100000) (sym e) ∙ more) ∙ ap (λ m. refused (TooLarge m)) (sym e)

  pub small : (n : ℕ) → n ≡ count_of (premise_claims p k) (claim_of p k) → nat_lt 100000 n ≡ false → Accept p k ≡ row_answer p k
  unfolding Accept step_answer row_answer
  small n e few = ap (λ b. cond b (refused (TooLarge (count_of (premise_claims p k) (claim_of p k)))) (row_answer p k)) (ap (nat_lt 100000) (sym e) ∙ few)
