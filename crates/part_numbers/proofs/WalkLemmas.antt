-- A walk over the parts of a term.
use Rattle.std.proofs.Common.{◌≡◌, ◌⊎◌, ℕ, ◌<◌, ◌≤◌, List, [], ◌∷◌, ◌++◌, length, Bool, true, false, true≢false, not, cond, inl, inr, ⊎_elim, refl, sym, ap, subst, ◌∙◌, arith, nat_eq, eq-eqb}
use Rattle.std.specs.Prelude.{fold, ◌||◌}
use Rattle.std.specs.List.{AllByRecursion, list_any}
use Rattle.std.proofs.lemmas.List.{map-append, length-append}
use Rattle.std.proofs.lemmas.List.Sums.{fold-append}
use Rattle.indexmap.specs.IndexSet.{insert_key}
use Rattle.hol_types.proofs.TypeLemmas.{eqb_sound}
use Rattle.hol_terms.specs.Term.{Term}
use Rattle.hol_terms.specs.TermEq.{term_eq}
use Rattle.hol_terms.specs.TermStore.{TermStore, HasTerm, TermsApart, term_tree}
use Rattle.hol_terms.specs.Formula.{In}
use Rattle.hol_terms.proofs.TermEqLemmas.{term_eq_sound, term_eq_same}
use Rattle.hol_terms.proofs.SetLemmas.{in_append_left, in_append_right, in_append_either, in_map}
use Rattle.part_numbers.specs.Parts.{met_in, met_beneath, with_part, with_parts_of}
use Rattle.part_numbers.specs.Walk.{terms_at, ahead, Pushes, IsCovered, AreCovered, AreReady, IsWalk}
use Rattle.part_numbers.proofs.StackLemmas.{ahead_append, ahead_last, all_append}

-- ---- parts, one more

any_here : (x : Term) (ps : List Term) → In x ps → list_any (term_eq x) ps ≡ true
any_here x [] h = absurd h
any_here x (p ∷ ps) (inl e) = rw (term_eq_same x p e) refl
any_here x (p ∷ ps) (inr h) = by (term_eq x p) (any_here x ps h)
  where
    by : (b : Bool) → list_any (term_eq x) ps ≡ true → (b || list_any (term_eq x) ps) ≡ true
    by true r = refl
    by false r = r

-- parts that are there add nothing
skip_all : (ps xs : List Term) → ((x : Term) → In x xs → In x ps) → fold with_part ps xs ≡ ps
skip_all ps [] h = refl
skip_all ps (x ∷ xs) h = ap (λ l. fold with_part l xs) (ap (λ b. cond b ps (ps ++ x ∷ [])) (any_here x ps (h x (inl refl)))) ∙ skip_all ps xs (λ y i. h y (inr i))

same_test : (p q : Bool) → (p ≡ true → q ≡ true) → (q ≡ true → p ≡ true) → p ≡ q
same_test true q to from = sym (to refl)
same_test false true to from = from refl
same_test false false to from = refl

member_in : (t : ℕ) (ids : List ℕ) → list_any (nat_eq t) ids ≡ true → In t ids
member_in t [] h = absurd (true≢false (sym h))
member_in t (x ∷ ids) h = by (nat_eq t x) refl (λ r. member_in t ids r)
  where
    by : (b : Bool) → nat_eq t x ≡ b → (list_any (nat_eq t) ids ≡ true → In t ids) → In t (x ∷ ids)
    by true e r = inl (eqb_sound t x e)
    by false e r = inr (r (sym (ap (λ b. b || list_any (nat_eq t) ids) e) ∙ h))

pub first_pushed : {stack new : List ℕ} {t : ℕ} → new ≡ stack ++ t ∷ [] → stack ≡ [] → new ≡ t ∷ []
first_pushed {stack} {new} {t} e none = e ∙ ap (λ m. m ++ t ∷ []) none

not_false : (b : Bool) → not b ≡ false → b ≡ true
not_false true h = refl
not_false false h = absurd (true≢false h)

not_true : (b : Bool) → not b ≡ true → b ≡ false
not_true false h = refl
not_true true h = absurd (true≢false (sym h))

module _ (s : TermStore) where
  -- equal numbers are equal trees
  pub tree_same : TermsApart s → (t x : ℕ) → HasTerm s t → HasTerm s x → nat_eq t x ≡ term_eq (term_tree s t) (term_tree s x)
  tree_same apart t x there too = same_test (nat_eq t x) (term_eq (term_tree s t) (term_tree s x)) to from
    where
      to : nat_eq t x ≡ true → term_eq (term_tree s t) (term_tree s x) ≡ true
      to h = term_eq_same (term_tree s t) (term_tree s x) (ap (λ n. term_tree s n) (eqb_sound t x h))

      from : term_eq (term_tree s t) (term_tree s x) ≡ true → nat_eq t x ≡ true
      from h = eq-eqb t x (apart t x there too (term_eq_sound (term_tree s t) (term_tree s x) h))

  pub member_same : TermsApart s → (t : ℕ) → HasTerm s t → (ids : List ℕ) → AllByRecursion (HasTerm s) ids → list_any (nat_eq t) ids ≡ list_any (term_eq (term_tree s t)) (terms_at s ids)
  member_same apart t there [] all = refl
  member_same apart t there (x ∷ ids) all =
      let e = tree_same apart t x there all.0 in
      let r = member_same apart t there ids all.1 in
      rw (e, r) refl

  -- ---- what is covered

  here_in : (parts : List ℕ) (n : ℕ) → In (term_tree s n) (terms_at s (parts ++ n ∷ []))
  here_in parts n = in_map (λ t. term_tree s t) n (parts ++ n ∷ []) (in_append_right n parts (n ∷ []) (inl refl))

  front_in : (parts : List ℕ) (n : ℕ) (x : Term) → In x (terms_at s parts) → In x (terms_at s (parts ++ n ∷ []))
  front_in parts n x h = subst (λ l. In x l) (sym (map-append (λ t. term_tree s t) parts (n ∷ []))) (in_append_left x (terms_at s parts) (terms_at s (n ∷ [])) h)

  -- what was to come is among the parts
  covered_now : (parts : List ℕ) (n : ℕ) (more : List Term) → IsCovered s parts [] n → (p : ℕ) → IsCovered s parts (met_in (term_tree s n) ++ more) p → IsCovered s parts more p
  covered_now parts n more all p c x i = ⊎_elim (λ (h : In x (terms_at s parts)). inl h) (λ h. ⊎_elim (λ (k : In x (met_in (term_tree s n))). ⊎_elim (λ (m : In x (terms_at s parts)). inl m) (λ m. absurd m) (all x k)) (λ k. inr k) (in_append_either x (met_in (term_tree s n)) more h)) (c x i)

  -- the next one joins the parts
  covered_add : (parts : List ℕ) (n : ℕ) (more : List Term) (p : ℕ) → IsCovered s parts (met_in (term_tree s n) ++ more) p → IsCovered s (parts ++ n ∷ []) (met_beneath (term_tree s n) ++ more) p
  covered_add parts n more p c x i = ⊎_elim (λ (h : In x (terms_at s parts)). inl (front_in parts n x h)) (λ h. by h) (c x i)
    where
      by : In x (met_in (term_tree s n) ++ more) → In x (terms_at s (parts ++ n ∷ [])) ⊎ In x (met_beneath (term_tree s n) ++ more)
      by (inl e) = inl (subst (λ y. In y (terms_at s (parts ++ n ∷ []))) (sym e) (here_in parts n))
      by (inr k) = inr k

  -- and what is met in it comes
  covered_self : (parts : List ℕ) (n : ℕ) (more : List Term) → IsCovered s (parts ++ n ∷ []) (met_beneath (term_tree s n) ++ more) n
  covered_self parts n more x (inl e) = inl (subst (λ y. In y (terms_at s (parts ++ n ∷ []))) (sym e) (here_in parts n))
  covered_self parts n more x (inr k) = inr (in_append_left x (met_beneath (term_tree s n)) more k)

  covered_any : (parts : List ℕ) (n : ℕ) (more : List Term) → ((p : ℕ) → In p parts → IsCovered s parts (met_in (term_tree s n) ++ more) p) → (p : ℕ) → In p (parts ++ n ∷ []) → IsCovered s (parts ++ n ∷ []) (met_beneath (term_tree s n) ++ more) p
  covered_any parts n more all p i = ⊎_elim (λ (h : In p parts). covered_add parts n more p (all p h)) (λ h. by h) (in_append_either p parts (n ∷ []) i)
    where
      by : In p (n ∷ []) → IsCovered s (parts ++ n ∷ []) (met_beneath (term_tree s n) ++ more) p
      by (inl e) = subst (λ q. IsCovered s (parts ++ n ∷ []) (met_beneath (term_tree s n) ++ more) q) (sym e) (covered_self parts n more)
      by (inr k) = absurd k

  -- ---- what is ready

  -- the last of the stack
  ready_last : (parts rest : List ℕ) (n : ℕ) → AreReady s parts (rest ++ n ∷ []) → (p : ℕ) → In p parts → p ≤ n → IsCovered s parts [] p
  unfolding ahead
  ready_last parts [] n r = r.0
  ready_last parts (b ∷ bs) n r = ready_last parts bs n r.1

  ready_skip : (parts rest : List ℕ) (n : ℕ) → IsCovered s parts [] n → AreReady s parts (rest ++ n ∷ []) → AreReady s parts rest
  ready_skip parts [] n all r = tt
  ready_skip parts (b ∷ bs) n all r = (λ p i l. covered_now parts n (ahead s bs) all p (subst (λ m. IsCovered s parts m p) (ahead_last s bs n) (r.0 p i l)), ready_skip parts bs n all r.1)

  ready_pushed : (parts : List ℕ) (n : ℕ) → ((p : ℕ) → In p parts → p ≤ n → IsCovered s parts [] p) → (pushed : List ℕ) → AllByRecursion (λ t. t < n) pushed → AreReady s (parts ++ n ∷ []) pushed
  ready_pushed parts n all [] below = tt
  ready_pushed parts n all (c ∷ cs) below = (λ p i l. ⊎_elim (λ (h : In p parts). old p l h) (λ h. new p l h) (in_append_either p parts (n ∷ []) i), ready_pushed parts n all cs below.1)
    where
      old : (p : ℕ) → p ≤ c → In p parts → IsCovered s (parts ++ n ∷ []) (ahead s cs) p
      old p l h x i = ⊎_elim (λ (k : In x (terms_at s parts)). inl (front_in parts n x k)) (λ k. absurd k) (all p h (omega (arith, l, below.0)) x i)

      new : (p : ℕ) → p ≤ c → In p (n ∷ []) → IsCovered s (parts ++ n ∷ []) (ahead s cs) p
      new p l (inl e) = absurd (omega (arith, l, e, below.0))
      new p l (inr k) = absurd k

  ready_add : (parts rest : List ℕ) (n : ℕ) (pushed : List ℕ) → ahead s pushed ≡ met_beneath (term_tree s n) → AllByRecursion (λ t. t < n) pushed → AreReady s parts (rest ++ n ∷ []) → AreReady s (parts ++ n ∷ []) (rest ++ pushed)
  ready_add parts [] n pushed meets below r = ready_pushed parts n (ready_last parts [] n r) pushed below
  ready_add parts (b ∷ bs) n pushed meets below r = (λ p i l. subst (λ m. IsCovered s (parts ++ n ∷ []) m p) (sym (ahead_append s bs pushed ∙ ap (λ m. m ++ ahead s bs) meets)) (at p i l), ready_add parts bs n pushed meets below r.1)
    where
      -- parts that stand no higher, as a set of their own
      at : (p : ℕ) → In p (parts ++ n ∷ []) → p ≤ b → IsCovered s (parts ++ n ∷ []) (met_beneath (term_tree s n) ++ ahead s bs) p
      at p i l = ⊎_elim (λ (h : In p parts). covered_add parts n (ahead s bs) p (subst (λ m. IsCovered s parts m p) (ahead_last s bs n) (r.0 p h l))) (λ h. by h) (in_append_either p parts (n ∷ []) i)
        where
          by : In p (n ∷ []) → IsCovered s (parts ++ n ∷ []) (met_beneath (term_tree s n) ++ ahead s bs) p
          by (inl e) = subst (λ q. IsCovered s (parts ++ n ∷ []) (met_beneath (term_tree s n) ++ ahead s bs) q) (sym e) (covered_self parts n (ahead s bs))
          by (inr k) = absurd k

  -- ---- the walk

  all_front : (xs ys : List ℕ) → AllByRecursion (HasTerm s) (xs ++ ys) → AllByRecursion (HasTerm s) xs × AllByRecursion (HasTerm s) ys
  all_front [] ys a = (tt, a)
  all_front (x ∷ xs) ys a = let r = all_front xs ys a.1 in ((a.0, r.0), r.1)

  module _ (old : List ℕ) (t : ℕ) where
    pub walk_start : HasTerm s t → AllByRecursion (HasTerm s) old → AreCovered s old [] → IsWalk s old t old (t ∷ [])
    unfolding ahead
    walk_start there all covered = record {
      parts_there = all;
      stack_there = (there, tt);
      covered = λ p i x k. ⊎_elim (λ (h : In x (terms_at s old)). inl h) (λ h. absurd h) (covered p i x k);
      ready = (λ p i l. covered p i, tt);
      read = refl;
    }

    pub walk_end : (parts : List ℕ) → IsWalk s old t parts [] → (terms_at s parts ≡ with_parts_of (terms_at s old) (term_tree s t)) × AreCovered s parts []
    unfolding ahead
    walk_end parts w = (w.read, w.covered)

    -- the next one is there already
    pub walk_skip : (parts rest : List ℕ) (n : ℕ) → IsWalk s old t parts (rest ++ n ∷ []) → list_any (nat_eq n) parts ≡ true → IsWalk s old t parts rest
    walk_skip parts rest n w found =
        let n_in : In n parts = member_in n parts found in
        let all : IsCovered s parts [] n = ready_last parts rest n w.ready n n_in (omega arith) in
        let none : (x : Term) → In x (met_in (term_tree s n)) → In x (terms_at s parts) = λ x i. ⊎_elim (λ (h : In x (terms_at s parts)). h) (λ h. absurd h) (all x i) in
        let split : fold with_part (terms_at s parts) (ahead s (rest ++ n ∷ [])) ≡ fold with_part (terms_at s parts) (ahead s rest) =
        ap (λ m. fold with_part (terms_at s parts) m) (ahead_last s rest n) ∙ fold-append with_part (terms_at s parts) (met_in (term_tree s n)) (ahead s rest) ∙ ap (λ ps. fold with_part ps (ahead s rest)) (skip_all (terms_at s parts) (met_in (term_tree s n)) none) in
        record {
          parts_there = w.parts_there;
          stack_there = (all_front rest (n ∷ []) w.stack_there).0;
          covered = λ p i. covered_now parts n (ahead s rest) all p (subst (λ m. IsCovered s parts m p) (ahead_last s rest n) (w.covered p i));
          ready = ready_skip parts rest n all w.ready;
          read = sym split ∙ w.read;
        }

    -- the next one is new
    pub walk_add : TermsApart s → (parts rest new : List ℕ) (n : ℕ) → IsWalk s old t parts (rest ++ n ∷ []) → list_any (nat_eq n) parts ≡ false → Pushes s n rest new (met_beneath (term_tree s n)) → IsWalk s old t (parts ++ n ∷ []) new
    walk_add apart parts rest new n w fresh p =
        let there = all_front rest (n ∷ []) w.stack_there in
        let more : ahead s (rest ++ p.pushed) ≡ met_beneath (term_tree s n) ++ ahead s rest = ahead_append s rest p.pushed ∙ ap (λ m. m ++ ahead s rest) p.meets in
        let unmet : list_any (term_eq (term_tree s n)) (terms_at s parts) ≡ false = sym (member_same apart n there.1.0 parts w.parts_there) ∙ fresh in
        let one : terms_at s (parts ++ n ∷ []) ≡ with_part (terms_at s parts) (term_tree s n) = map-append (λ u. term_tree s u) parts (n ∷ []) ∙ sym (ap (λ b. cond b (terms_at s parts) (terms_at s parts ++ term_tree s n ∷ [])) unmet) in
        let read : fold with_part (terms_at s (parts ++ n ∷ [])) (ahead s (rest ++ p.pushed)) ≡ with_parts_of (terms_at s old) (term_tree s t) =
        ap (λ ps. fold with_part ps (ahead s (rest ++ p.pushed))) one ∙ ap (λ m. fold with_part (with_part (terms_at s parts) (term_tree s n)) m) more ∙ sym (ap (λ m. fold with_part (terms_at s parts) m) (ahead_last s rest n)) ∙ w.read in
        subst (λ stack. IsWalk s old t (parts ++ n ∷ []) stack) (sym p.stack) (record {
          parts_there = all_append (HasTerm s) parts (n ∷ []) w.parts_there (there.1.0, tt);
          stack_there = all_append (HasTerm s) rest p.pushed there.0 p.there;
          covered = λ q i. subst (λ m. IsCovered s (parts ++ n ∷ []) m q) (sym more) (covered_any parts n (ahead s rest) (λ r k. subst (λ m. IsCovered s parts m r) (ahead_last s rest n) (w.covered r k)) q i);
          ready = ready_add parts rest n p.pushed p.meets p.below w.ready;
          read = read;
        })

    pub walk_next : (parts stack rest : List ℕ) (n : ℕ) → stack ≡ rest ++ n ∷ [] → IsWalk s old t parts stack → HasTerm s n
    walk_next parts stack rest n e w = (all_front rest (n ∷ []) (subst (λ m. AllByRecursion (HasTerm s) m) e w.stack_there)).1.0

    module _ (parts stack rest : List ℕ) (n : ℕ) (e : stack ≡ rest ++ n ∷ []) (w : IsWalk s old t parts stack) (keys : List ℕ) (put : keys ≡ insert_key nat_eq parts n) (fresh : Bool) (is : fresh ≡ not (list_any (nat_eq n) parts)) where
      here : IsWalk s old t parts (rest ++ n ∷ [])
      here = subst (λ m. IsWalk s old t parts m) e w

      pub walk_skipped : fresh ≡ false → IsWalk s old t keys rest
      walk_skipped seen =
          let found = not_false (list_any (nat_eq n) parts) (sym is ∙ seen) in
          subst (λ ks. IsWalk s old t ks rest) (sym (put ∙ ap (λ b. cond b parts (parts ++ n ∷ [])) found)) (walk_skip parts rest n here found)

      pub walk_added : TermsApart s → (new : List ℕ) → fresh ≡ true → Pushes s n rest new (met_beneath (term_tree s n)) → IsWalk s old t keys new
      walk_added apart new added p =
          let missing = not_true (list_any (nat_eq n) parts) (sym is ∙ added) in
          subst (λ ks. IsWalk s old t ks new) (sym (put ∙ ap (λ b. cond b parts (parts ++ n ∷ [])) missing)) (walk_add apart parts rest new n here missing p)

  -- a walk comes to its end
  pub shorter_skip : (rest : List ℕ) (n : ℕ) → length (ahead s rest) < length (ahead s (rest ++ n ∷ []))
  shorter_skip rest n =
      let e = ap (λ m. length m) (ahead_last s rest n) ∙ length-append (met_in (term_tree s n)) (ahead s rest) in
      omega (arith, e)

  pub shorter_add : (rest new : List ℕ) (n : ℕ) → Pushes s n rest new (met_beneath (term_tree s n)) → length (ahead s new) < length (ahead s (rest ++ n ∷ []))
  shorter_add rest new n p =
      let e = ap (λ m. length m) (ahead_last s rest n) ∙ length-append (met_in (term_tree s n)) (ahead s rest) in
      let f = ap (λ m. length (ahead s m)) p.stack ∙ ap (λ m. length m) (ahead_append s rest p.pushed ∙ ap (λ m. m ++ ahead s rest) p.meets) ∙ length-append (met_beneath (term_tree s n)) (ahead s rest) in
      omega (arith, e, f)
