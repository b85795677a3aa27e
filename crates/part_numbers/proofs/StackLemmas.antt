-- What is met on the way to the head of an application.
use Rattle.std.proofs.Common.{◌≡◌, ℕ, ◌<◌, ◌≤◌, ◌+◌, List, [], ◌∷◌, ◌++◌, refl, sym, ap, subst, ◌∙◌, arith}
use Rattle.std.proofs.lemmas.List.{append-nil, append_assoc}
use Rattle.std.specs.List.{AllByRecursion}
use Rattle.hol_types.specs.Ty.{Ty}
use Rattle.hol_terms.specs.Term.{Term, AppTm, LamTm}
use Rattle.hol_terms.specs.TermStore.{TermStore, HasTerm, term_tree}
use Rattle.part_numbers.specs.Parts.{met_in, met_at_head, met_beneath}
use Rattle.part_numbers.specs.Walk.{ahead, Pushes, IsPassed}

pub ahead_append : (s : TermStore) (xs ys : List ℕ) → ahead s (xs ++ ys) ≡ ahead s ys ++ ahead s xs
unfolding ahead
ahead_append s [] ys = sym (append-nil (ahead s ys))
ahead_append s (x ∷ xs) ys = ap (λ l. l ++ met_in (term_tree s x)) (ahead_append s xs ys) ∙ append_assoc (ahead s ys) (ahead s xs) (met_in (term_tree s x))

pub ahead_last : (s : TermStore) (xs : List ℕ) (t : ℕ) → ahead s (xs ++ t ∷ []) ≡ met_in (term_tree s t) ++ ahead s xs
unfolding ahead
ahead_last s xs t = ahead_append s xs (t ∷ [])

pub all_append : {A : Type 0} (P : A → Type 0) (xs ys : List A) → AllByRecursion P xs → AllByRecursion P ys → AllByRecursion P (xs ++ ys)
all_append P [] ys a b = b
all_append P (x ∷ xs) ys a b = (a.0, all_append P xs ys a.1 b)

pub all_less : (a b : ℕ) → a ≤ b → (xs : List ℕ) → AllByRecursion (λ t. t < a) xs → AllByRecursion (λ t. t < b) xs
all_less a b l [] h = tt
all_less a b l (x ∷ xs) h = (omega (arith, l, h.0), all_less a b l xs h.1)

module _ (s : TermStore) where
  pub pushes_none : (top : ℕ) (old : List ℕ) → Pushes s top old old []
  unfolding ahead
  pushes_none top old = record { pushed = []; stack = sym (append-nil old); below = tt; there = tt; meets = refl }

  -- one more term on top
  pub pushes_more : (top : ℕ) (old mid new : List ℕ) (met : List Term) (x : ℕ) → Pushes s top old mid met → x < top → HasTerm s x → new ≡ mid ++ x ∷ [] → Pushes s top old new (met_in (term_tree s x) ++ met)
  pushes_more top old mid new met x p l there e = record {
    pushed = p.pushed ++ x ∷ [];
    stack = e ∙ ap (λ m. m ++ x ∷ []) p.stack ∙ append_assoc old p.pushed (x ∷ []);
    below = all_append (λ t. t < top) p.pushed (x ∷ []) p.below (l, tt);
    there = all_append (HasTerm s) p.pushed (x ∷ []) p.there (there, tt);
    meets = ahead_last s p.pushed x ∙ ap (λ m. met_in (term_tree s x) ++ m) p.meets;
  }

  -- more terms on top
  pub pushes_both : (top low : ℕ) (old mid new : List ℕ) (met more : List Term) → low ≤ top → Pushes s top old mid met → Pushes s low mid new more → Pushes s top old new (more ++ met)
  pushes_both top low old mid new met more l p q = record {
    pushed = p.pushed ++ q.pushed;
    stack = q.stack ∙ ap (λ m. m ++ q.pushed) p.stack ∙ append_assoc old p.pushed q.pushed;
    below = all_append (λ t. t < top) p.pushed q.pushed p.below (all_less low top l q.pushed q.below);
    there = all_append (HasTerm s) p.pushed q.pushed p.there q.there;
    meets = ahead_append s p.pushed q.pushed ∙ ap (λ m. m ++ ahead s p.pushed) q.meets ∙ ap (λ m. more ++ m) p.meets;
  }

  module _ (t : ℕ) (old : List ℕ) where
    pub passed_start : HasTerm s t → IsPassed s t old old t
    passed_start there = record {
      there = there;
      below = omega arith;
      met = [];
      pushes = pushes_none (t + 1) old;
      meets = append-nil (met_at_head (term_tree s t));
    }

    pub passed_step : (mid new : List ℕ) (head f x : ℕ) → IsPassed s t old mid head → term_tree s head ≡ AppTm (term_tree s f) (term_tree s x) → f < head → x < head → new ≡ mid ++ x ∷ [] → IsPassed s t old new f
    passed_step mid new head f x p e lf lx stack = record {
      there = omega (arith, lf, p.there);
      below = omega (arith, lf, p.below);
      met = met_in (term_tree s x) ++ p.met;
      pushes = pushes_more (t + 1) old mid new p.met x p.pushes (omega (arith, lx, p.below)) (omega (arith, lx, p.there)) stack;
      meets = sym (append_assoc (met_at_head (term_tree s f)) (met_in (term_tree s x)) p.met) ∙ ap (λ u. met_at_head u ++ p.met) (sym e) ∙ p.meets;
    }

    -- a lambda is met as it stands
    pub passed_lambda : (mid new : List ℕ) (head b : ℕ) (ty : Ty) → IsPassed s t old mid head → term_tree s head ≡ LamTm ty (term_tree s b) → new ≡ mid ++ head ∷ [] → Pushes s (t + 1) old new (met_at_head (term_tree s t))
    passed_lambda mid new head b ty p e stack =
        let more = pushes_more (t + 1) old mid new p.met head p.pushes (omega (arith, p.below)) p.there stack in
        let same : met_in (term_tree s head) ≡ met_at_head (term_tree s head) = rw e refl in
        subst (λ m. Pushes s (t + 1) old new m) (ap (λ m. m ++ p.met) same ∙ p.meets) more

    -- anything else isn't
    pub passed_end : (mid : List ℕ) (head : ℕ) → IsPassed s t old mid head → met_at_head (term_tree s head) ≡ [] → Pushes s (t + 1) old mid (met_at_head (term_tree s t))
    passed_end mid head p e = subst (λ m. Pushes s (t + 1) old mid m) (ap (λ m. m ++ p.met) (sym e) ∙ p.meets) p.pushes

  -- what is met beneath an application, and beneath a lambda
  pub beneath_application : (t : ℕ) (old mid new : List ℕ) (f x : ℕ) → HasTerm s t → term_tree s t ≡ AppTm (term_tree s f) (term_tree s x) → f < t → x < t → mid ≡ old ++ x ∷ [] → Pushes s (f + 1) mid new (met_at_head (term_tree s f)) → Pushes s t old new (met_beneath (term_tree s t))
  beneath_application t old mid new f x there e lf lx stack p =
      let one = pushes_more t old old mid [] x (pushes_none t old) lx (omega (arith, lx, there)) stack in
      let all = pushes_both t (f + 1) old mid new (met_in (term_tree s x) ++ []) (met_at_head (term_tree s f)) (omega (arith, lf)) one p in
      subst (λ m. Pushes s t old new m) (ap (λ m. met_at_head (term_tree s f) ++ m) (append-nil (met_in (term_tree s x))) ∙ ap met_beneath (sym e)) all

  pub beneath_lambda : (t : ℕ) (old new : List ℕ) (b : ℕ) (ty : Ty) → HasTerm s t → term_tree s t ≡ LamTm ty (term_tree s b) → b < t → new ≡ old ++ b ∷ [] → Pushes s t old new (met_beneath (term_tree s t))
  beneath_lambda t old new b ty there e l stack =
      let one = pushes_more t old old new [] b (pushes_none t old) l (omega (arith, l, there)) stack in
      subst (λ m. Pushes s t old new m) (append-nil (met_in (term_tree s b)) ∙ ap met_beneath (sym e)) one

  pub beneath_leaf : (t : ℕ) (old : List ℕ) (leaf : Term) → term_tree s t ≡ leaf → met_beneath leaf ≡ [] → Pushes s t old old (met_beneath (term_tree s t))
  beneath_leaf t old leaf e none = subst (λ m. Pushes s t old old m) (sym (ap met_beneath e ∙ none)) (pushes_none t old)
