-- Sets of numbers, and the trees that they stand for.
use Rattle.std.proofs.Common.{◌≡◌, ℕ, List, [], ◌∷◌, ◌++◌, Bool, true, false, true≢false, ◌||◌, drop, get_or, length, ◌<◌, ◌+◌, inl, inr, refl, sym, ap, ◌∙◌, rules, nat_eq}
use Rattle.std.specs.List.{list_any}
use Rattle.std.proofs.lemmas.List.{drop_more}
use Rattle.indexmap.specs.IndexSet.{insert_key}
use Rattle.hol_types.proofs.TypeLemmas.{eqb_sound}
use Rattle.hol_terms.specs.TermEq.{term_eq}
use Rattle.hol_terms.specs.TermStore.{TermStore, HasTerm, TermsApart, term_tree}
use Rattle.hol_terms.specs.Formula.{In}
use Rattle.hol_terms.proofs.TermEqLemmas.{term_eq_refl, term_eq_sound}
use Rattle.goal_text.specs.Scope.{terms_at}
use Rattle.goal_text.specs.Sentences.{HaveSentences}

any_append : {A : Type 0} (f : A → Bool) (xs : List A) (y : A) → list_any f (xs ++ y ∷ []) ≡ (list_any f xs || f y)
any_append f [] y = by (f y) refl
  where
    by : (b : Bool) → f y ≡ b → list_any f (y ∷ []) ≡ f y
    by true e = rw e refl
    by false e = rw e refl
any_append f (x ∷ xs) y = by (f x) refl (any_append f xs y)
  where
    by : (b : Bool) → f x ≡ b → list_any f (xs ++ y ∷ []) ≡ (list_any f xs || f y) → list_any f ((x ∷ xs) ++ y ∷ []) ≡ (list_any f (x ∷ xs) || f y)
    by true e r = rw e refl
    by false e r = rw e r

nat_refl : (n : ℕ) → nat_eq n n ≡ true
nat_refl n = search rules

absorbed : (p q r : Bool) → (q ≡ true → p ≡ true) → (p || r) ≡ ((p || q) || r)
absorbed true q r h = refl
absorbed false true r h = absurd (true≢false (sym (h refl)))
absorbed false false r h = refl

moved : (p q r : Bool) → ((p || q) || r) ≡ (p || (q || r))
moved true q r = refl
moved false true r = refl
moved false false r = refl

-- one more number, which may be there already
pub insert_any : (keys : List ℕ) (x t : ℕ) (later : Bool) → (list_any (nat_eq t) (insert_key nat_eq keys x) || later) ≡ (list_any (nat_eq t) keys || (nat_eq t x || later))
insert_any keys x t later = by (list_any (nat_eq x) keys) refl
  where
    by : (b : Bool) → list_any (nat_eq x) keys ≡ b → (list_any (nat_eq t) (insert_key nat_eq keys x) || later) ≡ (list_any (nat_eq t) keys || (nat_eq t x || later))
    by true e =
        let there : nat_eq t x ≡ true → list_any (nat_eq t) keys ≡ true = λ h. ap (λ n. list_any (nat_eq n) keys) (eqb_sound t x h) ∙ e in
        rw e (absorbed (list_any (nat_eq t) keys) (nat_eq t x) later there ∙ moved (list_any (nat_eq t) keys) (nat_eq t x) later)
    by false e = rw e (ap (λ b. b || later) (any_append (nat_eq t) keys x) ∙ moved (list_any (nat_eq t) keys) (nat_eq t x) later)

pub set_step : (keys more xs : List ℕ) (i x t : ℕ) → i < length xs → x ≡ get_or xs i x → more ≡ insert_key nat_eq keys x
    → (list_any (nat_eq t) keys || list_any (nat_eq t) (drop i xs)) ≡ list_any (nat_eq t) xs
    → (list_any (nat_eq t) more || list_any (nat_eq t) (drop (i + 1) xs)) ≡ list_any (nat_eq t) xs
set_step keys more xs i x t below is e so_far =
    let split = drop_more xs i x below in
    let here : get_or xs i x ≡ x = sym is in
    let step = insert_any keys x t (list_any (nat_eq t) (drop (i + 1) xs)) in
    let next : drop i xs ≡ x ∷ drop (i + 1) xs = split ∙ ap (λ y. y ∷ drop (i + 1) xs) here in
    let front : (list_any (nat_eq t) keys || (nat_eq t x || list_any (nat_eq t) (drop (i + 1) xs))) ≡ list_any (nat_eq t) xs = ap (λ l. list_any (nat_eq t) keys || list_any (nat_eq t) l) (sym next) ∙ so_far in
    ap (λ k. list_any (nat_eq t) k || list_any (nat_eq t) (drop (i + 1) xs)) e ∙ step ∙ front

same_test : (p q : Bool) → (p ≡ true → q ≡ true) → (q ≡ true → p ≡ true) → p ≡ q
same_test true q to from = sym (to refl)
same_test false true to from = from refl
same_test false false to from = refl

-- equal numbers are equal trees
pub tree_same : (s : TermStore) → TermsApart s → (t x : ℕ) → HasTerm s t → HasTerm s x → nat_eq t x ≡ term_eq (term_tree s t) (term_tree s x)
tree_same s apart t x there too = same_test (nat_eq t x) (term_eq (term_tree s t) (term_tree s x)) to from
  where
    to : nat_eq t x ≡ true → term_eq (term_tree s t) (term_tree s x) ≡ true
    to h = ap (λ n. term_eq (term_tree s t) (term_tree s n)) (sym (eqb_sound t x h)) ∙ term_eq_refl (term_tree s t)

    from : term_eq (term_tree s t) (term_tree s x) ≡ true → nat_eq t x ≡ true
    from h = ap (nat_eq t) (sym (apart t x there too (term_eq_sound (term_tree s t) (term_tree s x) h))) ∙ nat_refl t

pub member_same : (s : TermStore) → TermsApart s → (t : ℕ) → HasTerm s t → (ids : List ℕ) → HaveSentences s ids → list_any (nat_eq t) ids ≡ list_any (term_eq (term_tree s t)) (terms_at s ids)
member_same s apart t there [] all = refl
member_same s apart t there (x ∷ ids) all =
    let e = tree_same s apart t x there all.0.there in
    let r = member_same s apart t there ids all.1 in
    rw (e, r) refl

pub member_in : (t : ℕ) (ids : List ℕ) → list_any (nat_eq t) ids ≡ true → In t ids
member_in t [] h = absurd (true≢false (sym h))
member_in t (x ∷ ids) h = by (nat_eq t x) refl (λ r. member_in t ids r)
  where
    by : (b : Bool) → nat_eq t x ≡ b → (list_any (nat_eq t) ids ≡ true → In t ids) → In t (x ∷ ids)
    by true e r = inl (eqb_sound t x e)
    by false e r = inr (r (sym (ap (λ b. b || list_any (nat_eq t) ids) e) ∙ h))
