-- Looking for lambdas that aren't quantifiers' arguments.
use Rattle.std.proofs.Common.{◌≡◌, ◌∙◌, ℕ, zero, suc, ◌+◌, ◌<◌, ◌≤◌, ◌==◌, List, [], ◌∷◌, Bool, true, false, cond, inl, inr, length, drop, get_or, refl, sym, ap, subst, arith}
use Rattle.std.specs.Prelude.{nat_eq, ℤ}
use Rattle.std.specs.List.{AllByRecursion, list_any}
use Rattle.std.proofs.lemmas.List.{drop_all, drop_more}
use Rattle.std.specs.HashSet.{HashSet, contains}
use Rattle.std.specs.declared.hash.FoldHasher.{FoldHasher}
use Rattle.std.specs.declared.hash.BuildHasherDefault.{BuildHasherDefault}
use Rattle.std.proofs.lemmas.Bool.Decides.{nat_tests}
use Rattle.std.proofs.Math.Dec.{eqb}
use Rattle.hol_types.proofs.TypeLemmas.{eqb_sound}
use Rattle.hol_types.specs.Ty.{Ty}
use Rattle.hol_terms.specs.declared.node.FreeKind.{FreeKind}
use Rattle.hol_terms.specs.Term.{Term, FreeTm, BoundTm, ConstTm, NumTm, AppTm, LamTm}
use Rattle.hol_terms.specs.Deep.{IsPart}
use Rattle.hol_terms.specs.Formula.{In}
use Rattle.hol_terms.specs.TermStore.{TermStore, HasTerm, term_tree}
use Rattle.hol_formulas.specs.Formulas.{HasFormula, HasFormulas}
use Rattle.hol_formulas.specs.FoundTypes.{AreTypeVariables, type_variables_in}
use Rattle.goal_text.specs.Scope.{AreTerms, terms_at}
use Rattle.goal_text.specs.Sentences.{HaveSentences}
use Rattle.smt_cli.specs.LambdaWalk.{AllWithout}
use Rattle.smt_cli.specs.Unbuilt.{holds_lambda, is_quantifier, is_some_of, is_unbuilt}

module _ (s : TermStore) where
  -- one part more
  pub without_put : (m n : HashSet ℕ (BuildHasherDefault FoldHasher)) (t : ℕ) → AllWithout s m → ((q : ℕ) → contains nat_eq n q ≡ cond (nat_eq t q) true (contains nat_eq m q)) → holds_lambda false (term_tree s t) ≡ false → AllWithout s n
  without_put m n t old puts here = record { each = λ q h. by q (eqb t q) refl (sym (puts q) ∙ h) }
    where
      by : (q : ℕ) (b : Bool) → eqb t q ≡ b → cond b true (contains nat_eq m q) ≡ true → holds_lambda false (term_tree s q) ≡ false
      by q true e f = let P : ℕ → Type 0 = λ z. holds_lambda false (term_tree s z) ≡ false in subst P (eqb_sound t q e) here
      by q false e f = old.each q f

-- ---- terms by their forms

-- but for a lambda it doesn't matter whether a term is a quantifier's argument
module _ (argument : Bool) where
  pub same_app : (f x : Term) → holds_lambda false (AppTm f x) ≡ holds_lambda argument (AppTm f x)
  unfolding holds_lambda
  same_app f x = refl

  pub same_free : (k : FreeKind) (n : List ℕ) (t : Ty) → holds_lambda false (FreeTm k n t) ≡ holds_lambda argument (FreeTm k n t)
  unfolding holds_lambda
  same_free k n t = refl

  pub same_bound : (i : ℕ) (t : Ty) → holds_lambda false (BoundTm i t) ≡ holds_lambda argument (BoundTm i t)
  unfolding holds_lambda
  same_bound i t = refl

  pub same_const : (n : List ℕ) (t : Ty) → holds_lambda false (ConstTm n t) ≡ holds_lambda argument (ConstTm n t)
  unfolding holds_lambda
  same_const n t = refl

  pub same_num : (z : ℤ) → holds_lambda false (NumTm z) ≡ holds_lambda argument (NumTm z)
  unfolding holds_lambda
  same_num z = refl

pub lambda_body : (t : Ty) (b : Term) → holds_lambda false b ≡ holds_lambda true (LamTm t b)
unfolding holds_lambda
lambda_body t b = refl

pub lambda_alone : (t : Ty) (b : Term) → true ≡ holds_lambda false (LamTm t b)
unfolding holds_lambda
lambda_alone t b = refl

-- a term without parts holds none
pub free_none : (k : FreeKind) (n : List ℕ) (t : Ty) → false ≡ holds_lambda false (FreeTm k n t)
unfolding holds_lambda
free_none k n t = refl

pub bound_none : (i : ℕ) (t : Ty) → false ≡ holds_lambda false (BoundTm i t)
unfolding holds_lambda
bound_none i t = refl

pub const_none : (n : List ℕ) (t : Ty) → false ≡ holds_lambda false (ConstTm n t)
unfolding holds_lambda
const_none n t = refl

pub num_none : (z : ℤ) → false ≡ holds_lambda false (NumTm z)
unfolding holds_lambda
num_none z = refl

-- an application holds one where its parts do
pub holds_first : (f x : Term) → holds_lambda false f ≡ true → holds_lambda false (AppTm f x) ≡ true
unfolding holds_lambda
holds_first f x h = rw h refl

pub holds_second : (f x : Term) (b : Bool) → holds_lambda false f ≡ false → b ≡ holds_lambda (is_quantifier f) x → b ≡ holds_lambda false (AppTm f x)
unfolding holds_lambda
holds_second f x b h e = rw h e

-- the numbers of sentences are those of formulas
pub sentences_formulas : (s : TermStore) (ts : List ℕ) → HaveSentences s ts → HasFormulas s ts
sentences_formulas s ts all = record { each = λ t h. by ts all t h }
  where
    by : (us : List ℕ) → HaveSentences s us → (t : ℕ) → In t us → HasFormula s t
    by [] are t h = absurd h
    by (u ∷ us) are t (inl e) = let P : ℕ → Type 0 = λ v. HasFormula s v in subst P (sym e) (record { there = are.0.there; formula = are.0.sentence.formula })
    by (u ∷ us) are t (inr h) = by us are.1 t h

pub sentences_terms : (s : TermStore) (ts : List ℕ) → HaveSentences s ts → AreTerms s ts
sentences_terms s [] all = tt
sentences_terms s (t ∷ ts) all = (all.0.there, sentences_terms s ts all.1)

-- type variables are found where there are some
pub none_found : (s : TermStore) (found : List ℕ) (names : List (List ℕ)) → AreTypeVariables s.types found names → found ≡ [] → is_some_of names ≡ false
none_found s found [] are none = refl
none_found s found (n ∷ names) are none = let v = are.each n (inl refl) in absurd (let P : List ℕ → Type 0 = λ l. In v.type l in subst P none v.among)

pub some_found : (s : TermStore) (found : List ℕ) (names : List (List ℕ)) → AreTypeVariables s.types found names → (found ≡ [] → ⊥) → is_some_of names ≡ true
some_found s [] names are some = absurd (some refl)
some_found s (t ∷ found) [] are some = absurd ((are.only t (inl refl)).among)
some_found s (t ∷ found) (n ∷ names) are some = refl

-- parts are terms of the store
pub parts_there : (s : TermStore) (whole : Term) (ps : List ℕ) → AllByRecursion (IsPart s whole) ps → AreTerms s ps
parts_there s whole [] all = tt
parts_there s whole (p ∷ ps) all = (all.0.there, parts_there s whole ps all.1)

-- ---- terms one after the other

module _ (s : TermStore) (ts : List ℕ) (i t : ℕ) (total : Bool) (so_far : list_any (holds_lambda false) (terms_at s (drop i ts)) ≡ total) (below : i < length ts) (is : t ≡ get_or ts i t) where
  split : drop i ts ≡ t ∷ drop (i + 1) ts
  split = drop_more ts i t below ∙ ap (λ u. u ∷ drop (i + 1) ts) (sym is)

  one : list_any (holds_lambda false) (terms_at s (t ∷ drop (i + 1) ts)) ≡ total
  one = ap (λ us. list_any (holds_lambda false) (terms_at s us)) (sym split) ∙ so_far

  pub any_here : holds_lambda false (term_tree s t) ≡ true → true ≡ total
  any_here h =
      let here : list_any (holds_lambda false) (terms_at s (t ∷ drop (i + 1) ts)) ≡ true = rw h refl in
      sym here ∙ one

  pub any_later : holds_lambda false (term_tree s t) ≡ false → list_any (holds_lambda false) (terms_at s (drop (i + 1) ts)) ≡ total
  any_later h =
      let later : list_any (holds_lambda false) (terms_at s (t ∷ drop (i + 1) ts)) ≡ list_any (holds_lambda false) (terms_at s (drop (i + 1) ts)) = rw h refl in
      sym later ∙ one

pub any_done : (s : TermStore) (ts : List ℕ) (i : ℕ) (total : Bool) → list_any (holds_lambda false) (terms_at s (drop i ts)) ≡ total → length ts ≤ i → false ≡ total
any_done s ts i total so_far past = ap (λ us. list_any (holds_lambda false) (terms_at s us)) (sym (drop_all i ts past)) ∙ so_far

-- the term at a place is there
pub term_at : (s : TermStore) (ts : List ℕ) (i t : ℕ) → AreTerms s ts → i < length ts → HasTerm s (get_or ts i t)
term_at s [] i t all h = absurd (omega arith)
term_at s (u ∷ us) zero t all h = all.0
term_at s (u ∷ us) (suc i) t all h = term_at s us i t all.1 (omega arith)

-- ---- problems

-- a list of no length is empty
pub empty_when : (found : List ℕ) (n : ℕ) → n ≡ length found → true ≡ (n == 0) → found ≡ []
empty_when [] n e h = refl
empty_when (x ∷ xs) n e h =
    let none : n ≡ 0 = grind (arith, nat_tests, h) in
    absurd (omega (arith, none, e))

pub some_when : (found : List ℕ) (n : ℕ) → n ≡ length found → false ≡ (n == 0) → found ≡ [] → ⊥
some_when found n e h none =
    let some : 0 < n = grind (arith, nat_tests, h) in
    omega (arith, some, e, ap length none)

module _ (s : TermStore) (facts : List ℕ) (goal : ℕ) where
  pub unbuilt_by_types : is_some_of (type_variables_in (terms_at s facts)) ≡ true → true ≡ is_unbuilt (terms_at s facts) (term_tree s goal)
  unbuilt_by_types h = rw h refl

  pub unbuilt_by_goal : is_some_of (type_variables_in (terms_at s facts)) ≡ false → list_any (holds_lambda false) (terms_at s facts) ≡ false → (b : Bool) → b ≡ holds_lambda false (term_tree s goal) → b ≡ is_unbuilt (terms_at s facts) (term_tree s goal)
  unbuilt_by_goal h i b e = rw (h, i) e
