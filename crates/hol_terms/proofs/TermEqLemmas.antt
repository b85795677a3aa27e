-- The test of terms tells them apart.
use Rattle.std.proofs.Common.{◌≡◌, ℕ, ◌⊎◌, Bool, true, false, refl, sym, ap, ◌∙◌, ◌&&◌, ◌==◌, true≢false, inl, inr, rules, Decides}
use Rattle.std.specs.Prelude.{bytes_eq}
use Rattle.std.proofs.lemmas.Bool.Decides.{Decides-int_eq}
use Rattle.hol_types.specs.Exact.{both_true}
use Rattle.hol_types.specs.TyEq.{ty_eq}
use Rattle.hol_types.proofs.TypeLemmas.{eqb_sound}
use Rattle.hol_types.proofs.TyEqLemmas.{no, text_eq_sound, text_eq_refl, ty_eq_sound, ty_eq_refl}
use Rattle.hol_terms.specs.Term.{Term, FreeTm, BoundTm, ConstTm, NumTm, AppTm, LamTm}
use Rattle.hol_terms.specs.TermEq.{kind_eq, term_eq}
use Rattle.hol_terms.specs.declared.node.FreeKind.{FreeKind}
use Rattle.hol_terms.specs.declared.node.FreeKind.TheVariants.{Open, Symbol, Lifted, Schematic}

pub kind_eq_refl : (k : FreeKind) → kind_eq k k ≡ true
unfolding kind_eq
kind_eq_refl Open = refl
kind_eq_refl Symbol = refl
kind_eq_refl Lifted = refl
kind_eq_refl Schematic = refl

pub kind_eq_sound : (k l : FreeKind) → kind_eq k l ≡ true → k ≡ l
unfolding kind_eq
kind_eq_sound Open Open h = refl
kind_eq_sound Symbol Symbol h = refl
kind_eq_sound Lifted Lifted h = refl
kind_eq_sound Schematic Schematic h = refl
kind_eq_sound Open l h = no h
kind_eq_sound Symbol l h = no h
kind_eq_sound Lifted l h = no h
kind_eq_sound Schematic l h = no h

index_eq_refl : (n : ℕ) → (n == n) ≡ true
index_eq_refl n = search rules

pub term_eq_refl : (t : Term) → term_eq t t ≡ true
unfolding term_eq
term_eq_refl (FreeTm k n t) = rw (kind_eq_refl k, text_eq_refl n) (ty_eq_refl t)
term_eq_refl (BoundTm i t) = rw (index_eq_refl i) (ty_eq_refl t)
term_eq_refl (ConstTm n t) = rw (text_eq_refl n) (ty_eq_refl t)
term_eq_refl (NumTm z) = (Decides-int_eq z z).1 refl
term_eq_refl (AppTm f x) = rw (term_eq_refl f) (term_eq_refl x)
term_eq_refl (LamTm t b) = rw (ty_eq_refl t) (term_eq_refl b)

pub term_eq_sound : (a b : Term) → term_eq a b ≡ true → a ≡ b
unfolding term_eq
term_eq_sound (FreeTm k n t) (FreeTm l m u) h =
    let p = both_true (kind_eq k l && bytes_eq n m) (ty_eq t u) h in
    let q = both_true (kind_eq k l) (bytes_eq n m) p.0 in
    let e = kind_eq_sound k l q.0 in
    let f = text_eq_sound n m q.1 in
    let g = ty_eq_sound t u p.1 in
    cc
term_eq_sound (BoundTm i t) (BoundTm j u) h = let p = both_true (i == j) (ty_eq t u) h in let e = eqb_sound i j p.0 in let f = ty_eq_sound t u p.1 in cc
term_eq_sound (ConstTm n t) (ConstTm m u) h = let p = both_true (bytes_eq n m) (ty_eq t u) h in let e = text_eq_sound n m p.0 in let f = ty_eq_sound t u p.1 in cc
term_eq_sound (NumTm z) (NumTm w) h = ap NumTm ((Decides-int_eq z w).0 h)
term_eq_sound (AppTm f x) (AppTm g y) h = let p = both_true (term_eq f g) (term_eq x y) h in let d = term_eq_sound f g p.0 in let e = term_eq_sound x y p.1 in cc
term_eq_sound (LamTm t b) (LamTm u c) h = let p = both_true (ty_eq t u) (term_eq b c) h in let d = ty_eq_sound t u p.0 in let e = term_eq_sound b c p.1 in cc
term_eq_sound (FreeTm k n t) b h = no h
term_eq_sound (BoundTm i t) b h = no h
term_eq_sound (ConstTm n t) b h = no h
term_eq_sound (NumTm z) b h = no h
term_eq_sound (AppTm f x) b h = no h
term_eq_sound (LamTm t c) b h = no h

-- equal terms pass the test
pub term_eq_same : (a b : Term) → a ≡ b → term_eq a b ≡ true
term_eq_same a b e = rw e (term_eq_refl b)

pub term_eq_decides : (a b : Term) → Decides (term_eq a b) (a ≡ b)
term_eq_decides a b = (term_eq_sound a b, term_eq_same a b)

-- a test that fails tells that the terms differ
pub term_eq_apart : (a b : Term) → term_eq a b ≡ false → a ≡ b → ⊥
term_eq_apart a b h e = true≢false (sym (term_eq_same a b e) ∙ h)

-- a test of terms that differ fails
pub term_eq_fails : (a b : Term) → (a ≡ b → ⊥) → term_eq a b ≡ false
term_eq_fails a b h = by (term_eq a b) refl
  where
    by : (t : Bool) → term_eq a b ≡ t → term_eq a b ≡ false
    by true e = absurd (h (term_eq_sound a b e))
    by false e = e

-- two terms are equal or not
pub term_decided : (a b : Term) → (a ≡ b) ⊎ (a ≡ b → ⊥)
term_decided a b = by (term_eq a b) refl
  where
    by : (t : Bool) → term_eq a b ≡ t → (a ≡ b) ⊎ (a ≡ b → ⊥)
    by true h = inl (term_eq_sound a b h)
    by false h = inr (term_eq_apart a b h)
