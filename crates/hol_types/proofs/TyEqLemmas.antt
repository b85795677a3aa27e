-- The test of types tells them apart, and so does that of texts.
use Rattle.std.proofs.Common.{◌≡◌, ℕ, ◌⊎◌, List, [], ◌∷◌, Bool, true, false, refl, sym, ap, ◌∙◌, true≢false, inl, inr, rules, Decides}
use Rattle.std.specs.Prelude.{bytes_eq, nat_eq}
use Rattle.hol_types.specs.Exact.{both_true, list_exact}
use Rattle.hol_types.proofs.TypeLemmas.{eqb_sound}
use Rattle.hol_types.specs.Ty.{Ty, Tys, BoolTy, IntTy, VarTy, FunTy, ConsTy, no_types, more_types}
use Rattle.hol_types.specs.TyEq.{ty_eq, tys_eq}

pub text_eq_sound : (x y : List ℕ) → bytes_eq x y ≡ true → x ≡ y
text_eq_sound x y h = list_exact nat_eq (λ a b e. eqb_sound a b e) x y h

nat_eq_refl : (n : ℕ) → nat_eq n n ≡ true
nat_eq_refl n = search rules

pub text_eq_refl : (x : List ℕ) → bytes_eq x x ≡ true
text_eq_refl [] = refl
text_eq_refl (b ∷ x) = rw (nat_eq_refl b) (text_eq_refl x)

-- what follows from a test that fails
pub no : {A : Type 0} → false ≡ true → A
no h = absurd (true≢false (sym h))

mutual
  unfolding ty_eq tys_eq

  pub ty_eq_refl : (t : Ty) → ty_eq t t ≡ true
  ty_eq_refl BoolTy = refl
  ty_eq_refl IntTy = refl
  ty_eq_refl (VarTy n) = text_eq_refl n
  ty_eq_refl (FunTy a b) = rw (ty_eq_refl a) (ty_eq_refl b)
  ty_eq_refl (ConsTy n ts) = rw (text_eq_refl n) (tys_eq_refl ts)

  pub tys_eq_refl : (ts : Tys) → tys_eq ts ts ≡ true
  tys_eq_refl no_types = refl
  tys_eq_refl (more_types t ts) = rw (ty_eq_refl t) (tys_eq_refl ts)

mutual
  unfolding ty_eq tys_eq

  pub ty_eq_sound : (a b : Ty) → ty_eq a b ≡ true → a ≡ b
  ty_eq_sound BoolTy BoolTy h = refl
  ty_eq_sound IntTy IntTy h = refl
  ty_eq_sound (VarTy n) (VarTy m) h = ap VarTy (text_eq_sound n m h)
  ty_eq_sound (FunTy a b) (FunTy c d) h = let p = both_true (ty_eq a c) (ty_eq b d) h in let e = ty_eq_sound a c p.0 in let f = ty_eq_sound b d p.1 in cc
  ty_eq_sound (ConsTy n ts) (ConsTy m us) h = let p = both_true (bytes_eq n m) (tys_eq ts us) h in let e = text_eq_sound n m p.0 in let f = tys_eq_sound ts us p.1 in cc
  ty_eq_sound BoolTy u h = no h
  ty_eq_sound IntTy u h = no h
  ty_eq_sound (VarTy n) u h = no h
  ty_eq_sound (FunTy a b) u h = no h
  ty_eq_sound (ConsTy n ts) u h = no h

  pub tys_eq_sound : (ts us : Tys) → tys_eq ts us ≡ true → ts ≡ us
  tys_eq_sound no_types no_types h = refl
  tys_eq_sound (more_types t ts) (more_types u us) h = let p = both_true (ty_eq t u) (tys_eq ts us) h in let e = ty_eq_sound t u p.0 in let f = tys_eq_sound ts us p.1 in cc
  tys_eq_sound no_types us h = no h
  tys_eq_sound (more_types t ts) us h = no h

-- equal types pass the test
pub ty_eq_same : (a b : Ty) → a ≡ b → ty_eq a b ≡ true
ty_eq_same a b e = rw e (ty_eq_refl b)

pub ty_eq_decides : (a b : Ty) → Decides (ty_eq a b) (a ≡ b)
ty_eq_decides a b = (ty_eq_sound a b, ty_eq_same a b)

-- a test that fails tells that the types differ
pub ty_eq_apart : (a b : Ty) → ty_eq a b ≡ false → a ≡ b → ⊥
ty_eq_apart a b h e = true≢false (sym (ty_eq_same a b e) ∙ h)

-- two types are equal or not
pub ty_decided : (a b : Ty) → (a ≡ b) ⊎ (a ≡ b → ⊥)
ty_decided a b = by (ty_eq a b) refl
  where
    by : (t : Bool) → ty_eq a b ≡ t → (a ≡ b) ⊎ (a ≡ b → ⊥)
    by true h = inl (ty_eq_sound a b h)
    by false h = inr (ty_eq_apart a b h)
