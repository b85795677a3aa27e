-- What is read has each loose Bound of its binder's type.
use Rattle.std.proofs.Common.{◌≡◌, ℕ, ◌+◌, ◌<◌, List, [], ◌∷◌, ◌++◌, Some, Ok, Bool, true, false, refl, sym, subst, ◌∙◌, arith}
use Rattle.std.specs.Prelude.{bytes_eq, ℤ}
use Rattle.std.proofs.lemmas.Option.{same_Some}
use Rattle.hol_types.specs.Ty.{Ty}
use Rattle.hol_terms.specs.Term.{Term, BoundTm, ConstTm, NumTm, AppTm, LamTm}
use Rattle.sexp.specs.Tree.{Trees}
use Rattle.goal_text.specs.declared.word.Binder.{Binder}
use Rattle.goal_text.specs.Names.{Env, Binders, bound_to, one_further}
use Rattle.goal_text.specs.Bounds.{AllFit, FitsAll}
use Rattle.goal_text.specs.Operations.{under_all}
use Rattle.goal_text.specs.Forms.{Part}
use Rattle.goal_text.specs.Terms.{terms_of}
use Rattle.goal_text.proofs.KeptLemmas.{Each, IsKept, further_of, has_under, terms_have}

-- ---- terms made of terms

fits_app : (bs : Binders) (f x : Term) (i : ℕ) → FitsAll bs f i → FitsAll bs x i → FitsAll bs (AppTm f x) i
fits_app [] f x i a b = tt
fits_app (c ∷ bs) f x i a b = ((a.0, b.0), fits_app bs f x (i + 1) a.1 b.1)

fits_lam : (bs : Binders) (t : Ty) (x : Term) (i : ℕ) → FitsAll bs x (i + 1) → FitsAll bs (LamTm t x) i
fits_lam [] t x i a = tt
fits_lam (c ∷ bs) t x i a = (a.0, fits_lam bs t x (i + 1) a.1)

fits_const : (bs : Binders) (n : List ℕ) (t : Ty) (i : ℕ) → FitsAll bs (ConstTm n t) i
fits_const [] n t i = tt
fits_const (c ∷ bs) n t i = (tt, fits_const bs n t (i + 1))

fits_num : (bs : Binders) (z : ℤ) (i : ℕ) → FitsAll bs (NumTm z) i
fits_num [] z i = tt
fits_num (c ∷ bs) z i = (tt, fits_num bs z (i + 1))

fits_past : (bs : Binders) (j i : ℕ) (u : Ty) → j < i → FitsAll bs (BoundTm j u) i
fits_past [] j i u h = tt
fits_past (b ∷ bs) j i u h = ((λ e. absurd (omega arith)), fits_past bs j (i + 1) u (omega arith))

fits_bound : (bs : Binders) (name : List ℕ) (i : ℕ) (b : ℕ × Ty) → bound_to bs name ≡ Some b → FitsAll bs (BoundTm (b.0 + i) b.1) i
unfolding bound_to
fits_bound [] name i b h = tt
fits_bound (c ∷ bs) name i b h = by (bytes_eq name c.0) refl (λ d k. fits_bound bs name (i + 1) d k)
  where
    by : (t : Bool) → bytes_eq name c.0 ≡ t → ((d : ℕ × Ty) → bound_to bs name ≡ Some d → FitsAll bs (BoundTm (d.0 + (i + 1)) d.1) (i + 1)) → FitsAll (c ∷ bs) (BoundTm (b.0 + i) b.1) i
    by true e r =
        let here : bound_to (c ∷ bs) name ≡ Some (0, c.1) = rw e refl in
        let same : (0, c.1) ≡ b = same_Some _ _ (sym here ∙ h) in
        let P : ℕ × Ty → Type 0 = λ d. FitsAll (c ∷ bs) (BoundTm (d.0 + i) d.1) i in
        subst P same ((λ k. refl), fits_past bs (0 + i) (i + 1) c.1 (omega arith))
    by false e r =
        let later : bound_to (c ∷ bs) name ≡ one_further (bound_to bs name) = rw e refl in
        let d = further_of (bound_to bs name) b (sym later ∙ h) in
        let P : ℕ × Ty → Type 0 = λ x. FitsAll (c ∷ bs) (BoundTm (x.0 + i) x.1) i in
        let Q : ℕ → Type 0 = λ n. FitsAll bs (BoundTm n d.0.1) (i + 1) in
        let num : d.0.0 + (i + 1) ≡ d.0.0 + 1 + i = omega arith in
        subst P (sym d.2) ((λ k. absurd (omega arith)), subst Q num (r d.0 d.1))

-- ---- what is read

fits_kept : IsKept (λ bs t. FitsAll bs t 0)
fits_kept = record {
  application = λ bs f x a b. fits_app bs f x 0 a b;
  lambda = λ b bs p h. fits_lam bs b.1 p 0 h.1;
  constant = λ bs n t. fits_const bs n t 0;
  number = λ bs z. fits_num bs z 0;
  bound = λ bs name b h. let Q : ℕ → Type 0 = λ n. FitsAll bs (BoundTm n b.1) 0 in let num : b.0 + 0 ≡ b.0 = omega arith in subst Q num (fits_bound bs name 0 b h);
}

all_fit : (bs : Binders) (ts : List Term) → Each (λ bs t. FitsAll bs t 0) bs ts → AllFit bs ts
all_fit bs [] all = tt
all_fit bs (t ∷ ts) all = (all.0, all_fit bs ts all.1)

-- what is read under binders has each loose Bound of its binder's type
pub terms_fit : (env : Env) (kinds : List Part) (trees : Trees) (ts : List Term) → terms_of env kinds trees ≡ Ok ts → AllFit env.binders ts
terms_fit env kinds trees ts h = all_fit env.binders ts (terms_have (λ bs t. FitsAll bs t 0) fits_kept env kinds trees ts h)

pub fits_under : (own outer : Binders) (binder : Binder) (p : Term) → FitsAll (own ++ outer) p 0 → FitsAll outer (under_all binder own p) 0
fits_under own outer binder p h = has_under (λ bs t. FitsAll bs t 0) fits_kept own outer binder p h

-- a front of the binders
pub fits_front : (own outer : Binders) (p : Term) (i : ℕ) → FitsAll (own ++ outer) p i → FitsAll own p i
fits_front [] outer p i h = tt
fits_front (b ∷ own) outer p i h = (h.0, fits_front own outer p (i + 1) h.1)

pub fit_front : (own outer : Binders) (ts : List Term) → AllFit (own ++ outer) ts → AllFit own ts
fit_front own outer [] all = tt
fit_front own outer (t ∷ ts) all = (fits_front own outer t 0 all.0, fit_front own outer ts all.1)
