-- Bodies of lambdas whose variable is Bound 0.
use Rattle.std.proofs.Common.{◌≡◌, ◌∙◌, refl, sym, subst, ap, ap₂, ℕ, List, arith}
use Rattle.std.specs.Prelude.{codes}
use Rattle.hol_types.specs.Ty.{Ty, BoolTy, FunTy}
use Rattle.hol_terms.specs.Term.{Term, BoundTm, ConstTm, AppTm, LamTm, Typed, BoundsFit, ty_of, result_ty}
use Rattle.hol_terms.specs.Substitution.{LooseBelow, IsClosed, subst_bound}
use Rattle.hol_terms.specs.Formula.{IsTerm}
use Rattle.hol_terms.specs.Constants.{FunTy2, equation, apply_two}
use Rattle.hol_terms.proofs.FormulaLemmas.{Has}
use Rattle.hol_terms.proofs.DerivedFormulas.{body_has}
use Rattle.hol_logic.specs.DerivedForms.{Takes}
use Rattle.hol_terms.proofs.SubstitutionLemmas.{loose_more, loose_fits, opened_same}

-- the term may stand under a lambda of a type, and has a type of its own
pub record InBody (ty : Ty) (b : Term) (own : Ty) : Type 0 where
  pub typed : Typed b
  pub fits : BoundsFit b 0 ty
  pub loose : LooseBelow b 1
  pub type : ty_of b ≡ own

pub in_place : (ty : Ty) → InBody ty (BoundTm 0 ty) ty
in_place ty = record { typed = tt; fits = λ e. refl; loose = omega arith; type = refl }

pub in_const : {ty : Ty} (name : List ℕ) (own : Ty) → InBody ty (ConstTm name own) own
in_const name own = record { typed = tt; fits = tt; loose = tt; type = refl }

pub in_closed : {ty : Ty} {t : Term} {own : Ty} → Has t own → InBody ty t own
in_closed {ty} {t} h = record {
  typed = h.term.typed;
  fits = loose_fits t 0 0 ty h.term.closed (omega arith);
  loose = loose_more t 0 1 h.term.closed (omega arith);
  type = h.type;
}

pub in_app : {ty : Ty} {f x : Term} {a b : Ty} → InBody ty f (FunTy a b) → InBody ty x a → InBody ty (AppTm f x) b
in_app {f} {x} {a} {b} h i = record {
  typed = (h.typed, i.typed, h.type ∙ ap₂ FunTy (sym i.type) (sym (ap (λ t. result_ty t) h.type)));
  fits = (h.fits, i.fits);
  loose = (h.loose, i.loose);
  type = ap (λ t. result_ty t) h.type;
}

pub in_two : {ty : Ty} {x y : Term} {a b c : Ty} (name : List ℕ) → InBody ty x a → InBody ty y b → InBody ty (apply_two (ConstTm name (FunTy2 a b c)) x y) c
in_two {a} {b} {c} name h i = in_app (in_app (in_const name (FunTy2 a b c)) h) i

pub in_equation : {ty : Ty} {x y : Term} {own : Ty} → InBody ty x own → InBody ty y own → InBody ty (equation own x y) BoolTy
in_equation h i = in_two (codes "eq") h i

-- the lambda with the body
pub lambda_is : {ty : Ty} {b : Term} {own : Ty} → InBody ty b own → IsTerm (LamTm ty b)
lambda_is h = record { typed = (h.typed, h.fits); closed = h.loose }

pub body_in : {ty : Ty} {b : Term} → IsTerm (LamTm ty b) → InBody ty b (ty_of b)
body_in h = record { typed = h.typed.0; fits = h.typed.1; loose = h.closed; type = refl }

-- ---- a term for the place

pub opened_left : (ty : Ty) (t u : Term) → IsClosed t → subst_bound (equation ty (BoundTm 0 ty) t) 0 u ≡ equation ty u t
opened_left ty t u closed = ap (λ x. equation ty u x) (opened_same t u 0 closed)

pub opened_right : (ty : Ty) (t u : Term) → IsClosed t → subst_bound (equation ty t (BoundTm 0 ty)) 0 u ≡ equation ty t u
opened_right ty t u closed = ap (λ x. equation ty x u) (opened_same t u 0 closed)

pub opened_beside : (own : Ty) (t b u : Term) → IsClosed t → subst_bound (equation own t b) 0 u ≡ equation own t (subst_bound b 0 u)
opened_beside own t b u closed = ap (λ x. equation own x (subst_bound b 0 u)) (opened_same t u 0 closed)

-- the body with a term for the place
pub start_has : {ty : Ty} {b t : Term} → IsTerm (LamTm ty b) → Has t ty → Has (subst_bound b 0 t) (ty_of b)
start_has h has = body_has (record { term = h; type = refl }) has

-- an application where the function takes the argument
pub in_app_of : {ty : Ty} {f x : Term} {a b : Ty} → a ≡ FunTy b (result_ty a) → InBody ty f a → InBody ty x b → InBody ty (AppTm f x) (result_ty a)
in_app_of {ty} {f} e h i = in_app (subst (λ u. InBody ty f u) e h) i

pub opened_function : (ty : Ty) (x u : Term) → IsClosed x → subst_bound (AppTm (BoundTm 0 ty) x) 0 u ≡ AppTm u x
opened_function ty x u closed = ap (λ y. AppTm u y) (opened_same x u 0 closed)

pub opened_argument : (ty : Ty) (f u : Term) → IsClosed f → subst_bound (AppTm f (BoundTm 0 ty)) 0 u ≡ AppTm f u
opened_argument ty f u closed = ap (λ y. AppTm y u) (opened_same f u 0 closed)

-- `(= (f x) (g _))`
pub congruent_body : {f g x : Term} → Takes f x → Has f (ty_of f) → Has g (ty_of f) → Has x (ty_of x)
    → IsTerm (LamTm (ty_of x) (equation (result_ty (ty_of f)) (AppTm f x) (AppTm g (BoundTm 0 (ty_of x)))))
congruent_body {f} {g} {x} takes hf hg hx = lambda_is (in_equation (in_app_of takes (in_closed hf) (in_closed hx)) (in_app_of takes (in_closed hg) (in_place (ty_of x))))

pub congruent_start : (f g x y : Term) → IsClosed f → IsClosed g → IsClosed x
    → subst_bound (equation (result_ty (ty_of f)) (AppTm f x) (AppTm g (BoundTm 0 (ty_of x)))) 0 y ≡ equation (result_ty (ty_of f)) (AppTm f x) (AppTm g y)
congruent_start f g x y cf cg cx = rw (opened_same f y 0 cf, opened_same g y 0 cg, opened_same x y 0 cx) refl
