-- The constants of HOL at the types that they have.
use Rattle.std.proofs.Common.{◌≡◌, ◌∙◌, refl, ap, ap₂, sym, subst, ℕ, List, codes}
use Rattle.hol_types.specs.Ty.{Ty, BoolTy, FunTy}
use Rattle.hol_terms.specs.Term.{Term, ConstTm, AppTm, LamTm, BoundsFit, Typed, ty_of, result_ty}
use Rattle.hol_terms.specs.Substitution.{subst_bound}
use Rattle.hol_terms.specs.Formula.{IsTerm}
use Rattle.hol_terms.specs.Constants.{FunTy2, eq_tm, ite_tm, equation}
use Rattle.hol_terms.proofs.FormulaLemmas.{same_from}
use Rattle.hol_terms.proofs.SubstitutionLemmas.{opened_ty}
use Rattle.hol_formulas.specs.Constants.{Takes}

-- a constant of two truth values takes two formulas
pub takes_formulas : (f a b : Term) (name : List ℕ) → f ≡ ConstTm name (FunTy2 BoolTy BoolTy BoolTy) → ty_of a ≡ BoolTy → ty_of b ≡ BoolTy → Takes f a b
takes_formulas f a b name is left right = record { result = BoolTy; fits = rw (is, left, right) refl }

-- equality takes two of its type
pub takes_equals : (f a b : Term) (ty : Ty) → f ≡ eq_tm ty → ty_of a ≡ ty → ty_of b ≡ ty → Takes f a b
takes_equals f a b ty is left right = record { result = BoolTy; fits = rw (is, left, right) refl }

-- a conditional takes its condition
pub takes_condition : (f c : Term) (ty : Ty) → f ≡ ite_tm ty → ty_of c ≡ BoolTy → ty_of f ≡ FunTy (ty_of c) (result_ty (ty_of f))
takes_condition f c ty is bool = rw (is, bool) refl

-- and then its branches
pub takes_branches : (f c a b : Term) (ty : Ty) → f ≡ AppTm (ite_tm ty) c → ty_of a ≡ ty → ty_of b ≡ ty → Takes f a b
takes_branches f c a b ty is left right = record { result = ty; fits = rw (is, left, right) refl }

-- a quantifier or choice takes a predicate
pub takes_predicate : (f p : Term) (name : List ℕ) (from to : Ty) → f ≡ ConstTm name (FunTy from to) → ty_of p ≡ from → ty_of f ≡ FunTy (ty_of p) (result_ty (ty_of f))
takes_predicate f p name from to is fits = rw (is, fits) refl

-- ---- equations

-- an application of eq to two of one type that is of type Bool is an equation
pub equation_is : (head a b : Term) (name : List ℕ) → name ≡ codes "eq" → Typed (AppTm (AppTm head a) b) → head ≡ ConstTm name (ty_of head) → ty_of b ≡ ty_of a → ty_of (AppTm (AppTm head a) b) ≡ BoolTy
    → AppTm (AppTm head a) b ≡ equation (ty_of a) a b
equation_is head a b name text typed is same bool =
    let first : ty_of head ≡ FunTy (ty_of a) (result_ty (ty_of head)) = typed.0.2 in
    let second : result_ty (ty_of head) ≡ FunTy (ty_of b) (result_ty (result_ty (ty_of head))) = typed.2 in
    let whole : ty_of head ≡ FunTy2 (ty_of a) (ty_of a) BoolTy = cc in
    ap (λ f. AppTm (AppTm f a) b) (is ∙ ap₂ ConstTm text whole)

-- what is known of the parts of an equation
pub equation_parts : (ty : Ty) (a b : Term) → Typed (equation ty a b) → (ty_of a ≡ ty) × (ty_of b ≡ ty)
equation_parts ty a b typed =
    let first : FunTy2 ty ty BoolTy ≡ FunTy (ty_of a) (FunTy ty BoolTy) = typed.0.2 in
    let second : FunTy ty BoolTy ≡ FunTy (ty_of b) BoolTy = typed.2 in
    (cc, cc)

-- ---- lambdas

-- a lambda's body with the argument has the type of the application
pub redex_type : (ty : Ty) (b u t : Term) → IsTerm t → t ≡ AppTm (LamTm ty b) u → ty_of (subst_bound b 0 u) ≡ ty_of t
redex_type ty b u t term is =
    let whole = subst (λ (w : Term). IsTerm w) is term in
    let fits : BoundsFit b 0 (ty_of u) = subst (λ (v : Ty). BoundsFit b 0 v) (same_from whole.typed.2) whole.typed.0.1 in
    opened_ty b u 0 fits ∙ sym (ap (λ (w : Term). ty_of w) is)
