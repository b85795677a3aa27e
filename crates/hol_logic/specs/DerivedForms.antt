-- What the derived rules ask of conclusions and terms.
use Rattle.std.specs.Prelude.{◌≡◌, List}
use Rattle.hol_types.specs.Ty.{Ty, BoolTy, FunTy}
use Rattle.hol_terms.specs.Term.{Term, result_ty, ty_of}
use Rattle.hol_terms.specs.Formula.{NotFreeIn}
use Rattle.hol_terms.specs.Constants.{equation, for_all, exists}
use Rattle.hol_terms.specs.Derivable.{abstraction}
use Rattle.lcf_kernel.specs.RuleForms.{IsGeneral}

-- an equation
pub record IsEquation (said : Term) : Type 0 where
  pub type : Ty
  pub left : Term
  pub right : Term
  pub is : said ≡ equation type left right

-- an equation, and one that goes on from its right side
pub record IsChain (first second : Term) : Type 0 where
  pub type : Ty
  pub left : Term
  pub middle : Term
  pub right : Term
  pub first_is : first ≡ equation type left middle
  pub second_is : second ≡ equation type middle right

-- the one term is a function on the type of the other
abbrev pub Takes : Term → Term → Type 0
Takes f x = ty_of f ≡ FunTy (ty_of x) (result_ty (ty_of f))

-- equal functions, and equal arguments of the type that they take
pub record AreCongruent (functions arguments : Term) : Type 0 where
  pub argument_type : Ty
  pub result_type : Ty
  pub f : Term
  pub g : Term
  pub x : Term
  pub y : Term
  pub functions_is : functions ≡ equation (FunTy argument_type result_type) f g
  pub arguments_is : arguments ≡ equation argument_type x y

-- equal terms, and a free variable of which no hypothesis speaks
pub record IsUniform (hyps : List Term) (said v : Term) : Type 0 where
  pub type : Ty
  pub left : Term
  pub right : Term
  pub is : said ≡ equation type left right
  pub general : IsGeneral hyps v

-- equal formulas, and a free variable of which no hypothesis speaks
pub record IsEquivalence (hyps : List Term) (said v : Term) : Type 0 where
  pub left : Term
  pub right : Term
  pub is : said ≡ equation BoolTy left right
  pub general : IsGeneral hyps v

-- the formula holds of each value of the variable, or of some
abbrev pub all_of : Term → Term → Term
all_of v a = for_all (ty_of v) (abstraction v a)

abbrev pub some_of : Term → Term → Term
some_of v a = exists (ty_of v) (abstraction v a)

-- the equation of a free variable with a term, where neither the term speaks of the variable, nor the claim, nor another
-- hypothesis
pub record IsDefinition (others : List Term) (claim d : Term) : Type 0 where
  pub type : Ty
  pub variable : Term
  pub value : Term
  pub is : d ≡ equation type variable value
  pub not_in_value : NotFreeIn variable value
  pub not_in_claim : NotFreeIn variable claim
  pub general : IsGeneral others variable
