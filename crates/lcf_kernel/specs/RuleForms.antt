-- What some rules ask of conclusions and terms.
use Rattle.std.specs.Prelude.{◌≡◌, List}
use Rattle.hol_types.specs.Ty.{Ty}
use Rattle.hol_terms.specs.Term.{Term, AppTm, LamTm, ty_of}
use Rattle.hol_terms.specs.Substitution.{subst_bound, IsFreeVariable}
use Rattle.hol_terms.specs.Formula.{NotFreeIn, NotFreeInAny, without}
use Rattle.hol_terms.specs.Constants.{equation, negation, for_all, exists}

-- an equation, a lambda on its type, and the lambda's body with the left side
pub record IsSubstitution (p equal said : Term) : Type 0 where
  pub type : Ty
  pub left : Term
  pub right : Term
  pub body : Term
  pub equal_is : equal ≡ equation type left right
  pub lambda_is : p ≡ LamTm type body
  pub said_is : said ≡ subst_bound body 0 left

-- a lambda applied to a term
pub record IsRedex (t : Term) : Type 0 where
  pub type : Ty
  pub body : Term
  pub argument : Term
  pub is : t ≡ AppTm (LamTm type body) argument

-- a condition that doesn't hold, and branches of one type
pub record IsUnselected (negated t u : Term) : Type 0 where
  pub condition : Term
  pub negated_is : negated ≡ negation condition
  pub types : ty_of u ≡ ty_of t

-- a free variable of which no hypothesis speaks
pub record IsGeneral (hyps : List Term) (v : Term) : Type 0 where
  pub variable : IsFreeVariable v
  pub absent : NotFreeInAny v hyps

-- a predicate on the term's type holds of all
pub record IsUniversal (said t : Term) : Type 0 where
  pub predicate : Term
  pub is : said ≡ for_all (ty_of t) predicate

-- a lambda on the term's type holds of some, and what is said is its body with the term
pub record IsWitness (said e t : Term) : Type 0 where
  pub body : Term
  pub exists_is : e ≡ exists (ty_of t) (LamTm (ty_of t) body)
  pub said_is : said ≡ subst_bound body 0 t

-- a free variable of which neither a lambda's body speaks, nor a claim, nor a hypothesis but the body with the variable
pub record IsArbitrary (body claim : Term) (hyps : List Term) (v : Term) : Type 0 where
  pub variable : IsFreeVariable v
  pub not_in_body : NotFreeIn v body
  pub not_in_claim : NotFreeIn v claim
  pub absent : NotFreeInAny v (without (subst_bound body 0 v) hyps)

-- a lambda on the type of an arbitrary variable holds of some
pub record IsElimination (said claim : Term) (hyps : List Term) (v : Term) : Type 0 where
  pub body : Term
  pub said_is : said ≡ exists (ty_of v) (LamTm (ty_of v) body)
  pub arbitrary : IsArbitrary body claim hyps v

-- a lambda holds of some
pub record IsExistence (said : Term) : Type 0 where
  pub type : Ty
  pub body : Term
  pub is : said ≡ exists type (LamTm type body)

-- functions that agree on a free variable of which neither they nor a hypothesis speaks
pub record Agree (hyps : List Term) (said v f g : Term) : Type 0 where
  pub type : Ty
  pub said_is : said ≡ equation type (AppTm f v) (AppTm g v)
  pub general : IsGeneral hyps v
  pub not_in_left : NotFreeIn v f
  pub not_in_right : NotFreeIn v g
