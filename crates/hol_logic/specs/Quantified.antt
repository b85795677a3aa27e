-- Predicates under quantifiers, and variables that a term doesn't speak of.
use Rattle.std.specs.Prelude.{◌≡◌, ℕ, List}
use Rattle.hol_types.specs.Ty.{Ty, BoolTy, FunTy}
use Rattle.hol_types.specs.TypeStore.{HasType, type_tree}
use Rattle.hol_terms.specs.Term.{Term, FreeTm, BoundTm, AppTm, LamTm, ty_of}
use Rattle.hol_terms.specs.declared.node.FreeKind.TheVariants.{Open}
use Rattle.hol_terms.specs.TermStore.{TermStore, HasTerm, term_tree}
use Rattle.hol_terms.specs.Formula.{IsTerm, NotFreeIn}
use Rattle.hol_terms.specs.Constants.{negation, for_all, exists}
use Rattle.hol_formulas.specs.declared.binder.Binder.{Binder}

-- an Open variable of a type that the term doesn't speak of
pub record IsFresh (v : Term) (ty : Ty) (t : Term) : Type 0 where
  pub name : List ℕ
  pub is : v ≡ FreeTm Open name ty
  pub absent : NotFreeIn v t

-- the parts are those of a lambda that is a predicate
pub record IsPredicate (s : TermStore) (p : Binder) : Type 0 where
  pub ty : HasType s.types p.ty
  pub body : HasTerm s p.body
  pub lambda : IsTerm (LamTm (type_tree s.types p.ty) (term_tree s p.body))
  pub bool : ty_of (term_tree s p.body) ≡ BoolTy

-- the lambda's body holds of all, or of some
abbrev pub all_stated : TermStore → Binder → Term
all_stated s p = for_all (type_tree s.types p.ty) (LamTm (type_tree s.types p.ty) (term_tree s p.body))

abbrev pub some_stated : TermStore → Binder → Term
some_stated s p = exists (type_tree s.types p.ty) (LamTm (type_tree s.types p.ty) (term_tree s p.body))

-- and its negation
abbrev pub all_contrary : TermStore → Binder → Term
all_contrary s p = for_all (type_tree s.types p.ty) (LamTm (type_tree s.types p.ty) (negation (term_tree s p.body)))

abbrev pub some_contrary : TermStore → Binder → Term
some_contrary s p = exists (type_tree s.types p.ty) (LamTm (type_tree s.types p.ty) (negation (term_tree s p.body)))

-- the parts are those of the lambda that applies the predicate to its variable
pub record IsExpanded (s : TermStore) (p : ℕ) (parts : Binder) : Type 0 where
  pub there : HasTerm s p
  pub term : IsTerm (term_tree s p)
  pub type : ty_of (term_tree s p) ≡ FunTy (type_tree s.types parts.ty) BoolTy
  pub predicate : IsPredicate s parts
  pub is : term_tree s parts.body ≡ AppTm (term_tree s p) (BoundTm 0 (type_tree s.types parts.ty))
