-- The numbers of HOL's constants in a store.
use Rattle.std.specs.Prelude.{◌≡◌, ℕ, List, codes}
use Rattle.hol_types.specs.Ty.{Ty, BoolTy}
use Rattle.hol_types.specs.TypeStore.{HasName, HasType, text_of, type_tree}
use Rattle.hol_terms.specs.Term.{Term, ConstTm, AppTm, ty_of}
use Rattle.hol_terms.specs.TermStore.{TermStore, HasTerm, term_tree}
use Rattle.hol_terms.specs.Constants.{FunTy2, imp_tm, and_tm, or_tm, not_tm, false_tm, true_tm}
use Rattle.hol_formulas.specs.declared.formula.Constants.{Constants}
use Rattle.hol_formulas.specs.declared.formula.Names.{Names}

-- the number is that of the term
pub record IsAt (s : TermStore) (t : ℕ) (tree : Term) : Type 0 where
  pub there : HasTerm s t
  pub is : term_tree s t ≡ tree

-- the number is that of the type
pub record IsType (s : TermStore) (t : ℕ) (tree : Ty) : Type 0 where
  pub there : HasType s.types t
  pub is : type_tree s.types t ≡ tree

-- the number is that of the name
pub record IsName (s : TermStore) (n : ℕ) (text : List ℕ) : Type 0 where
  pub there : HasName s.types n
  pub is : text_of s.types n ≡ text

-- each number is that of its name
pub record AreNames (s : TermStore) (n : Names) : Type 0 where
  pub eq : IsName s n.eq (codes "eq")
  pub ite : IsName s n.ite (codes "ite")
  pub all : IsName s n.all (codes "all")
  pub ex : IsName s n.ex (codes "ex")
  pub choice : IsName s n.choice (codes "choice")

-- each number is that of its constant
pub record AreConstants (s : TermStore) (c : Constants) : Type 0 where
  pub imp : IsAt s c.imp imp_tm
  pub not : IsAt s c.not not_tm
  pub falsity : IsAt s c.falsity false_tm
  pub truth : IsAt s c.truth true_tm
  pub and : IsAt s c.and and_tm
  pub or : IsAt s c.or or_tm
  pub bool : IsType s c.bool BoolTy
  pub names : AreNames s c.names

-- the function takes the one term and then the other
pub record Takes (f x y : Term) : Type 0 where
  pub result : Ty
  pub fits : ty_of f ≡ FunTy2 (ty_of x) (ty_of y) result

-- the constant of the name, applied to the term
pub record IsApplied (name : List ℕ) (p t : Term) : Type 0 where
  pub type : Ty
  pub is : t ≡ AppTm (ConstTm name type) p
