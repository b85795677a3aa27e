-- Declarations, once their parts are read.
use Rattle.std.proofs.Common.{◌≡◌, ℕ, List, Ok, true, false, refl}
use Rattle.std.specs.Prelude.{bytes_eq}
use Rattle.std.specs.Map.{lookup}
use Rattle.hol_types.specs.Ty.{Ty}
use Rattle.sexp.specs.Tree.{Tree, Trees}
use Rattle.goal_text.specs.declared.fault.GoalFailure.{GoalFailure}
use Rattle.goal_text.specs.declared.fault.GoalFailure.TheVariants as failures
use Rattle.goal_text.specs.declared.fault.GoalKind.TheVariants.{DeclaredTwice}
use Rattle.goal_text.specs.Read.{Fails, faulty}
use Rattle.goal_text.specs.Lexicon.{name_of, two_of}
use Rattle.goal_text.specs.Names.{is_nothing}
use Rattle.goal_text.specs.Types.{type_of}
use Rattle.goal_text.specs.Items.{Items, arity_of, const_item, type_item, with_type}
use Rattle.goal_text.specs.ItemsIn.{with_constant}

module _ (items : Items) (at : ℕ) (parts : Trees) (a b : Tree) (name : List ℕ) (two : two_of at parts ≡ Ok (a, b)) (named : name_of a ≡ Ok name) where
  pub type_twice : is_nothing (lookup (bytes_eq name) items.types) ≡ false → type_item items at parts ≡ faulty DeclaredTwice at
  unfolding type_item
  type_twice old = rw (two, named, old) refl

  pub type_fails : (x : GoalFailure) → is_nothing (lookup (bytes_eq name) items.types) ≡ true → Fails x (arity_of b) → Fails x (type_item items at parts)
  unfolding type_item
  type_fails failures.Memory new h = tt
  type_fails (failures.Refused f) new h = rw (two, named, new, h) refl

  pub type_read : (n : ℕ) → is_nothing (lookup (bytes_eq name) items.types) ≡ true → arity_of b ≡ Ok n → type_item items at parts ≡ Ok (with_type items name n)
  unfolding type_item
  type_read n new h = rw (two, named, new, h) refl

  pub const_twice : is_nothing (lookup (bytes_eq name) items.consts) ≡ false → const_item items at parts ≡ faulty DeclaredTwice at
  unfolding const_item
  const_twice old = rw (two, named, old) refl

  pub const_fails : (x : GoalFailure) → is_nothing (lookup (bytes_eq name) items.consts) ≡ true → Fails x (type_of items.types b) → Fails x (const_item items at parts)
  unfolding const_item
  const_fails failures.Memory new h = tt
  const_fails (failures.Refused f) new h = rw (two, named, new, h) refl

  pub const_read : (t : Ty) → is_nothing (lookup (bytes_eq name) items.consts) ≡ true → type_of items.types b ≡ Ok t → const_item items at parts ≡ Ok (with_constant items name t)
  unfolding const_item
  const_read t new h = rw (two, named, new, h) refl
