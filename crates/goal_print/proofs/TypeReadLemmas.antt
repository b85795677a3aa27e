-- A tree of the shape of a type is read as the type.
use Rattle.std.proofs.Common.{◌≡◌, ℕ, ◌+◌, List, Some, Ok, true, false, bytes_eq, nat_lt, codes, refl, sym, ap, ◌∙◌, arith}
use Rattle.std.proofs.lemmas.Bool.{lt-ltb}
use Rattle.std.specs.Map.{lookup}
use Rattle.hol_types.specs.Ty.{Ty, Tys, BoolTy, IntTy, VarTy, FunTy, ConsTy, no_types, more_types}
use Rattle.sexp.specs.Tree.{Tree, Trees, AtomTree, QuotedTree, ListTree, no_trees, more_trees, count}
use Rattle.goal_text.specs.Lexicon.{is_name, is_type_variable}
use Rattle.goal_text.specs.Names.{Constructors}
use Rattle.goal_text.specs.Types.{Arrows, Constructed, arrows, type_atom, type_built, type_form, type_of, types_behind, types_of}
use Rattle.goal_print.specs.Shapes.{HasShape, HaveShapes}
use Rattle.goal_print.specs.TermShape.{type_shape, results_shape, types_shape}
use Rattle.goal_text.specs.Given.{how_many, IsGivenType, AreGivenTypes}
use Rattle.goal_print.proofs.WordLemmas.{apart, name_apart, name_no_type_variable, equal_numbers, bool_no_name, int_no_name, arrow_no_name, bool_no_type_variable, int_no_type_variable}

some_there : (n : ℕ) → nat_lt 0 (n + 1) ≡ true
some_there n = lt-ltb 0 (n + 1) (omega arith)

two_there : (n : ℕ) → nat_lt 1 (n + 1 + 1) ≡ true
two_there n = lt-ltb 1 (n + 1 + 1) (omega arith)

-- ---- atoms

variable_read : (types : Constructors) (at : ℕ) (name : List ℕ) → is_type_variable name ≡ true → type_atom types at name ≡ Ok (VarTy name)
unfolding type_atom
variable_read types at name h =
    let not_bool : bytes_eq name (codes "Bool") ≡ false = apart (λ text. is_type_variable text) name (codes "Bool") h bool_no_type_variable in
    let not_int : bytes_eq name (codes "Int") ≡ false = apart (λ text. is_type_variable text) name (codes "Int") h int_no_type_variable in
    rw (not_bool, not_int, h) refl

alone_read : (types : Constructors) (at : ℕ) (name : List ℕ) → is_name name ≡ true → lookup (bytes_eq name) types ≡ Some 0 → type_atom types at name ≡ Ok (ConsTy name no_types)
unfolding type_atom
alone_read types at name h declared =
    let not_bool : bytes_eq name (codes "Bool") ≡ false = name_apart name (codes "Bool") h bool_no_name in
    let not_int : bytes_eq name (codes "Int") ≡ false = name_apart name (codes "Int") h int_no_name in
    rw (not_bool, not_int, name_no_type_variable name h, h, declared) refl

-- ---- lists

arrows_form : (types : Constructors) (at place : ℕ) (a b : Tree) (rest : Trees) → type_form types at (more_trees (AtomTree place (codes "->")) (more_trees a (more_trees b rest))) ≡ Ok Arrows
unfolding type_form
arrows_form types at place a b rest = rw (some_there (count rest + 1), two_there (count rest)) refl

constructed_form : (types : Constructors) (at place : ℕ) (name : List ℕ) (a : Tree) (rest : Trees) → is_name name ≡ true → lookup (bytes_eq name) types ≡ Some (count rest + 1)
    → type_form types at (more_trees (AtomTree place name) (more_trees a rest)) ≡ Ok (Constructed name)
unfolding type_form
constructed_form types at place name a rest h declared =
    let no_arrow : bytes_eq name (codes "->") ≡ false = name_apart name (codes "->") h arrow_no_name in
    rw (some_there (count rest), no_arrow, h, declared, equal_numbers (count rest + 1)) refl

-- the types of a list, and how many there are
pub record AreRead (types : Constructors) (trees : Trees) (ts : Tys) : Type 0 where
  pub read : types_of types trees ≡ Ok ts
  pub many : count trees ≡ how_many ts

-- what a function type gives is read as the last types of its list
pub record IsResult (types : Constructors) (trees : Trees) (b : Ty) : Type 0 where
  pub first : Tree
  pub rest : Trees
  pub are : trees ≡ more_trees first rest
  pub type : Ty
  pub others : Tys
  pub read : types_of types trees ≡ Ok (more_types type others)
  pub onto : arrows type others ≡ b

last_result : (types : Constructors) (tree : Tree) (b : Ty) → type_of types tree ≡ Ok b → IsResult types (more_trees tree no_trees) b
unfolding types_of
last_result types tree b h = record { first = tree; rest = no_trees; are = refl; type = b; others = no_types; read = rw h refl; onto = refl }

mutual
  unfolding HasShape HaveShapes type_shape results_shape types_shape IsGivenType AreGivenTypes type_of types_of types_behind type_atom type_built

  pub reads_type : (types : Constructors) (ty : Ty) → IsGivenType types ty → (tree : Tree) → HasShape (type_shape ty) tree → type_of types tree ≡ Ok ty
  reads_type types BoolTy given (AtomTree at text) h = rw h refl
  reads_type types BoolTy given (QuotedTree at text) h = absurd h
  reads_type types BoolTy given (ListTree at parts) h = absurd h
  reads_type types IntTy given (AtomTree at text) h = rw h refl
  reads_type types IntTy given (QuotedTree at text) h = absurd h
  reads_type types IntTy given (ListTree at parts) h = absurd h
  reads_type types (VarTy name) given (AtomTree at text) h = ap (type_atom types at) h ∙ variable_read types at name given
  reads_type types (VarTy name) given (QuotedTree at text) h = absurd h
  reads_type types (VarTy name) given (ListTree at parts) h = absurd h
  reads_type types (FunTy a b) given (AtomTree at text) h = absurd h
  reads_type types (FunTy a b) given (QuotedTree at text) h = absurd h
  reads_type types (FunTy a b) given (ListTree at no_trees) h = absurd h
  reads_type types (FunTy a b) given (ListTree at (more_trees (QuotedTree place text) rest)) h = absurd h.0
  reads_type types (FunTy a b) given (ListTree at (more_trees (ListTree place parts) rest)) h = absurd h.0
  reads_type types (FunTy a b) given (ListTree at (more_trees (AtomTree place text) no_trees)) h = absurd h.1
  reads_type types (FunTy a b) given (ListTree at (more_trees (AtomTree place text) (more_trees first rest))) h =
      let from = reads_type types a given.0 first h.1.0 in
      let to = reads_result types b given.1 rest h.1.1 in
      let form : type_form types at (more_trees (AtomTree place text) (more_trees first rest)) ≡ Ok Arrows =
      ap (λ t. type_form types at (more_trees (AtomTree place t) (more_trees first rest))) h.0 ∙ ap (λ ts. type_form types at (more_trees (AtomTree place (codes "->")) (more_trees first ts))) to.are ∙ arrows_form types at place first to.first to.rest in
      rw (form, from, to.read) (ap (λ t. Ok (FunTy a t)) to.onto)
  reads_type types (ConsTy name no_types) given (AtomTree at text) h = ap (type_atom types at) h ∙ alone_read types at name given.0 given.1
  reads_type types (ConsTy name no_types) given (QuotedTree at text) h = absurd h
  reads_type types (ConsTy name no_types) given (ListTree at parts) h = absurd h
  reads_type types (ConsTy name (more_types t ts)) given (AtomTree at text) h = absurd h
  reads_type types (ConsTy name (more_types t ts)) given (QuotedTree at text) h = absurd h
  reads_type types (ConsTy name (more_types t ts)) given (ListTree at no_trees) h = absurd h
  reads_type types (ConsTy name (more_types t ts)) given (ListTree at (more_trees (QuotedTree place text) rest)) h = absurd h.0
  reads_type types (ConsTy name (more_types t ts)) given (ListTree at (more_trees (ListTree place parts) rest)) h = absurd h.0
  reads_type types (ConsTy name (more_types t ts)) given (ListTree at (more_trees (AtomTree place text) no_trees)) h = absurd h.1
  reads_type types (ConsTy name (more_types t ts)) given (ListTree at (more_trees (AtomTree place text) (more_trees first rest))) h =
      let one = reads_type types t given.2.0 first h.1.0 in
      let more = reads_types types ts given.2.1 rest h.1.1 in
      let declared : lookup (bytes_eq name) types ≡ Some (count rest + 1) = given.1 ∙ ap (λ n. Some (n + 1)) (sym more.many) in
      let form : type_form types at (more_trees (AtomTree place text) (more_trees first rest)) ≡ Ok (Constructed name) =
      ap (λ n. type_form types at (more_trees (AtomTree place n) (more_trees first rest))) h.0 ∙ constructed_form types at place name first rest given.0 declared in
      rw (form, one, more.read) refl

  reads_result : (types : Constructors) (b : Ty) → IsGivenType types b → (trees : Trees) → HaveShapes (results_shape b) trees → IsResult types trees b
  reads_result types BoolTy given no_trees h = absurd h
  reads_result types BoolTy given (more_trees tree no_trees) h = last_result types tree BoolTy (reads_type types BoolTy given tree h.0)
  reads_result types BoolTy given (more_trees tree (more_trees second rest)) h = absurd h.1
  reads_result types IntTy given no_trees h = absurd h
  reads_result types IntTy given (more_trees tree no_trees) h = last_result types tree IntTy (reads_type types IntTy given tree h.0)
  reads_result types IntTy given (more_trees tree (more_trees second rest)) h = absurd h.1
  reads_result types (VarTy name) given no_trees h = absurd h
  reads_result types (VarTy name) given (more_trees tree no_trees) h = last_result types tree (VarTy name) (reads_type types (VarTy name) given tree h.0)
  reads_result types (VarTy name) given (more_trees tree (more_trees second rest)) h = absurd h.1
  reads_result types (FunTy a b) given no_trees h = absurd h
  reads_result types (FunTy a b) given (more_trees first rest) h =
      let from = reads_type types a given.0 first h.0 in
      let to = reads_result types b given.1 rest h.1 in
      record { first = first; rest = rest; are = refl; type = a; others = more_types to.type to.others; read = rw (from, to.read) refl; onto = ap (FunTy a) to.onto }
  reads_result types (ConsTy name no_types) given no_trees h = absurd h
  reads_result types (ConsTy name no_types) given (more_trees tree no_trees) h = last_result types tree (ConsTy name no_types) (reads_type types (ConsTy name no_types) given tree h.0)
  reads_result types (ConsTy name no_types) given (more_trees tree (more_trees second rest)) h = absurd h.1
  reads_result types (ConsTy name (more_types t ts)) given no_trees h = absurd h
  reads_result types (ConsTy name (more_types t ts)) given (more_trees tree no_trees) h = last_result types tree (ConsTy name (more_types t ts)) (reads_type types (ConsTy name (more_types t ts)) given tree h.0)
  reads_result types (ConsTy name (more_types t ts)) given (more_trees tree (more_trees second rest)) h = absurd h.1

  reads_types : (types : Constructors) (ts : Tys) → AreGivenTypes types ts → (trees : Trees) → HaveShapes (types_shape ts) trees → AreRead types trees ts
  reads_types types no_types given no_trees h = record { read = refl; many = refl }
  reads_types types no_types given (more_trees tree trees) h = absurd h
  reads_types types (more_types t ts) given no_trees h = absurd h
  reads_types types (more_types t ts) given (more_trees tree trees) h =
      let one = reads_type types t given.0 tree h.0 in
      let more = reads_types types ts given.1 trees h.1 in
      record { read = rw (one, more.read) refl; many = ap (λ n. n + 1) more.many }
