-- What is still to be written, by pieces.
use Rattle.std.specs.Prelude.{◌≡◌, ℕ, ◌+◌, ◌^◌, ◌<◌, ◌≤◌, List, [], ◌∷◌, ◌++◌, nat_eq, codes, Some, None}
use Rattle.std.specs.List.{AllByRecursion}
use Rattle.std.specs.HashSet.{HashSet, contains}
use Rattle.hol_types.specs.Ty.{Ty, Tys, BoolTy, IntTy, VarTy, FunTy, ConsTy, no_types, more_types}
use Rattle.hol_types.specs.TypeStore.{HasName, HasType, text_of, type_tree}
use Rattle.hol_terms.specs.Term.{Term, FreeTm, BoundTm, ConstTm, NumTm, AppTm, LamTm}
use Rattle.hol_terms.specs.TermStore.{TermStore, HasTerm, term_tree}
use Rattle.goal_text.specs.Names.{Constants}
use Rattle.goal_print.specs.TypeText.{type_in}
use Rattle.goal_print.specs.Kinds.{lead, open_list, close_list}
use Rattle.goal_print.specs.TermText.{text_in, first_in, body_in, parts_text, literal_text, variable_text, word_for, is_schematic}
use Rattle.goal_print.specs.declared.kind.Kind.{Kind}
use Rattle.goal_print.specs.declared.kind.Kind.TheVariants.{Application}
use Rattle.goal_print.specs.declared.piece.Word.{Word}
use Rattle.goal_print.specs.declared.piece.Word.TheVariants as words
use Rattle.goal_print.specs.declared.piece.Piece.{Piece}
use Rattle.goal_print.specs.declared.piece.Piece.TheVariants as pieces

-- ---- the text

abbrev pub word_text : TermStore → Word → List ℕ
word_text s words.Blank = codes " "
word_text s words.Open = codes "("
word_text s words.Close = codes ")"
word_text s words.Arrow = codes "(->"
word_text s words.As = codes "(as "
word_text s words.Bool = codes "Bool"
word_text s words.Int = codes "Int"
word_text s (words.Lead place kind) = lead place kind
word_text s (words.OpenList place kind) = open_list place kind
word_text s (words.CloseList place kind) = close_list place kind
word_text s (words.Name n) = text_of s.types n
word_text s (words.Constant n) = word_for (text_of s.types n)
word_text s (words.Literal value) = literal_text value
word_text s (words.Variable k) = variable_text k

abbrev pub piece_text : TermStore → Constants → Piece → List ℕ
piece_text s consts (pieces.Word w) = word_text s w
piece_text s consts (pieces.TypeText t given) = type_in given (type_tree s.types t)
piece_text s consts (pieces.TermText place depth t) = text_in consts place depth (term_tree s t)

-- the text of pieces, of which the last is written first
abbrev pub rest_text : TermStore → Constants → List Piece → List ℕ
rest_text s consts [] = []
rest_text s consts (p ∷ ps) = rest_text s consts ps ++ piece_text s consts p

-- ---- numbers

-- a word's name is there
abbrev pub HasWord : TermStore → Word → Type 0
HasWord s words.Blank = Unit {0}
HasWord s words.Open = Unit {0}
HasWord s words.Close = Unit {0}
HasWord s words.Arrow = Unit {0}
HasWord s words.As = Unit {0}
HasWord s words.Bool = Unit {0}
HasWord s words.Int = Unit {0}
HasWord s (words.Lead place kind) = Unit {0}
HasWord s (words.OpenList place kind) = Unit {0}
HasWord s (words.CloseList place kind) = Unit {0}
HasWord s (words.Name n) = HasName s.types n
HasWord s (words.Constant n) = HasName s.types n
HasWord s (words.Literal value) = Unit {0}
HasWord s (words.Variable k) = Unit {0}

-- a term is there, and the binders round and in it are fewer than 2^32
pub record IsWithin (s : TermStore) (depth t : ℕ) : Type 0 where
  pub there : HasTerm s t
  pub few : depth + t < 2 ^ 32

abbrev pub HasPiece : TermStore → Piece → Type 0
HasPiece s (pieces.Word w) = HasWord s w
HasPiece s (pieces.TypeText t given) = HasType s.types t
HasPiece s (pieces.TermText place depth t) = IsWithin s depth t

abbrev pub HavePieces : TermStore → List Piece → Type 0
HavePieces s ps = AllByRecursion (HasPiece s) ps

-- the set has the constants that are declared with type variables
abbrev pub KnowsSchematic : {S : Type 0} → TermStore → Constants → HashSet ℕ S → Type 0
KnowsSchematic s consts schematic = (n : ℕ) → HasName s.types n → contains nat_eq schematic n ≡ is_schematic consts (text_of s.types n)

-- ---- steps

abbrev mutual
  -- how many pieces a type takes
  pub type_work : Ty → ℕ
  type_work BoolTy = 2
  type_work IntTy = 2
  type_work (VarTy name) = 2
  type_work (FunTy a b) = 5 + type_work a + type_work b
  type_work (ConsTy name ts) = 4 + types_work ts

  pub types_work : Tys → ℕ
  types_work no_types = 0
  types_work (more_types t ts) = 2 + type_work t + types_work ts

-- and a term, at most
abbrev pub term_work : Term → ℕ
term_work (FreeTm kind name type) = 2
term_work (BoundTm index type) = 2
term_work (ConstTm name type) = 6 + type_work type
term_work (NumTm value) = 2
term_work (AppTm f x) = 6 + term_work f + term_work x
term_work (LamTm type body) = 9 + type_work type + term_work body

abbrev pub piece_work : TermStore → Piece → ℕ
piece_work s (pieces.Word w) = 1
piece_work s (pieces.TypeText t given) = 1 + type_work (type_tree s.types t)
piece_work s (pieces.TermText place depth t) = 1 + term_work (term_tree s t)

abbrev pub rest_work : TermStore → List Piece → ℕ
rest_work s [] = 0
rest_work s (p ∷ ps) = piece_work s p + rest_work s ps

-- ---- what a function does

-- pieces are put on top that stand for the text, with no more steps than this
pub record Puts (s : TermStore) (consts : Constants) (text : List ℕ) (work : ℕ) (old new : List Piece) : Type 0 where
  pub text_is : rest_text s consts new ≡ text ++ rest_text s consts old
  pub work_is : rest_work s new ≤ work + rest_work s old
  pub there : HavePieces s old → HavePieces s new

-- pieces are put on top that take no more steps than this
pub record Grows (s : TermStore) (work : ℕ) (old new : List Piece) : Type 0 where
  pub work_is : rest_work s new ≤ work + rest_work s old
  pub there : HavePieces s old → HavePieces s new

-- the parts of an application of a kind
abbrev pub parts_in : Constants → Kind → ℕ → Term → Term → List ℕ
parts_in consts kind depth f x =
    parts_text kind
    (text_in consts (Some Application) depth f ++ codes " " ++ text_in consts None depth x)
    (codes " " ++ first_in consts None depth f ++ text_in consts (Some kind) depth x)
    (first_in consts (Some kind) depth f ++ codes " " ++ text_in consts None depth x)
    (body_in consts kind depth x)

-- of the text that is to be appended a front part stands there, and the rest is to come
pub record IsPart (text old new rest : List ℕ) : Type 0 where
  pub front : List ℕ
  pub appended : new ≡ old ++ front
  pub whole : text ≡ front ++ rest

-- a front part was appended, and nothing else
abbrev pub AppendsPart : List ℕ → List ℕ → List ℕ → Type 0
AppendsPart text old new = (rest : List ℕ) × IsPart text old new rest
