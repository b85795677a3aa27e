-- Names, variables and numbers, by their bytes, and the words of the grammar.
use Rattle.std.specs.Prelude.{ℕ, ◌+◌, ◌-◌, ◌*◌, ◌^◌, List, [], ◌∷◌, length, Bool, false, ◌&&◌, ◌||◌, not, nat_lt, nat_eq, bytes_eq, codes, Option, Some, None, if◌then◌else◌, Ok}
use Rattle.std.specs.List.{list_all, list_any}
use Rattle.hol_terms.specs.BuiltIn.{is_built_in}
use Rattle.sexp.specs.Tree.{Tree, Trees, AtomTree, QuotedTree, ListTree, no_trees, more_trees, place}
use Rattle.goal_text.specs.declared.fault.GoalKind.{GoalKind}
use Rattle.goal_text.specs.declared.fault.GoalKind.TheVariants.{Syntax, Number}
use Rattle.goal_text.specs.declared.word.Word.{Word}
use Rattle.goal_text.specs.declared.word.Word.TheVariants.{Applies, Binds, Ascribes}
use Rattle.goal_text.specs.declared.word.Operator.TheVariants.{Not, And, Or, Implies, Equals, Distinct, Xor, Ite, Plus, Times, Minus, AtMost, Less, AtLeast, Greater, Div, Mod}
use Rattle.goal_text.specs.declared.word.Binder.TheVariants.{Forall, Exists, Lambda}
use Rattle.goal_text.specs.Read.{Read, faulty}

-- A to Z and a to z
abbrev pub is_letter : ℕ → Bool
is_letter b = (nat_lt 64 b && nat_lt b 91) || (nat_lt 96 b && nat_lt b 123)

-- 0 to 9
abbrev pub is_digit : ℕ → Bool
is_digit b = nat_lt 47 b && nat_lt b 58

-- a letter, a digit, `_` or `.`
abbrev pub is_inner : ℕ → Bool
is_inner b = is_letter b || is_digit b || nat_eq b 95 || nat_eq b 46

-- the words of the grammar that name no constant of HOL
abbrev pub other_words : List (List ℕ)
other_words =
    codes "distinct" ∷ codes "xor" ∷ codes "forall" ∷ codes "exists" ∷ codes "lambda" ∷ codes "as" ∷ codes "let"
    ∷ codes "Bool" ∷ codes "Int" ∷ []

-- the words that a file neither declares nor binds
abbrev pub is_reserved : List ℕ → Bool
is_reserved text = is_built_in text || list_any (bytes_eq text) other_words

-- a letter, and then letters, digits, `_` and `.`, at most 255 bytes in all
abbrev pub has_name_form : List ℕ → Bool
has_name_form [] = false
has_name_form (b ∷ text) = is_letter b && list_all is_inner text && nat_lt (length text) 255

-- a name that may be declared
unfoldable pub is_name : List ℕ → Bool
is_name text = has_name_form text && not (is_reserved text)

-- `?` in place of a name's first letter
abbrev pub has_mark : List ℕ → Bool
has_mark [] = false
has_mark (b ∷ text) = nat_eq b 63 && list_all is_inner text && nat_lt (length text) 255

-- a name that may be bound
unfoldable pub is_variable : List ℕ → Bool
is_variable text = is_name text || has_mark text

-- a quote and a name, which may be a reserved word
unfoldable pub is_type_variable : List ℕ → Bool
is_type_variable [] = false
is_type_variable (b ∷ text) = nat_eq b 39 && has_name_form text

-- a run of digits
abbrev pub are_digits : List ℕ → Bool
are_digits [] = false
are_digits (d ∷ digits) = is_digit d && list_all is_digit digits

unfoldable pub is_number : List ℕ → Bool
is_number text = are_digits text

-- the number that digits write, behind the number n
abbrev pub value_behind : ℕ → List ℕ → ℕ
value_behind n [] = n
value_behind n (d ∷ digits) = value_behind (10 * n + (d - 48)) digits

unfoldable pub value_of : List ℕ → ℕ
value_of digits = value_behind 0 digits

-- a number that isn't below 2^127
abbrev pub is_too_large : List ℕ → Bool
is_too_large text = is_number text && not (nat_lt (value_of text) (2 ^ 127))

-- a tree where the grammar allows none of its form; a number that is too large is Number wherever it stands, but as the
-- head of an item, which is Syntax at the item
abbrev pub misfit : Tree → GoalKind
misfit (AtomTree at text) = if is_too_large text then Number else Syntax
misfit (QuotedTree at text) = Syntax
misfit (ListTree at parts) = Syntax

abbrev pub misplaced : {A : Type 0} → Tree → Read A
misplaced tree = faulty (misfit tree) (place tree)

-- the only tree there is, for a list at the place
unfoldable pub one_of : ℕ → Trees → Read Tree
one_of at no_trees = faulty Syntax at
one_of at (more_trees tree no_trees) = Ok tree
one_of at (more_trees tree (more_trees second others)) = faulty Syntax at

-- the only two trees there are
unfoldable pub two_of : ℕ → Trees → Read (Tree × Tree)
two_of at no_trees = faulty Syntax at
two_of at (more_trees tree no_trees) = faulty Syntax at
two_of at (more_trees tree (more_trees second no_trees)) = Ok (tree, second)
two_of at (more_trees tree (more_trees second (more_trees third others))) = faulty Syntax at

-- the name that an atom is, where it passes the test
abbrev pub named_by : (List ℕ → Bool) → Tree → Read (List ℕ)
named_by test (AtomTree at text) = if test text then Ok text else misplaced (AtomTree at text)
named_by test (QuotedTree at text) = misplaced (QuotedTree at text)
named_by test (ListTree at parts) = misplaced (ListTree at parts)

-- a name that may be declared
unfoldable pub name_of : Tree → Read (List ℕ)
name_of tree = named_by is_name tree

-- a name that may be bound
unfoldable pub variable_of : Tree → Read (List ℕ)
variable_of tree = named_by is_variable tree

-- the word that a text is, as the head of a term
unfoldable pub word_of : List ℕ → Option Word
word_of text =
    if bytes_eq text (codes "not") then Some (Applies Not) else
    if bytes_eq text (codes "and") then Some (Applies And) else
    if bytes_eq text (codes "or") then Some (Applies Or) else
    if bytes_eq text (codes "=>") then Some (Applies Implies) else
    if bytes_eq text (codes "=") then Some (Applies Equals) else
    if bytes_eq text (codes "distinct") then Some (Applies Distinct) else
    if bytes_eq text (codes "xor") then Some (Applies Xor) else
    if bytes_eq text (codes "ite") then Some (Applies Ite) else
    if bytes_eq text (codes "+") then Some (Applies Plus) else
    if bytes_eq text (codes "*") then Some (Applies Times) else
    if bytes_eq text (codes "-") then Some (Applies Minus) else
    if bytes_eq text (codes "<=") then Some (Applies AtMost) else
    if bytes_eq text (codes "<") then Some (Applies Less) else
    if bytes_eq text (codes ">=") then Some (Applies AtLeast) else
    if bytes_eq text (codes ">") then Some (Applies Greater) else
    if bytes_eq text (codes "div") then Some (Applies Div) else
    if bytes_eq text (codes "mod") then Some (Applies Mod) else
    if bytes_eq text (codes "forall") then Some (Binds Forall) else
    if bytes_eq text (codes "exists") then Some (Binds Exists) else
    if bytes_eq text (codes "lambda") then Some (Binds Lambda) else
    if bytes_eq text (codes "as") then Some Ascribes else None

-- an atom or a quoted atom
abbrev pub IsLeaf : Tree → Type 0
IsLeaf (AtomTree at text) = Unit {0}
IsLeaf (QuotedTree at text) = Unit {0}
IsLeaf (ListTree at parts) = ⊥
