-- The command line.
use Rattle.std.specs.Prelude.{ℕ, List, [], ◌∷◌, Option, Some, None, Bool, true, not, ◌&&◌, nat_eq, bytes_eq, codes, if◌then◌else◌}

-- what a command line names: a goal file and a proof file
pub record FilesNamed : Type 0 where
  pub goal : List ℕ
  pub proof : List ℕ

-- A word that begins with `-` is no file name, unless it is `-` alone.
abbrev pub is_file_name : List ℕ → Bool
is_file_name [] = true
is_file_name (b ∷ []) = true
is_file_name (b ∷ c ∷ more) = not (nat_eq b 45)

-- the files that the words name: the words are `check`, a goal file and a proof file
unfoldable pub files_named : List (List ℕ) → Option FilesNamed
files_named [] = None
files_named (command ∷ []) = None
files_named (command ∷ goal ∷ []) = None
files_named (command ∷ goal ∷ proof ∷ []) =
    if bytes_eq command (codes "check") && is_file_name goal && is_file_name proof
    then Some (record { goal = goal; proof = proof }) else None
files_named (command ∷ goal ∷ proof ∷ more ∷ others) = None

-- the line that is printed where the words are no command line
abbrev pub usage_text : List ℕ
usage_text = codes "usage: smt print GOAL | smt check [--workers N] [--net on|off] [--stats] GOAL PROOF\n"
