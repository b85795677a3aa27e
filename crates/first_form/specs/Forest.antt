-- The trees of a proof file.
use Rattle.std.specs.Prelude.{ℕ, List, Option, Some, None, Result, Ok, Err, if◌then◌else◌, nat_eq}
use Rattle.std.specs.List.{list_any}
use Rattle.sexp.specs.Tree.{Trees}
use Rattle.sexp.specs.TextTrees.{forest_of, unless_long}

-- how many bytes a proof file has at most: 4 MiB
unfoldable pub longest : ℕ
longest = 4194304

-- what is read, if there is no fault
abbrev pub readable : {E : Type 0} → Result Trees E → Option Trees
readable (Ok trees) = Some trees
readable (Err fault) = None

-- the trees of a text of at most that many bytes, with no comment and no list deeper than 2,000
unfoldable pub trees_of : List ℕ → Option Trees
trees_of text = if list_any (nat_eq 59) text then None else readable (unless_long longest text (forest_of text))
