-- The trees of a text, as they are read.
use Rattle.std.proofs.Common.{◌≡◌, ℕ, List, None, Result, true, false, refl, nat_eq}
use Rattle.std.specs.List.{list_any}
use Rattle.sexp.specs.Tree.{Trees}
use Rattle.sexp.specs.TextTrees.{forest_of, unless_long}
use Rattle.sexp.specs.declared.token.SexpFault.{SexpFault}
use Rattle.first_form.specs.Forest.{longest, readable, trees_of}

pub longest_is : longest ≡ 4194304
unfolding longest
longest_is = refl

-- the trees of a text without comments
pub trees_from : (most : ℕ) (text : List ℕ) (read : Result Trees SexpFault) → longest ≡ most → list_any (nat_eq 59) text ≡ false → unless_long most text (forest_of text) ≡ read → trees_of text ≡ readable read
unfolding trees_of
trees_from most text read is none e = rw (none, is, e) refl

pub trees_none : (text : List ℕ) → list_any (nat_eq 59) text ≡ true → trees_of text ≡ None
unfolding trees_of
trees_none text some = rw some refl
