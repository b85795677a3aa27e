-- Lists of term numbers in rising order.
use Rattle.std.specs.Prelude.{ℕ, Bool, false, ◌||◌, ◌==◌, List, [], ◌∷◌}
use Rattle.std.specs.Ordering.{nat_cmp}
use Rattle.std.specs.List.Sorted.{IsStrictlySortedBy}
use Rattle.hol_terms.specs.Formula.{In}

-- each is above the one before
abbrev pub Rises : List ℕ → Type 0
Rises xs = IsStrictlySortedBy nat_cmp xs

-- whether the number stands in the list
unfoldable pub stands : ℕ → List ℕ → Bool
stands t [] = false
stands t (u ∷ us) = (t == u) || stands t us

-- the same numbers stand in both lists
pub record SameIds (xs ys : List ℕ) : Type 0 where
  pub to : (t : ℕ) → In t xs → In t ys
  pub from : (t : ℕ) → In t ys → In t xs
