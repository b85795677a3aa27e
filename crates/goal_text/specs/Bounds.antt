-- Terms whose loose Bounds have the types of binders.
use Rattle.std.specs.Prelude.{ℕ, ◌+◌, List, [], ◌∷◌}
use Rattle.hol_terms.specs.Term.{Term, BoundsFit}
use Rattle.goal_text.specs.Names.{Binders}

-- the loose Bounds from i on have the types of the binders, the innermost first
abbrev pub FitsAll : Binders → Term → ℕ → Type 0
FitsAll [] t i = Unit {0}
FitsAll (b ∷ outer) t i = BoundsFit t i b.1 × FitsAll outer t (i + 1)

-- so are those of each term
abbrev pub AllFit : Binders → List Term → Type 0
AllFit binders [] = Unit {0}
AllFit binders (t ∷ ts) = FitsAll binders t 0 × AllFit binders ts
