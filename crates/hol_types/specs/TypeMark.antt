-- How much a store held, and what it held then.
use Rattle.std.specs.Prelude.{◌≤◌, length, take}
use Rattle.hol_types.specs.TypeStore.{TypeStore}
use Rattle.hol_types.specs.declared.tables.TypeMark.{TypeMark as Mark}

-- how much a store holds
abbrev pub mark_of : TypeStore → Mark
mark_of s = record { names = length s.names; arities = length s.arities; nodes = length s.nodes }

-- what a store held at a mark
abbrev pub cut : Mark → TypeStore → TypeStore
cut m s = record { names = take m.names s.names; arities = take m.arities s.arities; nodes = take m.nodes s.nodes }

-- a store holds no less than at the mark
pub record FitsMark (m : Mark) (s : TypeStore) : Type 0 where
  pub names : m.names ≤ length s.names
  pub arities : m.arities ≤ length s.arities
  pub nodes : m.nodes ≤ length s.nodes
