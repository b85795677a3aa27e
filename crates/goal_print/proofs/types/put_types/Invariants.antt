use Rattle.std.proofs.Common.{◌≤◌, length, drop}
use Rattle.std.specs.List.{AllByRecursion}
use Rattle.hol_types.specs.TypeStore.{HasType, trees_at}
use Rattle.hol_terms.specs.TermStore.{TermStore}
use Rattle.goal_text.specs.Names.{Constants}
use Rattle.goal_print.specs.TypeText.{types_text}
use Rattle.goal_print.specs.Pieces.{Puts, types_work}
use Rattle.goal_print.proofs.types.put_types.Given as goal

-- the types from the index on are put
abbrev pub invariant-loop-k : goal.invariant-loop-k
invariant-loop-k l = record {
  within : l.k ≤ length l.types;
  puts : (s : TermStore) (consts : Constants) → AllByRecursion (HasType s.types) l.types → Puts s consts (types_text (trees_at s.types (drop l.k l.types))) (types_work (trees_at s.types (drop l.k l.types))) l.fn.pieces.items l.pieces.items;
}

abbrev pub decreases-loop-k : goal.decreases-loop-k
decreases-loop-k l = l.k
