use Rattle.std.proofs.Common.{◌+◌, ◌*◌}
use Rattle.hol_match.specs.Matching.{AllSame, FirstSame}
use Rattle.hol_match.proofs.same_types.+same_types.Given as goal

abbrev pub decreases-is_same_type : goal.decreases-is_same_type
decreases-is_same_type g l = 3 * l.a + 2

abbrev pub decreases-is_same_node : goal.decreases-is_same_node
decreases-is_same_node g l = 3 * l.a + 1

abbrev pub decreases-are_same_types : goal.decreases-are_same_types
decreases-are_same_types g l = 3 * l.above

abbrev pub invariant-are_same_types-loop-i : goal.invariant-are_same_types-loop-i
invariant-are_same_types-loop-i g l = record {
  first : FirstSame (g.P.Terms.store l.patterns).types (g.S.Terms.store l.terms).types l.ps l.ts l.i;
  known : AllSame (g.P.Terms.store l.patterns).types (g.S.Terms.store l.terms).types l.known;
}
