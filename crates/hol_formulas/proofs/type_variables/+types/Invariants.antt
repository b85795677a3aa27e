use Rattle.std.proofs.Common.{◌+◌, ◌*◌, ◌<◌, ℕ, get_or}
use Rattle.hol_types.specs.TypeStore.{type_tree, trees_at}
use Rattle.hol_types.specs.TypeSubst.{variables_of, variables_of_all}
use Rattle.hol_formulas.specs.FoundTypes.{FindsTypes, AddsTypes, AllTypesFound}
use Rattle.hol_formulas.proofs.type_variables.+types.Given as goal

abbrev pub decreases-find_in_type : goal.decreases-find_in_type
decreases-find_in_type g l = 3 * l.t + 2

abbrev pub decreases-find_in_type_node : goal.decreases-find_in_type_node
decreases-find_in_type_node g l = 3 * l.t + 1

abbrev pub decreases-find_in_types : goal.decreases-find_in_types
decreases-find_in_types g l = 3 * l.above

-- the type variables of the types so far are found, and nothing else
abbrev pub invariant-find_in_types-loop-t : goal.invariant-find_in_types-loop-t
invariant-find_in_types-loop-t g l = record {
  seen : AllTypesFound (g.S.Terms.store l.store).types l.found.items l.seen;
  adds : AddsTypes (g.S.Terms.store l.store).types l.fn.found.items l.found.items (variables_of_all (trees_at (g.S.Terms.store l.store).types l.ts));
  done : (k : ℕ) → k < l.t-index → FindsTypes (g.S.Terms.store l.store).types l.found.items (variables_of (type_tree (g.S.Terms.store l.store).types (get_or l.ts k 0)));
}
