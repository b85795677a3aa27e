use Rattle.std.proofs.Common.{◌≡◌, ◌+◌, ◌*◌, ◌≤◌, drop, is_some, bytes_eq}
use Rattle.std.specs.List.{list_all}
use Rattle.std.specs.Map.{lookup}
use Rattle.hol_types.specs.TypeStore.{HasType, trees_at, type_tree}
use Rattle.hol_types.specs.TypeSubst.{subst_tree, variables_of_all}
use Rattle.goal_text.specs.Matching as matching
use Rattle.goal_text.proofs.matching.+covers.Given as goal

abbrev pub decreases-covers : goal.decreases-covers
decreases-covers l = 2 * l.t + 1

abbrev pub decreases-covers_all : goal.decreases-covers_all
decreases-covers_all l = 2 * l.above

-- the part of the type that is left decides
abbrev pub invariant-covers-loop-n : goal.invariant-covers-loop-n
invariant-covers-loop-n l =
    record {
      there : HasType l.base.types l.u;
      within : l.u ≤ l.fn.t;
      rest : matching.covers (subst_tree l.base.types l.s) (type_tree l.base.types l.u) ≡ matching.covers (subst_tree l.base.types l.s) (type_tree l.base.types l.fn.t);
    }

abbrev pub decreases-covers-loop-n : goal.decreases-covers-loop-n
decreases-covers-loop-n l = l.u

-- the types that are left decide
abbrev pub invariant-covers_all-loop-t : goal.invariant-covers_all-loop-t
invariant-covers_all-loop-t l =
    list_all (λ n. is_some (lookup (bytes_eq n) (subst_tree l.base.types l.s))) (variables_of_all (trees_at l.base.types (drop l.t-index l.ts)))
    ≡ list_all (λ n. is_some (lookup (bytes_eq n) (subst_tree l.base.types l.s))) (variables_of_all (trees_at l.base.types l.ts))
