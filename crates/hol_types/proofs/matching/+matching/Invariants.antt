use Rattle.std.proofs.Common.{◌+◌, ◌*◌}
use Rattle.hol_types.specs.TypeStore.{joined}
use Rattle.hol_types.specs.TypeSubst.{HasSubst, NamesOnce, subst_tree}
use Rattle.hol_types.specs.TypeMatch.{IsLeast}
use Rattle.hol_types.specs.Matching.{MatchFirst, AllDone}
use Rattle.hol_types.proofs.matching.+matching.Given as goal

abbrev pub decreases-match_part : goal.decreases-match_part
decreases-match_part l = 3 * l.pattern + 2

abbrev pub decreases-match_node : goal.decreases-match_node
decreases-match_node l = 3 * l.pattern + 1

abbrev pub decreases-match_args : goal.decreases-match_args
decreases-match_args l = 3 * l.above

abbrev pub invariant-match_args-loop-i : goal.invariant-match_args-loop-i
invariant-match_args-loop-i l = record {
  least : IsLeast (MatchFirst (joined l.base l.own) l.ps l.ts l.i) (subst_tree (joined l.base l.own) l.fn.found.items) (subst_tree (joined l.base l.own) l.found.items);
  found : HasSubst (joined l.base l.own) l.found.items;
  once : NamesOnce l.fn.found.items → NamesOnce l.found.items;
  done : AllDone (joined l.base l.own) (subst_tree (joined l.base l.own) l.found.items) l.done;
}
