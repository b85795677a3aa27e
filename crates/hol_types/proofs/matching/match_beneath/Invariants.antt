use Rattle.hol_types.specs.TypeStore.{joined, type_tree}
use Rattle.hol_types.specs.TypeSubst.{HasSubst, NamesOnce, subst_tree}
use Rattle.hol_types.specs.Matching.{AllDone}
use Rattle.hol_types.specs.Pairs.{IsAhead}
use Rattle.hol_types.proofs.matching.match_beneath.Given as goal

abbrev pub invariant-loop-pair : goal.invariant-loop-pair
invariant-loop-pair l = record {
  ahead : IsAhead (type_tree (joined l.base l.own) l.fn.pattern) (type_tree (joined l.base l.own) l.fn.t) (subst_tree (joined l.base l.own) l.fn.found.items) (subst_tree (joined l.base l.own) l.found.items);
  found : HasSubst (joined l.base l.own) l.found.items;
  once : NamesOnce l.fn.found.items → NamesOnce l.found.items;
  done : AllDone (joined l.base l.own) (subst_tree (joined l.base l.own) l.found.items) l.done;
}
