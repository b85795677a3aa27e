use Rattle.std.proofs.Common.{◌≡◌, ◌+◌, ◌-◌, ◌≤◌}
use Rattle.sexp.specs.Tree.{count}
use Rattle.sexp.specs.Forest.{trees_at, IsRun}
use Rattle.goal_text.proofs.tree.count_at.Given as goal

-- the trees so far and those to come
abbrev pub invariant-loop-after : goal.invariant-loop-after
invariant-loop-after l =
    record {
      run : IsRun l.forest l.i l.end;
      count : l.n + count (trees_at l.forest l.i l.end) ≡ count (trees_at l.forest l.first l.end);
      below : l.n ≤ l.i;
    }

abbrev pub decreases-loop-after : goal.decreases-loop-after
decreases-loop-after l = l.end - l.i
