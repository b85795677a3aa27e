use Rattle.std.proofs.Common.{◌≡◌, ◌-◌}
use Rattle.sexp.specs.Forest.{trees_at, IsRun}
use Rattle.goal_text.specs.Items.{items_of}
use Rattle.goal_text.specs.ItemsIn.{AreItems, items_in}
use Rattle.goal_text.proofs.items.items_at.Given as goal

-- the items to come, after those so far
abbrev pub invariant-loop-after : goal.invariant-loop-after
invariant-loop-after l =
    record {
      run : IsRun l.forest l.i l.end;
      items : AreItems l.items;
      read : items_of (items_in l.items) (trees_at l.forest l.i l.end) ≡ items_of (items_in l.fn.items) (trees_at l.forest l.first l.end);
    }

abbrev pub decreases-loop-after : goal.decreases-loop-after
decreases-loop-after l = l.end - l.i
