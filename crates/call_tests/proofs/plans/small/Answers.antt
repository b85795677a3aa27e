use Rattle.call_tests.proofs.SmallPlan.{small_is_plan}
use Rattle.call_tests.proofs.plans.small.Goals as goal

pub new-requires : goal.new-requires
new-requires c =
    rw (c.freeze.ensures, c.in_ok-parts.ensures, c.in_ok-nodes.ensures, c.no_items.ensures) (small_is_plan _ c.in_ok-falsity.falsity c.in_ok-falsity.ensures.there c.in_ok-falsity.ensures.tree)
