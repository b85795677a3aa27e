use Rattle.std.proofs.lemmas.Bool.{lt-ltb, le-ltb}
use Rattle.proof_plan.proofs.SizeLemmas.{large, small}
use Rattle.proof_plan.proofs.size.too_large.Goals as goal

pub returns-then-count-gt-MOST_PARTS : goal.returns-then-count-gt-MOST_PARTS
returns-then-count-gt-MOST_PARTS g c = large c.args.task.now.plan c.args.task.now.node c.in_ok-count.count c.in_ok-count.ensures (lt-ltb 100000 c.in_ok-count.count c.if-count-gt-MOST_PARTS.true)

pub returns-else-count-gt-MOST_PARTS : goal.returns-else-count-gt-MOST_PARTS
returns-else-count-gt-MOST_PARTS g c = small c.args.task.now.plan c.args.task.now.node c.in_ok-count.count c.in_ok-count.ensures (le-ltb 100000 c.in_ok-count.count c.if-count-gt-MOST_PARTS.false)
