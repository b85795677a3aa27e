use Rattle.std.proofs.Common.{◌+◌, ◌*◌}
use Rattle.hol_match.proofs.applying.+apply.Given as goal

abbrev pub decreases-apply_part : goal.decreases-apply_part
decreases-apply_part g l = 2 * l.t + 1

abbrev pub decreases-apply_node : goal.decreases-apply_node
decreases-apply_node g l = 2 * l.t
