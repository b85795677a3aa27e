use Rattle.std.proofs.Common.{◌+◌, ◌*◌}
use Rattle.hol_terms.proofs.close.+close.Given as goal

abbrev pub decreases-close_part : goal.decreases-close_part
decreases-close_part g l = 2 * l.part.term + 1

abbrev pub decreases-close_node : goal.decreases-close_node
decreases-close_node g l = 2 * l.part.term
