use Rattle.std.proofs.Common.{◌+◌, ◌*◌}
use Rattle.hol_terms.proofs.open.+open.Given as goal

abbrev pub decreases-open_part : goal.decreases-open_part
decreases-open_part g l = 2 * l.part.term + 1

abbrev pub decreases-open_node : goal.decreases-open_node
decreases-open_node g l = 2 * l.part.term
