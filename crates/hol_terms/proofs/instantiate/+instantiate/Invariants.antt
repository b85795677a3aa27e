use Rattle.std.proofs.Common.{◌+◌, ◌*◌}
use Rattle.hol_terms.proofs.instantiate.+instantiate.Given as goal

abbrev pub decreases-instantiate_part : goal.decreases-instantiate_part
decreases-instantiate_part g l = 2 * l.t + 1

abbrev pub decreases-instantiate_node : goal.decreases-instantiate_node
decreases-instantiate_node g l = 2 * l.t
