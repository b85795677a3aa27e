use Rattle.std.proofs.Common.{◌+◌, ◌*◌}
use Rattle.hol_terms.proofs.free_in.+free_in.Given as goal

abbrev pub decreases-part_has : goal.decreases-part_has
decreases-part_has g l = 2 * l.t + 1

abbrev pub decreases-node_has : goal.decreases-node_has
decreases-node_has g l = 2 * l.t
