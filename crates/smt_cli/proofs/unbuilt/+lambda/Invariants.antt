use Rattle.std.proofs.Common.{◌+◌, ◌*◌}
use Rattle.smt_cli.proofs.unbuilt.+lambda.Given as goal

abbrev pub decreases-part_holds : goal.decreases-part_holds
decreases-part_holds l = 2 * l.t + 1

abbrev pub decreases-node_holds : goal.decreases-node_holds
decreases-node_holds l = 2 * l.t
