use Rattle.std.proofs.Common.{◌+◌, ◌*◌}
use Rattle.hol_formulas.proofs.type_variables.+terms.Given as goal

abbrev pub decreases-find_in_part : goal.decreases-find_in_part
decreases-find_in_part g l = 2 * l.t + 1

abbrev pub decreases-find_in_node : goal.decreases-find_in_node
decreases-find_in_node g l = 2 * l.t
