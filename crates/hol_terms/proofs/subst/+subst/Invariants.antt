use Rattle.std.proofs.Common.{◌+◌, ◌*◌}
use Rattle.hol_terms.proofs.subst.+subst.Given as goal

abbrev pub decreases-subst_part : goal.decreases-subst_part
decreases-subst_part g l = 2 * l.t + 1

abbrev pub decreases-subst_node : goal.decreases-subst_node
decreases-subst_node g l = 2 * l.t
