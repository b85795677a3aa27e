use Rattle.std.proofs.Common.{◌+◌, ◌*◌}
use Rattle.hol_terms.proofs.fits.+fits.Given as goal

abbrev pub decreases-part_fits : goal.decreases-part_fits
decreases-part_fits l = 2 * l.part.term + 1

abbrev pub decreases-node_fits : goal.decreases-node_fits
decreases-node_fits l = 2 * l.part.term
