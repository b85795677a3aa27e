use Rattle.std.proofs.Common.{◌+◌, ◌*◌}
use Rattle.hol_match.proofs.matching.+matching.Given as goal

abbrev pub decreases-match_part : goal.decreases-match_part
decreases-match_part g l = 2 * l.p + 1

abbrev pub decreases-match_application : goal.decreases-match_application
decreases-match_application g l = 2 * l.p

abbrev pub decreases-match_lambda : goal.decreases-match_lambda
decreases-match_lambda g l = 2 * l.p
