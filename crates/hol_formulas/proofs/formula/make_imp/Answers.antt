use Rattle.hol_formulas.proofs.ConstantLemmas.{takes_formulas}
use Rattle.hol_formulas.proofs.formula.make_imp.Goals as goal

pub applied_to_two-requires-clause-fits : goal.applied_to_two-requires-clause-fits
applied_to_two-requires-clause-fits g c = takes_formulas _ _ _ _ c.requires.constants.imp.is c.requires.left_bool c.requires.right_bool
