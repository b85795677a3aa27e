use Rattle.hol_formulas.proofs.GrowthLemmas.{constants_keep}
use Rattle.hol_formulas.proofs.binder.make_chosen.Goals as goal

pub make_choice-requires-clause-constants : goal.make_choice-requires-clause-constants
make_choice-requires-clause-constants g c = constants_keep _ _ c.make.ensures.keeps _ c.requires.constants
