use Rattle.discharge.proofs.FinishLemmas.{goal_is_proved, goal_derivable}
use Rattle.discharge.proofs.proved.finish.Goals as goal

pub invariant_of-result : goal.invariant_of-result
invariant_of-result c =
    rw (c.into_parts-base.ensures.terms, c.into_parts-base.ensures.parts) (goal_is_proved _ c.into_parts-base.ensures.lawful c.requires.root c.requires.assertions c.requires.no_definitions)

pub returns-clause-derivable : goal.returns-clause-derivable
returns-clause-derivable c = goal_derivable _ c.into_parts-base.ensures.lawful c.requires.root c.requires.assertions c.requires.no_definitions
