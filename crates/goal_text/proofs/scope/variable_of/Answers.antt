use Rattle.goal_text.proofs.FoundLemmas.{variable_found, variable_there}
use Rattle.goal_text.proofs.scope.variable_of.Goals as goal

pub returns-clause-found : goal.returns-clause-found
returns-clause-found c = variable_found c.args._base.now c.args.binders.now c.args.name.now c.find.result c.find.ensures

pub returns-clause-there : goal.returns-clause-there
returns-clause-there c = variable_there c.args._base.now c.args.binders.now c.args.name.now c.find.result c.requires c.find.ensures
