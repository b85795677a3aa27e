use Rattle.goal_text.proofs.FoundLemmas.{constant_found, constant_is}
use Rattle.goal_text.proofs.scope.constant_of.Goals as goal

pub returns-clause-found : goal.returns-clause-found
returns-clause-found c = constant_found c.args._base.now c.args.constants.now c.args.name.now c.find.result c.find.ensures

pub returns-clause-is : goal.returns-clause-is
returns-clause-is c = constant_is c.args._base.now c.args.constants.now c.args.name.now c.find.result c.requires c.find.ensures
