use Rattle.goal_text.proofs.FoundLemmas.{constructor_found, constructor_is}
use Rattle.goal_text.proofs.scope.constructor_of.Goals as goal

pub returns-clause-found : goal.returns-clause-found
returns-clause-found c = constructor_found c.args._base.now c.args.constructors.now c.args.name.now c.find.result c.find.ensures

pub returns-clause-is : goal.returns-clause-is
returns-clause-is c = constructor_is c.args._base.now c.args.constructors.now c.args.name.now c.find.result c.requires c.find.ensures
