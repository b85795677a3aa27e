use Rattle.goal_text.proofs.ProblemLemmas.{finished, is_problem}
use Rattle.goal_text.proofs.read.finish.Goals as goal

pub returns-in-Some-clause-read : goal.returns-in-Some-clause-read
returns-in-Some-clause-read c = finished c.args.items c.args.n c.requires.items c.new.result c.new-in-Some.result c.in-Some.goal c.new.ensures c.new-in-Some.ensures c.in-Some.is

pub returns-in-Some-clause-problem : goal.returns-in-Some-clause-problem
returns-in-Some-clause-problem c = is_problem c.args.items c.args.n c.requires.items c.new.result c.new-in-Some.result c.in-Some.goal c.new.ensures c.new-in-Some.ensures c.in-Some.is c.requires.given
