use Rattle.goal_print.proofs.ReadBackLemmas.{reads_back, reads_back_in}
use Rattle.goal_print.proofs.print.print_goal.Goals as goal

pub returns-clause-reads_back : goal.returns-clause-reads_back
returns-clause-reads_back c = reads_back c.args.problem.now c.append_under.ensures.few

pub returns-clause-reads_back_in : goal.returns-clause-reads_back_in
returns-clause-reads_back_in c = reads_back_in c.args.problem.now c.append_under.ensures.few
