use Rattle.std.proofs.Common.{◌≡◌, ◌+◌, sym, subst}
use Rattle.proof_plan.specs.Accept.{Accept, accepted}
use Rattle.replay_basic.specs.Replaying.{StatesNode}
use Rattle.smt_cli.specs.Outcomes.{IsReplayed}
use Rattle.smt_cli.proofs.RunLemmas.{replayed_next}
use Rattle.smt_cli.proofs.run.replay_next.Goals as goal

pub returns-in-Ok : goal.returns-in-Ok
returns-in-Ok c =
    let p = c.args.plan.now in
    let k = c.args.k in
    let later = c.replay.new.kernel in
    let t = c.in-Ok.t in
    let states : StatesNode p later t k = rw (c.task-task.ensures.plan, c.task-task.ensures.node) at c.in-Ok.ensures.states in
    let accept : Accept p k ≡ accepted = rw (c.task-task.ensures.plan, c.task-task.ensures.node) at c.in-Ok.ensures.accepted in
    subst (λ ts. IsReplayed p later ts (k + 1)) (sym c.in_ok-push-in-Ok.ensures.items) (replayed_next p c.args.kernel.now later c.args.thms.now.items t k c.requires.before c.replay.ensures.keeps states accept)
