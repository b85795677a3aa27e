use Rattle.smt_cli.proofs.RunLemmas.{claim_holds}
use Rattle.smt_cli.proofs.run.know_claim.Goals as goal

pub returns : goal.returns
returns c = claim_holds c.args.plan.now c.args.kernel.now c.args.t c.args.k c.requires.serves c.requires.states c.node-node.ensures.hyps c.concl-concl.ensures.derivable
