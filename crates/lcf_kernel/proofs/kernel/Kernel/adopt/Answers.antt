use Rattle.hol_formulas.specs.Formulas.{trees}
use Rattle.lcf_kernel.specs.KernelState.{facts_of, context_of}
use Rattle.lcf_kernel.proofs.RuleLemmas.{follows_adopted}
use Rattle.lcf_kernel.proofs.kernel.Kernel.adopt.Goals as goal

pub add-requires : goal.add-requires
add-requires c =
    let k = c.args.self.now in
    let gives = c.in_ok-hyps.ensures.gives in
    record {
      concl = c.requires.concl;
      hyps = gives.hyps;
      follows = follows_adopted (facts_of k) (context_of k) (trees k.store c.in_ok-hyps.hyps) gives.formulas (trees k.store c.args.hyps.now) _ c.in_ok-hyps.ensures.outside c.requires.derivable;
    }
