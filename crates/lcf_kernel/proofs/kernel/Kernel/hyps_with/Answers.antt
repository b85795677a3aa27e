use Rattle.lcf_kernel.proofs.HypLemmas.{is_outside_with, gives_own, hyps_apart}
use Rattle.lcf_kernel.proofs.kernel.Kernel.hyps_with.Goals as goal

pub hyps_union-requires-clause-left : goal.hyps_union-requires-clause-left
hyps_union-requires-clause-left c = rw c.as_slice.ensures c.in_ok-new.ensures.gives.hyps

pub returns-clause-gives : goal.returns-clause-gives
returns-clause-gives c = gives_own c.in_ok-c.ensures.gives

pub returns-clause-outside : goal.returns-clause-outside
returns-clause-outside c =
    let given = rw (c.as_slice.ensures, c.hyps.ensures.trees) at c.in_ok-c.ensures.gives in
    is_outside_with _ _ _ _ _ c.in_ok-new.ensures.outside (hyps_apart c.args.self.now c.hyps.ensures.lawful c.know_apart.ensures.apart c.args.a c.requires.thm) given.same
