use Rattle.lcf_kernel.proofs.HypLemmas.{gives_same_as}
use Rattle.lcf_kernel.proofs.kernel.Kernel.hyps_of_cases.Goals as goal

pub hyps_union-requires-clause-left : goal.hyps_union-requires-clause-left
hyps_union-requires-clause-left c = rw c.as_slice.ensures c.in_ok-first.ensures.gives.hyps

pub hyps_union-requires-clause-right : goal.hyps_union-requires-clause-right
hyps_union-requires-clause-right c = rw c.as_slice-2.ensures c.in_ok-second.ensures.gives.hyps

pub returns-clause-gives : goal.returns-clause-gives
returns-clause-gives c =
    let given = rw (c.as_slice.ensures, c.as_slice-2.ensures) at c.in_ok-r.ensures.gives in
    gives_same_as c.args.self.now c.in_ok-r.r given c.in_ok-first.ensures.gives.same c.in_ok-second.ensures.gives.same
