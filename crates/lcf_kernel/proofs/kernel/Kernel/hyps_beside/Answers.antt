use Rattle.lcf_kernel.proofs.HypLemmas.{gives_same_as}
use Rattle.hol_terms.proofs.SetLemmas.{same_refl}
use Rattle.lcf_kernel.proofs.kernel.Kernel.hyps_beside.Goals as goal

pub hyps_union-requires-clause-right : goal.hyps_union-requires-clause-right
hyps_union-requires-clause-right c = rw c.as_slice.ensures c.in_ok-rest.ensures.gives.hyps

pub returns-clause-gives : goal.returns-clause-gives
returns-clause-gives c =
    let given = rw (c.as_slice.ensures, c.hyps.ensures.trees) at c.in_ok-c.ensures.gives in
    gives_same_as c.args.self.now c.in_ok-c.c given (same_refl _) c.in_ok-rest.ensures.gives.same
