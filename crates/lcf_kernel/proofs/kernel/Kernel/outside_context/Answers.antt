use Rattle.lcf_kernel.proofs.HypLemmas.{gives_outside, is_outside}
use Rattle.lcf_kernel.proofs.kernel.Kernel.outside_context.Goals as goal

pub returns-clause-gives : goal.returns-clause-gives
returns-clause-gives c =
    gives_outside c.args.self.now c.ordered.ensures.lawful c.ordered.result.now c.ordered.ensures.same c.args.given.now c.as_slice.result.now c.in_ok-c.c
    c.requires (rw c.as_slice.ensures c.in_ok-inside.ensures.same) c.in_ok-c.ensures.rises (rw c.as_slice.ensures c.in_ok-inside.ensures.rises) c.in_ok-c.ensures.outside

pub returns-clause-outside : goal.returns-clause-outside
returns-clause-outside c =
    is_outside c.args.self.now c.ordered.ensures.lawful c.ordered.result.now c.ordered.ensures.same c.args.given.now c.as_slice.result.now c.in_ok-c.c
    c.requires (rw c.as_slice.ensures c.in_ok-inside.ensures.same) c.in_ok-c.ensures.rises (rw c.as_slice.ensures c.in_ok-inside.ensures.rises) c.in_ok-c.ensures.outside c.know_apart.ensures.apart
