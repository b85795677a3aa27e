use Rattle.lcf_kernel.proofs.KeepLemmas.{own_hyps}
use Rattle.lcf_kernel.proofs.kernel.Kernel.in_own_but.Goals as goal

pub occurs_but-requires-clause-formulas : goal.occurs_but-requires-clause-formulas
occurs_but-requires-clause-formulas c =
    let there = rw (← c.self.view_is) at c.requires.thm in
    let at = rw c.index.ensures at c.index-2.ensures in
    rw c.as_slice-own.ensures (own_hyps _ c.self.invariant.kernel c.args.a c.index-2.result.now there at)
