use Rattle.lcf_kernel.proofs.KeepLemmas.{inside_keeps}
use Rattle.lcf_kernel.proofs.kernel.KernelTerms.declare.Goals as goal

pub invariant_of-self : goal.invariant_of-self
invariant_of-self c = inside_keeps _ _ _ c.declare-made.ensures.keeps _ _ _ c.self.invariant
