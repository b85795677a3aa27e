use Rattle.lcf_kernel.proofs.KeepLemmas.{inside_keeps}
use Rattle.lcf_kernel.proofs.kernel.KernelTerms.name.Goals as goal

pub invariant_of-self : goal.invariant_of-self
invariant_of-self c = inside_keeps _ _ _ c.name-made.ensures.keeps _ _ _ c.self.invariant
