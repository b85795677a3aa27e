use Rattle.lcf_kernel.proofs.KeepLemmas.{inside_with}
use Rattle.lcf_kernel.proofs.kernel.Kernel.add.Goals as goal

pub invariant_of-self-2 : goal.invariant_of-self-2
invariant_of-self-2 c =
    let thm = rw (← c.self.view_is) at c.requires in
    rw c.in_ok-push.ensures.items (inside_with _ _ _ _ _ c.self.invariant thm)
