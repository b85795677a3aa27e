use Rattle.std.proofs.Common.{refl}
use Rattle.lcf_kernel.proofs.KernelRules.{rule_false_e}
use Rattle.lcf_kernel.proofs.kernel.Kernel.false_e.Goals as goal

pub conclude-requires : goal.conclude-requires
conclude-requires c =
    rule_false_e c.args.self.now c.in_ok-hyps.ensures.lawful c.in_ok-hyps.hyps c.args.a c.args.t c.requires.thm c.requires.there (c.if-not-is_formula.ensures.formula refl) c.in_ok-hyps.ensures.gives (c.if-not-concludes_false.ensures.0 refl) _ c.is_bare-bare.ensures

pub returns-clause-hyps : goal.returns-clause-hyps
returns-clause-hyps c = rw c.in_ok-r.ensures.hyps c.in_ok-hyps.ensures.gives.same
