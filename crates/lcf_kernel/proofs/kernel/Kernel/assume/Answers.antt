use Rattle.std.proofs.Common.{refl}
use Rattle.lcf_kernel.proofs.KernelRules.{rule_assume}
use Rattle.lcf_kernel.proofs.kernel.Kernel.assume.Goals as goal

pub conclude-requires : goal.conclude-requires
conclude-requires c =
    rule_assume c.args.self.now c.in_ok-hyps.ensures.lawful c.in_ok-hyps.hyps c.args.t c.requires.there (c.if-not-is_formula.ensures.formula refl) c.in_ok-hyps.ensures.gives c.in_ok-hyps.ensures.outside

pub returns-clause-hyps : goal.returns-clause-hyps
returns-clause-hyps c = rw c.in_ok-r.ensures.hyps c.in_ok-hyps.ensures.outside
