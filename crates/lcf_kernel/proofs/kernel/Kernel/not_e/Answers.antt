use Rattle.std.proofs.Common.{◌≡◌, ◌∙◌, ap, arith, tests}
use Rattle.hol_terms.specs.TermStore.{term_tree}
use Rattle.lcf_kernel.specs.KernelState.{concl_of}
use Rattle.lcf_kernel.proofs.KernelRules.{rule_not_e}
use Rattle.lcf_kernel.proofs.kernel.Kernel.not_e.Goals as goal

pub conclude-requires : goal.conclude-requires
conclude-requires c =
    let k = c.args.self.now in
    let same_id : c.in-Some.part ≡ c.concl-other.result = grind (arith, tests, c.ne.ensures, c.if-ne.false) in
    let same : term_tree k.store c.in-Some.part ≡ concl_of k c.args.b = ap (λ t. term_tree k.store t) same_id ∙ c.concl-other.ensures.tree in
    rule_not_e k c.in_ok-hyps.ensures.lawful c.in_ok-hyps.hyps c.args.a c.args.b c.in-Some.part c.constants-concl.result c.requires.left c.requires.right c.in_ok-hyps.ensures.gives c.constants-concl.ensures.are c.in-Some.ensures.some same _ c.both_bare-bare.ensures

pub returns-clause-hyps : goal.returns-clause-hyps
returns-clause-hyps c = rw c.in_ok-r.ensures.hyps c.in_ok-hyps.ensures.gives.same
