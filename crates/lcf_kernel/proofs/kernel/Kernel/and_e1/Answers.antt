use Rattle.std.proofs.Common.{refl}
use Rattle.hol_terms.proofs.DerivableLemmas.{and_e1_in}
use Rattle.hol_terms.specs.TermStore.{term_tree}
use Rattle.lcf_kernel.specs.KernelState.{context_of}
use Rattle.lcf_kernel.proofs.FollowLemmas.{from_one, under_all, premise, recorded}
use Rattle.lcf_kernel.proofs.kernel.Kernel.and_e1.Goals as goal

pub conclude-requires : goal.conclude-requires
conclude-requires c =
    let k = c.args.self.now in
    let gives = c.in_ok-hyps.ensures.gives in
    recorded k c.in_ok-hyps.ensures.lawful c.in_ok-hyps.hyps _ c.in-Some.sides.left _ _ _ gives c.in-Some.ensures.left refl c.is_bare-bare.ensures
    (from_one (λ E d. and_e1_in gives.formulas (under_all (context_of k) gives.same) d) (premise k c.in_ok-hyps.ensures.lawful c.args.a c.requires _ c.in-Some.ensures.some))

pub returns-clause-concl : goal.returns-clause-concl
returns-clause-concl c = (term_tree c.args.self.now.store c.in-Some.sides.right, rw c.in_ok-r.ensures.concl c.in-Some.ensures.some)

pub returns-clause-hyps : goal.returns-clause-hyps
returns-clause-hyps c = rw c.in_ok-r.ensures.hyps c.in_ok-hyps.ensures.gives.same
