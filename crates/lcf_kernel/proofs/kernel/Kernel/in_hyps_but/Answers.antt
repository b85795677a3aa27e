use Rattle.hol_terms.specs.TermStore.{term_tree}
use Rattle.lcf_kernel.specs.KernelState.{context_of, hyps_of}
use Rattle.hol_formulas.proofs.OccursLemmas.{absent_both_but, absent_left_but, absent_right_but}
use Rattle.lcf_kernel.proofs.kernel.Kernel.in_hyps_but.Goals as goal

pub returns-then-in_own-clause-present : goal.returns-then-in_own-clause-present
returns-then-in_own-clause-present c e none =
    let k = c.args.self.now in
    c.in_ok-in_own.ensures.present c.if-in_own.true (absent_right_but (term_tree k.store c.args.v) (term_tree k.store c.args.but) (context_of k) (hyps_of k c.args.b) none)

pub returns-clause-absent : goal.returns-clause-absent
returns-clause-absent c e =
    let k = c.args.self.now in
    absent_both_but (term_tree k.store c.args.v) (term_tree k.store c.args.but) (context_of k) (hyps_of k c.args.b) (rw c.in_own_but.ensures.same at (c.in_ok-in_context.ensures.absent e)) (c.in_ok-in_own.ensures.absent c.if-in_own.false)

pub returns-clause-present : goal.returns-clause-present
returns-clause-present c e none =
    let k = c.args.self.now in
    (rw c.in_own_but.ensures.same at (c.in_ok-in_context.ensures.present e)) (absent_left_but (term_tree k.store c.args.v) (term_tree k.store c.args.but) (context_of k) (hyps_of k c.args.b) none)
