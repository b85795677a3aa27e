use Rattle.std.proofs.Common.{refl}
use Rattle.hol_terms.specs.TermStore.{term_tree}
use Rattle.lcf_kernel.specs.KernelState.{context_of, hyps_of}
use Rattle.hol_formulas.proofs.OccursLemmas.{absent_both, absent_left, absent_right}
use Rattle.lcf_kernel.proofs.kernel.Kernel.is_general.Goals as goal

pub returns-then-in_hyps-clause-isnt : goal.returns-then-in_hyps-clause-isnt
returns-then-in_hyps-clause-isnt c e general =
    let k = c.args.self.now in
    c.in_ok-in_hyps.ensures.present c.if-in_hyps.true (absent_right (term_tree k.store c.args.v) (context_of k) (hyps_of k c.args.a) general.absent)

pub returns-then-in_context-clause-isnt : goal.returns-then-in_context-clause-isnt
returns-then-in_context-clause-isnt c e general =
    let k = c.args.self.now in
    c.if-in_context.ensures.present refl (absent_left (term_tree k.store c.args.v) (context_of k) (hyps_of k c.args.a) general.absent)

pub returns-clause-is : goal.returns-clause-is
returns-clause-is c e =
    let k = c.args.self.now in
    record { variable = c.if-not-is_variable.ensures.0 refl; absent = absent_both (term_tree k.store c.args.v) (context_of k) (hyps_of k c.args.a) (c.if-in_context.ensures.absent refl) (c.in_ok-in_hyps.ensures.absent c.if-in_hyps.false) }
