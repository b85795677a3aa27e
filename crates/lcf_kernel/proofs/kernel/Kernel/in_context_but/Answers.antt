use Rattle.std.proofs.Common.{refl}
use Rattle.hol_terms.specs.TermStore.{term_tree}
use Rattle.hol_formulas.proofs.OccursLemmas.{absent_but_one}
use Rattle.lcf_kernel.specs.KernelState.{context_of}
use Rattle.lcf_kernel.proofs.kernel.Kernel.in_context_but.Goals as goal

pub returns-then-not-in_context-clause-absent : goal.returns-then-not-in_context-clause-absent
returns-then-not-in_context-clause-absent c e =
    let k = c.args.self.now in
    absent_but_one (term_tree k.store c.args.v) (term_tree k.store c.args.but) (context_of k) (c.if-not-in_context.ensures.absent refl)
