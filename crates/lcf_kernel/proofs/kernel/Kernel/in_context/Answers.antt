use Rattle.std.proofs.Common.{◌∙◌, sym, true≢false}
use Rattle.hol_formulas.proofs.FoundLemmas.{absent_outside, present_among}
use Rattle.lcf_kernel.specs.KernelState.{context_of}
use Rattle.lcf_kernel.proofs.IdLemmas.{stands-In, stands-from_In}
use Rattle.lcf_kernel.proofs.kernel.Kernel.in_context.Goals as goal

pub returns-clause-absent : goal.returns-clause-absent
returns-clause-absent c e =
    let k = c.args.self.now in
    let vars = c.variables.result.now in
    absent_outside k.store c.know_apart.ensures.apart vars (context_of k) c.variables.ensures.are c.args.v c.requires (λ h. true≢false (sym (stands-from_In vars c.args.v h) ∙ sym c.holds.ensures ∙ e))

pub returns-clause-present : goal.returns-clause-present
returns-clause-present c e none =
    let k = c.args.self.now in
    let vars = c.variables.result.now in
    present_among k.store c.know_apart.ensures.apart vars (context_of k) c.variables.ensures.are c.args.v c.requires (stands-In vars c.args.v (sym c.holds.ensures ∙ e)) none
