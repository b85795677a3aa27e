use Rattle.lcf_kernel.proofs.KeepLemmas.{inside_new}
use Rattle.lcf_kernel.proofs.kernel.Kernel.new.Goals as goal

pub invariant_of-result : goal.invariant_of-result
invariant_of-result c =
    let keeps = rw c.over-store.ensures.store at c.in_ok-constants.ensures.keeps in
    let types = rw c.over-store.ensures.store at c.in_ok-type_variables.ensures in
    let variables = rw c.over-store.ensures.store at c.in_ok-variables.ensures.are in
    rw (c.in_ok-facts.ensures, c.in_ok-context.ensures, c.new-thms.ensures.items)
    (inside_new c.args.base.now _ keeps _ c.args.facts.now c.args.context.now c.in_ok-ordered.ordered c.in_ok-variables.variables c.in_ok-type_variables.type_variables _ _ c.new-known.ensures.empty c.requires.facts c.requires.context c.in_ok-constants.ensures.are c.in_ok-ordered.ensures.rises c.in_ok-ordered.ensures.same c.in_ok-variables.ensures.rises variables types)
