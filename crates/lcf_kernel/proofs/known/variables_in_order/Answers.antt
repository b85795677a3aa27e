use Rattle.hol_formulas.specs.Formulas.{trees}
use Rattle.hol_formulas.proofs.FoundLemmas.{same_variables}
use Rattle.lcf_kernel.proofs.known.variables_in_order.Goals as goal

pub returns-clause-are : goal.returns-clause-are
returns-clause-are c =
    let s = c.args.store.now.store in
    let same = rw c.as_slice.ensures.value at c.in_ok-c.ensures.same in
    same_variables s c.in_ok-found.found.items c.in_ok-c.c (trees s c.args.ts.now) same.to same.from c.in_ok-found.ensures
