use Rattle.std.proofs.Common.{◌∷◌, []}
use Rattle.hol_terms.specs.TermStore.{term_tree}
use Rattle.hol_formulas.specs.FoundTypes.{type_variables_in, AreTypeVariables}
use Rattle.lcf_kernel.proofs.KnownLemmas.{leaves_formula, formula_leaves, decided}
use Rattle.lcf_kernel.proofs.known.leaves_found.Goals as goal

pub leaves_each-requires-clause-there : goal.leaves_each-requires-clause-there
leaves_each-requires-clause-there c t h = (c.requires.found.types.only t (rw c.as_slice.ensures at h)).there

pub returns-clause-is : goal.returns-clause-is
returns-clause-is c =
    let s = c.args.store.now.store in
    let names = type_variables_in (term_tree s c.args.t ∷ []) in
    let are : AreTypeVariables s.types c.as_slice.result.now names = rw c.as_slice.ensures c.requires.found.types in (
      λ yes. leaves_formula s c.args.t c.args.s.now (c.in_ok-r.ensures.is yes names are),
      λ same. decided c.in_ok-r.r (λ no. c.in_ok-r.ensures.isnt no names are (formula_leaves s c.args.t c.args.s.now same)),
    )
