use Rattle.hol_types.specs.TypeStore.{type_tree}
use Rattle.hol_types.specs.TypeSubst.{variables_of}
use Rattle.hol_formulas.proofs.TypesFoundLemmas.{terms_kept}
use Rattle.hol_formulas.proofs.type_variables.find_beside.Goals as goal

pub returns-clause-terms : goal.returns-clause-terms
returns-clause-terms g c =
    let s = g.S.Terms.store c.args.store.now in
    terms_kept s c.args.found.now.items c.find_in_whole_type.new.found.items (variables_of (type_tree s.types c.args.t)) c.args.terms.now c.in_ok-find_in_whole_type.ensures.adds c.requires.terms
