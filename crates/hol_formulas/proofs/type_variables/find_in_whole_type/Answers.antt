use Rattle.hol_types.specs.TypeStore.{type_tree}
use Rattle.hol_types.specs.TypeSubst.{variables_of}
use Rattle.hol_formulas.proofs.TypesFoundLemmas.{adds_then}
use Rattle.hol_formulas.proofs.type_variables.find_in_whole_type.Goals as goal

pub returns-clause-adds : goal.returns-clause-adds
returns-clause-adds g c =
    let s = (g.S.Terms.store c.args.store.now).types in
    let all = variables_of (type_tree s c.args.t) in
    adds_then s c.args.found.now.items _ _ all all all (λ n i. i) (λ n i. i) c.in_ok-find_beneath.ensures.adds c.in_ok-find_in_type.ensures.adds
