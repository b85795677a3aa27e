use Rattle.std.proofs.Common.{◌∙◌, ap}
use Rattle.hol_terms.specs.TermEq.{term_eq}
use Rattle.hol_terms.specs.TermStore.{term_tree}
use Rattle.first_form.proofs.AssertionLemmas.{tree_same}
use Rattle.first_form.proofs.proof_file.is_false.Goals as goal

pub returns : goal.returns
returns c =
    let s = c.args.base.now in
    let falsity = c.requires.lexicon.falsity in
    c.eq.ensures ∙ tree_same s c.node-node.ensures.apart c.args.claim c.args.lexicon.now.falsity c.requires.claim falsity.there ∙ ap (term_eq (term_tree s c.args.claim)) falsity.tree
