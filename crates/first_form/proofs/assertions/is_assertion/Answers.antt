use Rattle.std.proofs.Common.{◌∙◌, sym}
use Rattle.first_form.proofs.AssertionLemmas.{member_same, member_in}
use Rattle.first_form.proofs.assertions.is_assertion.Goals as goal

pub returns-clause-tree : goal.returns-clause-tree
returns-clause-tree c = c.contains.ensures ∙ member_same c.args.base.now c.node-node.ensures.apart c.args.claim c.requires.claim c.args.assertions.now c.requires.assertions

pub returns-clause-number : goal.returns-clause-number
returns-clause-number c = λ h. member_in c.args.claim c.args.assertions.now (sym c.contains.ensures ∙ h)
