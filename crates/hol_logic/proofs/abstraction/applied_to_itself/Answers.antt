use Rattle.hol_terms.specs.TermStore.{term_tree}
use Rattle.lcf_kernel.proofs.KeepLemmas.{keeps_all_trans}
use Rattle.lcf_kernel.proofs.KeptLemmas.{term_kept, tree_kept}
use Rattle.hol_logic.proofs.EquationLemmas.{itself_typed}
use Rattle.hol_logic.proofs.abstraction.applied_to_itself.Goals as goal

pub application-requires-clause-argument : goal.application-requires-clause-argument
application-requires-clause-argument c = term_kept c.lambda_of.ensures.keeps c.requires.variable

pub application-requires-clause-typed : goal.application-requires-clause-typed
application-requires-clause-typed c =
    let s = c.args.k.now.store in
    rw (c.in_ok-f.ensures.is.is, tree_kept c.lambda_of.ensures.keeps c.requires.variable) (itself_typed (term_tree s c.args.v) (term_tree s c.args.t) c.requires.free c.requires.term)

pub returns-in_err-r-clause-keeps : goal.returns-in_err-r-clause-keeps
returns-in_err-r-clause-keeps c = keeps_all_trans c.lambda_of.ensures.keeps c.application.ensures.keeps

pub returns-clause-keeps : goal.returns-clause-keeps
returns-clause-keeps c = keeps_all_trans c.lambda_of.ensures.keeps c.application.ensures.keeps
