use Rattle.lcf_kernel.proofs.KeepLemmas.{keeps_all_trans}
use Rattle.hol_terms.proofs.FormulaLemmas.{exists_part, has_chosen, same_result}
use Rattle.lcf_kernel.proofs.kernel.Kernel.chosen_one.Goals as goal

pub chosen_of-requires-clause-bool : goal.chosen_of-requires-clause-bool
chosen_of-requires-clause-bool c = same_result (exists_part c.requires.formula).type

pub chosen_of-requires-clause-typed : goal.chosen_of-requires-clause-typed
chosen_of-requires-clause-typed c = (exists_part c.requires.formula).term.typed

pub opened-requires-clause-closed : goal.opened-requires-clause-closed
opened-requires-clause-closed c = rw c.in_ok-witness.ensures.tree (has_chosen (exists_part c.requires.formula)).term.closed

pub opened-requires-clause-fits : goal.opened-requires-clause-fits
opened-requires-clause-fits c =
    rw (c.in_ok-witness.ensures.tree, c.chosen_of.ensures.keeps.records.store.trees c.args.lambda.body c.requires.body) (exists_part c.requires.formula).term.typed.1

pub returns-clause-tree : goal.returns-clause-tree
returns-clause-tree c =
    rw (← c.in_ok-witness.ensures.tree, ← c.chosen_of.ensures.keeps.records.store.trees c.args.lambda.body c.requires.body) c.in_ok-r.ensures.tree

pub returns-clause-keeps : goal.returns-clause-keeps
returns-clause-keeps c = keeps_all_trans c.chosen_of.ensures.keeps c.opened.ensures.keeps

pub returns-in_err-r-clause-keeps : goal.returns-in_err-r-clause-keeps
returns-in_err-r-clause-keeps c = keeps_all_trans c.chosen_of.ensures.keeps c.opened.ensures.keeps
