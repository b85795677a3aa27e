use Rattle.lcf_kernel.proofs.KeepLemmas.{keeps_all_trans}
use Rattle.hol_logic.proofs.QuantifierLemmas.{type_kept, contrary_has}
use Rattle.hol_logic.proofs.quantifier.contrary.Goals as goal

pub negated-requires-clause-there : goal.negated-requires-clause-there
negated-requires-clause-there c = c.requires.body

pub negated-requires-clause-bool : goal.negated-requires-clause-bool
negated-requires-clause-bool c = c.requires.bool

pub lambda-requires-clause-ty : goal.lambda-requires-clause-ty
lambda-requires-clause-ty c = c.negated.ensures.keeps.records.store.types c.args.ty c.requires.ty

pub lambda-requires-clause-body : goal.lambda-requires-clause-body
lambda-requires-clause-body c = c.in_ok-opposite.ensures.is.there

pub lambda-requires-clause-typed : goal.lambda-requires-clause-typed
lambda-requires-clause-typed c = rw (type_kept c.negated.ensures.keeps c.requires, c.in_ok-opposite.ensures.is.is) (contrary_has c.requires).term.typed

pub returns-clause-is : goal.returns-clause-is
returns-clause-is c = rw (type_kept c.negated.ensures.keeps c.requires, c.in_ok-opposite.ensures.is.is) at c.in_ok-t.ensures.is

pub returns-in_err-opposite-clause-keeps : goal.returns-in_err-opposite-clause-keeps
returns-in_err-opposite-clause-keeps c = c.negated.ensures.keeps

pub returns-in_err-t-clause-keeps : goal.returns-in_err-t-clause-keeps
returns-in_err-t-clause-keeps c = keeps_all_trans c.negated.ensures.keeps c.lambda.ensures.keeps

pub returns-clause-keeps : goal.returns-clause-keeps
returns-clause-keeps c = keeps_all_trans c.negated.ensures.keeps c.lambda.ensures.keeps
