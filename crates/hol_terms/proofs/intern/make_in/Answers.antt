use Rattle.hol_terms.specs.TermStore.{joined}
use Rattle.hol_terms.proofs.TermLemmas.{Keeps-from_grows, term_tree-injective}
use Rattle.hol_terms.proofs.intern.make_in.Goals as goal

pub returns-clause-keeps : goal.returns-clause-keeps
returns-clause-keeps c = Keeps-from_grows (joined c.args.base.now c.args.own.now) (joined c.args.base.now c.make_step.new.own) c.requires.lawful.shape c.make_step.ensures.grows

pub returns-clause-apart : goal.returns-clause-apart
returns-clause-apart c = term_tree-injective _ c.make_step.ensures.lawful.shape
