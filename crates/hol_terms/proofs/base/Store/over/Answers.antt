use Rattle.hol_terms.proofs.TermLemmas.{joined-nothing}
use Rattle.hol_terms.proofs.base.Store.over.Goals as goal

pub invariant_of-result : goal.invariant_of-result
invariant_of-result c = rw (c.new.ensures, joined-nothing c.args.base.now) c.tables-tables.ensures.lawful
