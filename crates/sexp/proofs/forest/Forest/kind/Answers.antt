use Rattle.sexp.proofs.ForestLemmas.{tells}
use Rattle.sexp.proofs.forest.Forest.kind.Goals as goal

pub returns-clause-tree : goal.returns-clause-tree
returns-clause-tree c = rw (c.record.ensures, c.self.view_is) (tells c.args.self.now c.args.i)
