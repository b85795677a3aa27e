use Rattle.std.proofs.Common.{sym}
use Rattle.sexp.proofs.ForestLemmas.{place-at}
use Rattle.sexp.proofs.forest.Forest.start.Goals as goal

pub returns : goal.returns
returns c = rw (c.record.ensures, c.self.view_is) (sym (place-at c.args.self.now c.args.i))
