use Rattle.std.proofs.Math.Dec.{eqb}
use Rattle.std.proofs.lemmas.List.Filters.{dedup_is}
use Rattle.lcf_kernel.proofs.IdLemmas.{Rises-in_order, SameIds-in_order}
use Rattle.lcf_kernel.proofs.hyps.in_order.Goals as goal

pub returns-clause-rises : goal.returns-clause-rises
returns-clause-rises c = rw (c.new.ensures, dedup_is eqb _ _ c.dedup.ensures.filtered) (Rises-in_order _ c.sort_unstable.ensures.sorted)

pub returns-clause-same : goal.returns-clause-same
returns-clause-same c = rw (c.new.ensures, dedup_is eqb _ _ c.dedup.ensures.filtered, ← c.in_ok-all.ensures.items) (SameIds-in_order _ _ c.sort_unstable.ensures.permutation)
