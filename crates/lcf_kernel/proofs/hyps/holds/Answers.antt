use Rattle.std.proofs.Common.{◌∙◌}
use Rattle.lcf_kernel.proofs.IdLemmas.{stands-searched}
use Rattle.lcf_kernel.proofs.hyps.holds.Goals as goal

pub returns : goal.returns
returns c = c.is_ok.ensures.value ∙ stands-searched _ _ _ c.binary_search.ensures.position c.requires
