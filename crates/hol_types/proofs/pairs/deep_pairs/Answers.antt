use Rattle.hol_types.proofs.ListLemmas.{all_permuted}
use Rattle.hol_types.proofs.pairs.deep_pairs.Goals as goal

pub returns : goal.returns
returns c = all_permuted _ _ _ c.sort_unstable.ensures.permutation c.in_ok-pairs.ensures
