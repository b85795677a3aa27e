use Rattle.std.proofs.lemmas.List.Kept.{IsStrictlySortedBy-filter}
use Rattle.lcf_kernel.proofs.hyps.without.Goals as goal

pub returns-clause-rises : goal.returns-clause-rises
returns-clause-rises c = λ h. rw (c.new.ensures, c.in_ok-kept.ensures) (IsStrictlySortedBy-filter _ _ _ h)
