use Rattle.std.proofs.Common.{refl}
use Rattle.lcf_kernel.proofs.KeepLemmas.{own_hyps, inside_keeps, knows_more, keeps_all_terms}
use Rattle.lcf_kernel.proofs.kernel.Kernel.keeps_own.Goals as goal

pub changes_none-requires-clause-formulas : goal.changes_none-requires-clause-formulas
changes_none-requires-clause-formulas c =
    let there = rw (← c.self.view_is) at c.requires.thm in
    let at = rw c.index.ensures at c.index-2.ensures in
    rw c.as_slice-own.ensures (own_hyps _ c.self.invariant.kernel c.args.a c.index-2.result.now there at)

pub invariant_of-self : goal.invariant_of-self
invariant_of-self c = knows_more (inside_keeps _ _ _ c.changes_none.ensures.keeps _ _ _ c.self.invariant) c.changes_none.ensures.known

pub invariant_of-self-2 : goal.invariant_of-self-2
invariant_of-self-2 c = knows_more (inside_keeps _ _ _ c.changes_none.ensures.keeps _ _ _ c.self.invariant) c.changes_none.ensures.known

pub returns-in_err-r-clause-keeps : goal.returns-in_err-r-clause-keeps
returns-in_err-r-clause-keeps c = rw (← c.self.view_is) (keeps_all_terms _ _ c.self.invariant.kernel c.changes_none.ensures.keeps c.changes_none.ensures.base refl refl refl refl refl refl)

pub returns-clause-keeps : goal.returns-clause-keeps
returns-clause-keeps c = rw (← c.self.view_is) (keeps_all_terms _ _ c.self.invariant.kernel c.changes_none.ensures.keeps c.changes_none.ensures.base refl refl refl refl refl refl)
