use Rattle.std.proofs.Common.{◌≡◌, ◌∙◌, sym, true, false, true≢false, arith, tests}
use Rattle.lcf_kernel.proofs.KeepLemmas.{keeps_all_same, keeps_all_trans}
use Rattle.lcf_kernel.proofs.KeptLemmas.{term_kept, tree_kept}
use Rattle.hol_logic.proofs.QuantifierLemmas.{is_fresh}
use Rattle.hol_logic.proofs.fresh.fresh.Goals as goal

pub loop-init : goal.loop-init
loop-init c = keeps_all_same _

pub returns-in_err-push-clause-keeps : goal.returns-in_err-push-clause-keeps
returns-in_err-push-clause-keeps c = c.loop.invariant

pub variable-requires : goal.variable-requires
variable-requires c = c.loop.invariant.records.store.types c.args.ty c.requires.ty

pub returns-in_err-v-clause-keeps : goal.returns-in_err-v-clause-keeps
returns-in_err-v-clause-keeps c = keeps_all_trans c.loop.invariant c.variable.ensures.keeps

pub free_in-requires-clause-term : goal.free_in-requires-clause-term
free_in-requires-clause-term c = term_kept (keeps_all_trans c.loop.invariant c.variable.ensures.keeps) c.requires.there

pub returns-in_err-free-clause-keeps : goal.returns-in_err-free-clause-keeps
returns-in_err-free-clause-keeps c = keeps_all_trans c.loop.invariant c.variable.ensures.keeps

pub returns-then-not-free-clause-is : goal.returns-then-not-free-clause-is
returns-then-not-free-clause-is c =
    let g = keeps_all_trans c.loop.invariant c.variable.ensures.keeps in
    let no : c.in_ok-free.free ≡ false = grind (arith, tests, c.if-not-free.true) in
    let found = rw (tree_kept g c.requires.there) at c.in_ok-free.ensures in
    let is = rw (c.loop.invariant.records.store.type_trees c.args.ty c.requires.ty) at c.in_ok-v.ensures.is.is in
    is_fresh is (λ h. true≢false (sym (found.1 h) ∙ no))

pub returns-then-not-free-clause-keeps : goal.returns-then-not-free-clause-keeps
returns-then-not-free-clause-keeps c = keeps_all_trans c.loop.invariant c.variable.ensures.keeps

pub loop-preserved : goal.loop-preserved
loop-preserved c = keeps_all_trans c.loop.invariant c.variable.ensures.keeps

pub returns-clause-keeps : goal.returns-clause-keeps
returns-clause-keeps c = c.loop.invariant
