use Rattle.std.proofs.Common.{◌≡◌, ◌∷◌, ◌++◌, [], cond, not, ◌∙◌, ap, true, false, arith, tests}
use Rattle.std.proofs.lemmas.List.{take_all}
use Rattle.std.proofs.lemmas.List.Kept.{IsStrictlySortedBy-filter}
use Rattle.lcf_kernel.specs.Hyps.{stands}
use Rattle.lcf_kernel.proofs.IdLemmas.{kept_more}
use Rattle.lcf_kernel.proofs.hyps.outside.Goals.{then-not-holds+in_ok-push, else-not-holds}
use Rattle.lcf_kernel.proofs.hyps.outside.Goals as goal

pub loop-t-preserved : goal.loop-t-preserved
loop-t-preserved c =
    let now : c.if-not-holds.kept.items ≡ cond (not (stands c.t-item.result c.args.context.now)) (c.loop-t.kept.items ++ c.t-item.result ∷ []) c.loop-t.kept.items =
    elim c.if-not-holds.branch [
      | then-not-holds+in_ok-push w ↦ let e : stands c.t-item.result c.args.context.now ≡ false = grind (arith, tests, c.holds.ensures, w.if-not-holds.true) in rw e (ap (λ v. v.items) w.kept-is ∙ w.in_ok-push.ensures.items)
      | else-not-holds w ↦ let e : stands c.t-item.result c.args.context.now ≡ true = grind (arith, tests, c.holds.ensures, w.if-not-holds.false) in rw e (ap (λ v. v.items) w.kept-is)
    ] in
    kept_more (λ u. not (stands u c.args.context.now)) c.args.a.now c.loop-t.kept.items c.if-not-holds.kept.items c.loop-t.t-index c.t-item.result c.loop-t-test.true c.t-item.is c.loop-t.invariant now

pub returns-clause-rises : goal.returns-clause-rises
returns-clause-rises c = λ h. rw (c.new.ensures, c.loop-t.invariant, take_all _ _ c.loop-t-test.false) (IsStrictlySortedBy-filter _ _ _ h)

pub returns-clause-outside : goal.returns-clause-outside
returns-clause-outside c = rw (c.new.ensures, c.loop-t.invariant, take_all _ _ c.loop-t-test.false)
