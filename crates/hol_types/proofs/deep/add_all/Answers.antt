use Rattle.std.proofs.Common.{sym, subst}
use Rattle.hol_types.specs.TypeStore.{joined}
use Rattle.hol_types.specs.Deep.{IsTypePart}
use Rattle.hol_types.proofs.ListLemmas.{all_added, item_of}
use Rattle.hol_types.proofs.deep.add_all.Goals as goal

pub loop-t-preserved : goal.loop-t-preserved
loop-t-preserved c = λ whole all before.
    let P = IsTypePart (joined c.args.base.now c.args.own.now) whole in
    all_added P c.t-item.result _ _ c.in_ok-add_part.ensures (subst P (sym c.t-item.is) (item_of P c.args.ts.now all c.loop-t.t-index c.t-item.result c.loop-t-test.true)) (c.loop-t.invariant whole all before)
