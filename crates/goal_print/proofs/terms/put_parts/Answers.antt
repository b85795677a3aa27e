use Rattle.std.proofs.Common.{refl, arith}
use Rattle.goal_print.proofs.PutLemmas.{put_as}
use Rattle.goal_print.proofs.terms.put_parts.Goals as goal

pub returns-in_ok-put_body-in-Forall : goal.returns-in_ok-put_body-in-Forall
returns-in_ok-put_body-in-Forall c = λ consts.
    rw c.in-Forall.is (put_as c.args.base.now consts _ _ _ _ _ _ refl (omega arith) (rw c.in-Forall.is at (c.in_ok-put_body-in-Forall.ensures consts)))

pub returns-in_ok-put_body-in-Exists : goal.returns-in_ok-put_body-in-Exists
returns-in_ok-put_body-in-Exists c = λ consts.
    rw c.in-Exists.is (put_as c.args.base.now consts _ _ _ _ _ _ refl (omega arith) (rw c.in-Exists.is at (c.in_ok-put_body-in-Exists.ensures consts)))

pub returns-in_ok-put_body-in-Lambda : goal.returns-in_ok-put_body-in-Lambda
returns-in_ok-put_body-in-Lambda c = λ consts.
    rw c.in-Lambda.is (put_as c.args.base.now consts _ _ _ _ _ _ refl (omega arith) (rw c.in-Lambda.is at (c.in_ok-put_body-in-Lambda.ensures consts)))
