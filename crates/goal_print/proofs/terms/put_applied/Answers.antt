use Rattle.std.proofs.Common.{Some, None, append_assoc, arith}
use Rattle.goal_print.specs.declared.kind.Kind.TheVariants as kinds
use Rattle.goal_print.specs.declared.piece.Piece.TheVariants as pieces
use Rattle.goal_print.specs.declared.piece.Word.TheVariants as words
use Rattle.goal_print.proofs.PutLemmas.{put_one, then_one, put_as}
use Rattle.goal_print.proofs.terms.put_applied.Goals as goal

pub returns : goal.returns
returns c = λ s consts function argument.
    let x = put_one s consts (pieces.TermText None c.args.depth c.args.x) _ _ argument c.in_ok-push.ensures.items in
    let blank = then_one s consts (pieces.Word words.Blank) _ _ _ _ _ tt x c.in_ok-push-2.ensures.items in
    let all = then_one s consts (pieces.TermText (Some kinds.Application) c.args.depth c.args.f) _ _ _ _ _ function blank c.in_ok-push-3.ensures.items in
    put_as s consts _ _ _ _ _ _ (simp append_assoc) (omega arith) all
