use Rattle.std.proofs.Common.{append_assoc, arith}
use Rattle.goal_print.specs.declared.piece.Piece.TheVariants as pieces
use Rattle.goal_print.specs.declared.piece.Word.TheVariants as words
use Rattle.goal_print.specs.TermText.{text_in}
use Rattle.goal_print.proofs.PutLemmas.{put_one, put_then, then_one, put_as}
use Rattle.goal_print.proofs.terms.put_application.Goals as goal

pub returns : goal.returns
unfolding text_in
returns c = λ consts.
    let s = c.args.base.now in
    let place = c.args.place in
    let kind = c.kind_of-kind.result in
    let close = put_one s consts (pieces.Word (words.CloseList place kind)) _ _ tt c.in_ok-push.ensures.items in
    let parts = put_then s consts _ _ _ _ _ _ _ close (c.in_ok-put_parts.ensures consts) in
    let open_list = then_one s consts (pieces.Word (words.OpenList place kind)) _ _ _ _ _ tt parts c.in_ok-push-2.ensures.items in
    let all = then_one s consts (pieces.Word (words.Lead place kind)) _ _ _ _ _ tt open_list c.in_ok-push-3.ensures.items in
    put_as s consts _ _ _ _ _ _ (rw (← c.kind_of-kind.ensures) (simp append_assoc)) (omega arith) all
