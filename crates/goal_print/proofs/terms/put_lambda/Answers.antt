use Rattle.std.proofs.Common.{append_assoc, arith}
use Rattle.goal_print.specs.declared.kind.Kind.TheVariants as kinds
use Rattle.goal_print.specs.declared.piece.Piece.TheVariants as pieces
use Rattle.goal_print.specs.declared.piece.Word.TheVariants as words
use Rattle.goal_print.specs.TermText.{text_in}
use Rattle.goal_print.proofs.PutLemmas.{put_one, put_then, then_one, put_as}
use Rattle.goal_print.proofs.terms.put_lambda.Goals as goal

pub returns : goal.returns
unfolding text_in
returns c = λ s consts type body.
    let close = put_one s consts (pieces.Word (words.CloseList c.args.place kinds.Lambda)) _ _ tt c.in_ok-push.ensures.items in
    let bound = put_then s consts _ _ _ _ _ _ _ close (c.in_ok-put_bound.ensures s consts type body) in
    let open_list = then_one s consts (pieces.Word (words.OpenList c.args.place kinds.Lambda)) _ _ _ _ _ tt bound c.in_ok-push-2.ensures.items in
    let all = then_one s consts (pieces.Word (words.Lead c.args.place kinds.Lambda)) _ _ _ _ _ tt open_list c.in_ok-push-3.ensures.items in
    put_as s consts _ _ _ _ _ _ (simp append_assoc) (omega arith) all
