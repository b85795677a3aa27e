use Rattle.std.proofs.Common.{true, false, append_assoc, arith}
use Rattle.goal_print.specs.TypeText.{type_in}
use Rattle.goal_print.specs.declared.piece.Piece.TheVariants as pieces
use Rattle.goal_print.specs.declared.piece.Word.TheVariants as words
use Rattle.goal_print.proofs.PutLemmas.{put_one, put_then, put_as}
use Rattle.goal_print.proofs.types.put_function.Goals as goal

pub returns : goal.returns
unfolding type_in
returns c = λ s consts from to.
    let result = put_one s consts (pieces.TypeText c.args.to true) _ _ to c.in_ok-push.ensures.items in
    let first = put_one s consts (pieces.TypeText c.args.from false) _ _ from c.in_ok-push-2.ensures.items in
    let blank = put_one s consts (pieces.Word words.Blank) _ _ tt c.in_ok-push-3.ensures.items in
    let all = put_then s consts _ _ _ _ _ _ _ (put_then s consts _ _ _ _ _ _ _ (put_then s consts _ _ _ _ _ _ _ (put_then s consts _ _ _ _ _ _ _ (c.in_ok-put_where.ensures s consts tt) result) first) blank) (c.in_ok-put_where-2.ensures s consts tt) in
    put_as s consts _ _ _ _ _ _ (simp append_assoc) (omega arith) all
