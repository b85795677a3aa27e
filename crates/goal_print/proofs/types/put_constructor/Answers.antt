use Rattle.std.proofs.Common.{append_assoc, arith}
use Rattle.goal_print.specs.TypeText.{type_in}
use Rattle.goal_print.specs.declared.piece.Piece.TheVariants as pieces
use Rattle.goal_print.specs.declared.piece.Word.TheVariants as words
use Rattle.goal_print.proofs.PutLemmas.{put_one, put_then, put_as, some_types}
use Rattle.goal_print.proofs.types.put_constructor.Goals as goal

pub returns : goal.returns
unfolding type_in
returns c = λ s consts name args.
    let some = some_types s.types c.args.args.now c.is_empty-listed.result c.is_empty-listed.ensures in
    let word = put_one s consts (pieces.Word (words.Name c.args.name)) _ _ name c.in_ok-push.ensures.items in
    let all = put_then s consts _ _ _ _ _ _ _ (put_then s consts _ _ _ _ _ _ _ (put_then s consts _ _ _ _ _ _ _ (put_then s consts _ _ _ _ _ _ _ (c.in_ok-put_where.ensures s consts tt) (c.in_ok-put_types.ensures s consts args)) word) (c.in_ok-put_where-2.ensures s consts tt)) (c.in_ok-put_where-3.ensures s consts tt) in
    put_as s consts _ _ _ _ _ _ (rw some (simp append_assoc)) (omega arith) all
