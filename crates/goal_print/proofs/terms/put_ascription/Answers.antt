use Rattle.std.proofs.Common.{false, append_assoc, arith}
use Rattle.goal_print.specs.declared.kind.Kind.TheVariants as kinds
use Rattle.goal_print.specs.declared.piece.Piece.TheVariants as pieces
use Rattle.goal_print.specs.declared.piece.Word.TheVariants as words
use Rattle.goal_print.proofs.PutLemmas.{put_one, then_one, put_as}
use Rattle.goal_print.proofs.terms.put_ascription.Goals as goal

pub returns : goal.returns
returns c = λ s consts name type.
    let close = put_one s consts (pieces.Word words.Close) _ _ tt c.in_ok-push.ensures.items in
    let ty = then_one s consts (pieces.TypeText c.args.ty false) _ _ _ _ _ type close c.in_ok-push-2.ensures.items in
    let blank = then_one s consts (pieces.Word words.Blank) _ _ _ _ _ tt ty c.in_ok-push-3.ensures.items in
    let word = then_one s consts (pieces.Word (words.Name c.args.name)) _ _ _ _ _ name blank c.in_ok-push-4.ensures.items in
    let head = then_one s consts (pieces.Word words.As) _ _ _ _ _ tt word c.in_ok-push-5.ensures.items in
    let all = then_one s consts (pieces.Word (words.Lead c.args.place kinds.Leaf)) _ _ _ _ _ tt head c.in_ok-push-6.ensures.items in
    put_as s consts _ _ _ _ _ _ (simp append_assoc) (omega arith) all
