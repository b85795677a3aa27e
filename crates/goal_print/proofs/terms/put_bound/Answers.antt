use Rattle.std.proofs.Common.{◌+◌, Some, false, append_assoc, arith}
use Rattle.goal_print.specs.declared.piece.Piece.TheVariants as pieces
use Rattle.goal_print.specs.declared.piece.Word.TheVariants as words
use Rattle.goal_print.proofs.PutLemmas.{put_one, then_one, put_as}
use Rattle.goal_print.proofs.terms.put_bound.Goals as goal

pub returns : goal.returns
returns c = λ s consts type body.
    let term = put_one s consts (pieces.TermText (Some c.args.kind) (c.args.depth + 1) c.args.body) _ _ body c.in_ok-push.ensures.items in
    let close = then_one s consts (pieces.Word words.Close) _ _ _ _ _ tt term c.in_ok-push-2.ensures.items in
    let ty = then_one s consts (pieces.TypeText c.args.ty false) _ _ _ _ _ type close c.in_ok-push-3.ensures.items in
    let blank = then_one s consts (pieces.Word words.Blank) _ _ _ _ _ tt ty c.in_ok-push-4.ensures.items in
    let variable = then_one s consts (pieces.Word (words.Variable c.args.depth)) _ _ _ _ _ tt blank c.in_ok-push-5.ensures.items in
    let all = then_one s consts (pieces.Word words.Open) _ _ _ _ _ tt variable c.in_ok-push-6.ensures.items in
    put_as s consts _ _ _ _ _ _ (simp append_assoc) (omega arith) all
