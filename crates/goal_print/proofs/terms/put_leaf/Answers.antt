use Rattle.goal_print.specs.declared.kind.Kind.TheVariants as kinds
use Rattle.goal_print.specs.declared.piece.Piece.TheVariants as pieces
use Rattle.goal_print.specs.declared.piece.Word.TheVariants as words
use Rattle.goal_print.proofs.PutLemmas.{put_one, then_one}
use Rattle.goal_print.proofs.terms.put_leaf.Goals as goal

pub returns : goal.returns
returns c = λ s consts h.
    let word = put_one s consts (pieces.Word c.args.word) _ _ h c.in_ok-push.ensures.items in
    then_one s consts (pieces.Word (words.Lead c.args.place kinds.Leaf)) _ _ _ _ _ tt word c.in_ok-push-2.ensures.items
