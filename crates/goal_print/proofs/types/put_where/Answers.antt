use Rattle.goal_print.specs.declared.piece.Piece.TheVariants as pieces
use Rattle.goal_print.proofs.PutLemmas.{put_one}
use Rattle.goal_print.proofs.types.put_where.Goals as goal

pub returns : goal.returns
returns c = λ s consts h. rw c.if-not-holds.false (put_one s consts (pieces.Word c.args.word) _ _ h c.in_ok-push.ensures.items)
