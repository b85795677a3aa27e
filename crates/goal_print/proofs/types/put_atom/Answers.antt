use Rattle.goal_print.specs.declared.piece.Piece.TheVariants as pieces
use Rattle.goal_print.proofs.PutLemmas.{put_one, put_then}
use Rattle.goal_print.proofs.types.put_atom.Goals as goal

pub returns : goal.returns
returns c = λ s consts h. put_then s consts _ _ _ _ _ _ _ (put_one s consts (pieces.Word c.args.word) _ _ h c.in_ok-push.ensures.items) (c.in_ok-put_where.ensures s consts tt)
