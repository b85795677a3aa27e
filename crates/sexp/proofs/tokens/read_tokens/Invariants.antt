use Rattle.std.proofs.Common.{flat_map, take}
use Rattle.sexp.proofs.TokensLemmas.{IsFed}
use Rattle.sexp.proofs.tokens.read_tokens.Given as goal

abbrev pub invariant-loop-piece : goal.invariant-loop-piece
invariant-loop-piece l = IsFed l.reader l.out.items l.most (flat_map (λ piece. piece.items) (take l.piece-index l.pieces))
