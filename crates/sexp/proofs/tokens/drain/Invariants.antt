use Rattle.std.proofs.Common.{[]}
use Rattle.sexp.specs.Reading.{answers, is_whole}
use Rattle.sexp.specs.Tokens.{tokens_left}
use Rattle.sexp.proofs.TokensLemmas.{IsTaken}
use Rattle.sexp.proofs.tokens.drain.Given as goal

abbrev pub invariant-tokens : goal.invariant-tokens
invariant-tokens l = IsTaken l.initial.reader l.reader l.initial.out.items l.out.items

abbrev pub decreases-tokens : goal.decreases-tokens
decreases-tokens l = tokens_left (answers l.reader (is_whole l.reader) [])
