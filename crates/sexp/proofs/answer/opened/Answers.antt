use Rattle.std.proofs.Common.{◌≡◌, ◌∙◌, arith, nat_lt, true, false}
use Rattle.sexp.specs.Depth.{depth_of}
use Rattle.std.proofs.lemmas.Bool.Decides.{nat_tests}
use Rattle.sexp.proofs.ReadingLemmas.{opens, opens_at_limit}
use Rattle.sexp.proofs.answer.opened.Goals as goal

pub returns-then-depth-lt2000-clause-next : goal.returns-then-depth-lt2000-clause-next
returns-then-depth-lt2000-clause-next c = λ whole_then tail follow.
    let below : nat_lt (depth_of c.args.nest.now) 2000 ≡ true = grind (arith, nat_tests, c.depth.ensures, c.if-depth-lt2000.true) in
    rw c.requires.none
    (opens c.args.lexer.now c.take.new.self c.args.word c.args.nest.now whole_then tail c.requires.found c.take.ensures c.requires.open below)

pub returns-clause-next : goal.returns-clause-next
returns-clause-next c = λ whole_then tail follow.
    let above : nat_lt (depth_of c.args.nest.now) 2000 ≡ false = grind (arith, nat_tests, c.depth.ensures, c.if-depth-lt2000.false) in
    rw c.requires.none
    (opens_at_limit c.args.lexer.now c.take.new.self c.args.word c.args.nest.now whole_then tail c.requires.found c.take.ensures c.requires.open above
    ∙ c.held.ensures.next whole_then tail (rw c.take.ensures follow))
