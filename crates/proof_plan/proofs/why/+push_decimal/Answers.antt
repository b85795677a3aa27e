use Rattle.std.proofs.Common.{◌≤◌, ◌<◌, ◌+◌, ◌/◌, ◌%◌, ◌^◌, [], ◌∷◌, append_assoc, arith}
use Rattle.std.specs.Fmt.{decimal}
use Rattle.std.proofs.lemmas.Fmt.{decimal_step}
use Rattle.proof_plan.proofs.why.+push_decimal.Goals as goal

pub returns-clause-ok : goal.returns-clause-ok
returns-clause-ok t c =
    let n = c.args.n in
    let large : 10 ≤ n = omega arith in
    let small : n < 2 ^ 64 = omega arith in
    let step = decimal_step n large small in
    let joined = append_assoc c.args.out.now.items (decimal (n / 10)) ((48 + n % 10) ∷ []) in
    let before = c.in_ok-push_decimal.ensures.ok in
    let after = c.in_ok-push-2.ensures.items in
    cc
