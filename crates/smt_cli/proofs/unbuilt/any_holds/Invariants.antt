use Rattle.std.proofs.Common.{◌≡◌, drop}
use Rattle.std.specs.Prelude.{false}
use Rattle.std.specs.List.{list_any}
use Rattle.goal_text.specs.Scope.{terms_at}
use Rattle.smt_cli.specs.LambdaWalk.{AllWithout}
use Rattle.smt_cli.specs.Unbuilt.{holds_lambda}
use Rattle.smt_cli.proofs.unbuilt.any_holds.Given as goal

-- what is known is right, and the terms still to come decide
abbrev pub invariant-loop-t : goal.invariant-loop-t
invariant-loop-t l = record {
  seen : AllWithout l.base l.seen;
  rest : list_any (holds_lambda false) (terms_at l.base (drop l.t-index l.ts)) ≡ list_any (holds_lambda false) (terms_at l.base l.ts);
}
