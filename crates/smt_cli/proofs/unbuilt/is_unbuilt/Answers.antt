use Rattle.std.proofs.Common.{◌≡◌, ◌∙◌, false, sym}
use Rattle.std.specs.List.{list_any}
use Rattle.hol_formulas.specs.FoundTypes.{AreTypeVariables, type_variables_in}
use Rattle.goal_text.specs.Scope.{terms_at}
use Rattle.smt_cli.specs.Unbuilt.{holds_lambda}
use Rattle.smt_cli.proofs.LambdaLemmas.{empty_when, none_found, sentences_formulas, sentences_terms, some_found, some_when, unbuilt_by_goal, unbuilt_by_types}
use Rattle.smt_cli.proofs.unbuilt.is_unbuilt.Goals as goal

pub type_variables_of-requires : goal.type_variables_of-requires
type_variables_of-requires c = rw c.as_slice-facts.ensures (sentences_formulas c.args.problem.now.base c.args.problem.now.facts c.requires.facts)

pub returns-then-not-is_empty : goal.returns-then-not-is_empty
returns-then-not-is_empty c =
    let problem = c.args.problem.now in
    let found = c.in_ok-schematic.schematic in
    let are : AreTypeVariables problem.base.types found.items (type_variables_in (terms_at problem.base problem.facts)) = rw c.as_slice-facts.ensures at c.in_ok-schematic.ensures in
    unbuilt_by_types problem.base problem.facts problem.goal (some_found problem.base found.items _ are (some_when found.items _ found.ok.0 c.if-not-is_empty.ensures))

pub any_holds-requires-clause-there : goal.any_holds-requires-clause-there
any_holds-requires-clause-there c = rw c.as_slice-facts.ensures (sentences_terms c.args.problem.now.base c.args.problem.now.facts c.requires.facts)

pub returns : goal.returns
returns c =
    let problem = c.args.problem.now in
    let found = c.in_ok-schematic.schematic in
    let are : AreTypeVariables problem.base.types found.items (type_variables_in (terms_at problem.base problem.facts)) = rw c.as_slice-facts.ensures at c.in_ok-schematic.ensures in
    let none = none_found problem.base found.items _ are (empty_when found.items _ found.ok.0 c.if-not-is_empty.ensures) in
    let facts : list_any (holds_lambda false) (terms_at problem.base problem.facts) ≡ false = rw c.as_slice-facts.ensures at (sym c.in_ok-any_holds.ensures.holds ∙ c.if-branch.false) in
    unbuilt_by_goal problem.base problem.facts problem.goal none facts c.in_ok-holds.holds c.in_ok-holds.ensures.holds
