use Rattle.std.proofs.Common.{ℕ, List, [], ◌∙◌, ap, subst, sym}
use Rattle.std.proofs.lemmas.Result.{err_from_is_err_and}
use Rattle.goal_text.specs.declared.problem.Declared.{Declared}
use Rattle.goal_text.specs.ItemsIn.{declared_in}
use Rattle.goal_text.specs.Sentences.{HaveSentences}
use Rattle.first_form.specs.Source.{with_propositions}
use Rattle.first_form.proofs.LexiconLemmas.{formula_kept, formulas_kept}
use Rattle.first_form.proofs.SettingLemmas.{larger_is, larger_of}
use Rattle.first_form.proofs.setting.setting_of.Goals as goal

pub assertions_of-requires-clause-facts : goal.assertions_of-requires-clause-facts
assertions_of-requires-clause-facts c =
    let u = c.lexicon_of.new.base in
    let P : List ℕ → Type 0 = HaveSentences u in
    subst P (sym c.as_slice-2.ensures) (formulas_kept c.args.problem.base u c.in_ok-lexicon.ensures.keeps c.args.problem.facts c.requires.facts)

pub assertions_of-requires-clause-goal : goal.assertions_of-requires-clause-goal
assertions_of-requires-clause-goal c = formula_kept c.in_ok-lexicon.ensures.keeps c.requires.goal

pub returns-in_err-lexicon-clause-memory : goal.returns-in_err-lexicon-clause-memory
returns-in_err-lexicon-clause-memory c =
    let p = err_from_is_err_and c.from_residual.result c.from_residual.ensures.1 in
    rw (p.1, p.2) c.in_err-lexicon.ensures.memory

pub returns-in_err-assertions-clause-memory : goal.returns-in_err-assertions-clause-memory
returns-in_err-assertions-clause-memory c =
    let p = err_from_is_err_and c.from_residual-in_err-assertions.result c.from_residual-in_err-assertions.ensures.1 in
    rw (p.1, p.2) c.in_err-assertions.ensures.memory

pub returns-clause-setting : goal.returns-clause-setting
returns-clause-setting c =
    let made = c.in_ok-assertions.ensures in
    let found = c.in_ok-lexicon.ensures in
    larger_is c.args.problem c.lexicon_of.new.base c.assertions_of.new.base c.in_ok-lexicon.lexicon c.in_ok-assertions.assertions found.keeps made.keeps c.requires found.lexicon c.as_slice-2.result.now c.as_slice-2.ensures made.formulas made.terms

pub returns-clause-problem : goal.returns-clause-problem
returns-clause-problem c =
    let made = c.in_ok-assertions.ensures in
    let found = c.in_ok-lexicon.ensures in
    let s = c.args.problem.base in
    let names = found.names ∙ ap (λ (ds : List Declared). with_propositions [] (declared_in s ds)) c.as_slice.ensures in
    larger_of c.args.problem c.lexicon_of.new.base c.assertions_of.new.base c.in_ok-lexicon.lexicon c.in_ok-assertions.assertions found.keeps made.keeps c.requires found.lexicon c.as_slice-2.result.now c.as_slice-2.ensures names made.terms
