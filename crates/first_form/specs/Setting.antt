-- The problem that a proof is about, with what the proof may speak of.
use Rattle.std.specs.Prelude.{◌≡◌, [], ◌∷◌, ◌++◌}
use Rattle.hol_terms.specs.Constants.{negation}
use Rattle.hol_terms.specs.TermStore.{Keeps, term_tree}
use Rattle.goal_text.specs.declared.problem.Problem.{Problem}
use Rattle.goal_text.specs.Scope.{terms_at}
use Rattle.goal_text.specs.Sentences.{HasSentence, HaveSentences}
use Rattle.first_form.specs.declared.setting.Setting.{Setting}
use Rattle.first_form.specs.Source.{source_at}
use Rattle.first_form.specs.Steps.{IsSource, source_in}

-- the numbers are those of sentences, and the assertions are the facts and the negated goal
pub record IsSetting (setting : Setting) : Type 0 where
  pub source : IsSource setting.base setting.lexicon setting.assertions
  pub facts : HaveSentences setting.base setting.facts
  pub goal : HasSentence setting.base setting.goal
  pub assertions : terms_at setting.base setting.assertions ≡ terms_at setting.base setting.facts ++ negation (term_tree setting.base setting.goal) ∷ []

-- it is that of a problem, whose numbers stand for the same
pub record IsSettingOf (problem : Problem) (setting : Setting) : Type 0 where
  pub source : source_in setting.base setting.lexicon setting.assertions ≡ source_at problem
  pub facts : setting.facts ≡ problem.facts
  pub goal : setting.goal ≡ problem.goal
  pub keeps : Keeps problem.base setting.base
