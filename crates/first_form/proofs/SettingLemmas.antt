-- What a setting stands for, as the store grows.
use Rattle.std.proofs.Common.{◌≡◌, ℕ, List, [], ◌∷◌, ◌++◌, refl, sym, ap, ◌∙◌}
use Rattle.hol_terms.specs.Constants.{negation}
use Rattle.hol_terms.specs.TermStore.{TermStore, Keeps, term_tree}
use Rattle.goal_text.specs.declared.problem.Problem.{Problem}
use Rattle.goal_text.specs.ItemsIn.{IsProblem, declared_in}
use Rattle.goal_text.specs.Scope.{terms_at}
use Rattle.goal_text.specs.Sentences.{HaveSentences}
use Rattle.first_form.specs.declared.lexicon.Lexicon.{Lexicon}
use Rattle.first_form.specs.declared.setting.Setting.{Setting}
use Rattle.first_form.specs.Lexicon.{IsLexicon, names_of}
use Rattle.first_form.specs.Setting.{IsSetting, IsSettingOf}
use Rattle.first_form.specs.Source.{with_propositions}
use Rattle.first_form.proofs.LexiconLemmas.{formula_kept, formulas_kept, lexicon_kept, terms_kept}
use Rattle.hol_terms.proofs.KeepsLemmas.{keeps_trans}

-- a problem in a larger store v, with the constants found in u, and its assertions
module _ (problem : Problem) (u v : TermStore) (lexicon : Lexicon) (given : List ℕ) (k : Keeps problem.base u) (l : Keeps u v) (is : IsProblem problem) (found : IsLexicon u lexicon) where
  abbrev pub larger : Setting
  larger = record { base = v; lexicon = lexicon; facts = problem.facts; goal = problem.goal; assertions = given }

  both : Keeps problem.base v
  both = keeps_trans k l

  pub larger_is : (facts : List ℕ) → facts ≡ problem.facts → HaveSentences v given → terms_at v given ≡ terms_at u facts ++ negation (term_tree u problem.goal) ∷ [] → IsSetting larger
  larger_is facts same are terms =
      let e : terms_at v problem.facts ≡ terms_at u facts = terms_kept u v l problem.facts (formulas_kept problem.base u k problem.facts is.facts) ∙ ap (λ ts. terms_at u ts) (sym same) in
      let g = l.trees problem.goal (k.terms problem.goal is.goal.there) in
      record {
        source = record { lexicon_is = lexicon_kept l found; assertions_are = are };
        facts = formulas_kept problem.base v both problem.facts is.facts;
        goal = formula_kept both is.goal;
        assertions = rw (e, g) terms;
      }

  pub larger_of : (facts : List ℕ) → facts ≡ problem.facts → names_of lexicon.constants ≡ with_propositions [] (declared_in problem.base problem.consts)
      → terms_at v given ≡ terms_at u facts ++ negation (term_tree u problem.goal) ∷ [] → IsSettingOf problem larger
  larger_of facts same names terms =
      let e : terms_at u facts ≡ terms_at problem.base problem.facts = ap (λ ts. terms_at u ts) same ∙ terms_kept problem.base u k problem.facts is.facts in
      let g = k.trees problem.goal is.goal.there in
      record {
        source = rw (names, terms, e, g) refl;
        facts = refl;
        goal = refl;
        keeps = both;
      }
