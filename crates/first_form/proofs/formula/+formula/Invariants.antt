use Rattle.std.proofs.Common.{◌≡◌, ℕ, Option, List, ◌+◌, ◌-◌, ◌*◌, ◌≤◌}
use Rattle.hol_terms.specs.Term.{Term}
use Rattle.hol_terms.specs.TermStore.{Keeps}
use Rattle.sexp.specs.Forest.{after_of, trees_at, IsRun}
use Rattle.first_form.specs.Formulas.{formulas_of}
use Rattle.goal_text.specs.Scope.{terms_at}
use Rattle.goal_text.specs.Sentences.{HaveSentences}
use Rattle.first_form.specs.Lexicon.{IsLexicon, names_of}
use Rattle.first_form.proofs.FormulaLemmas.{with_front}
use Rattle.first_form.proofs.formula.+formula.Given as goal

abbrev pub decreases-formula_at : goal.decreases-formula_at
decreases-formula_at l = 2 * (after_of l.forest.now l.i - l.i)

abbrev pub decreases-formulas_at : goal.decreases-formulas_at
decreases-formulas_at l = 2 * (l.end - l.first) + 1

-- the formulas so far, and then those of the trees to come
abbrev pub invariant-formulas_at-loop-after : goal.invariant-formulas_at-loop-after
invariant-formulas_at-loop-after l =
    let reads : ℕ → Option (List Term) = λ i. formulas_of (names_of l.lexicon.constants) (trees_at l.forest i l.end) in
    record {
      run : IsRun l.forest l.i l.end;
      from : l.first ≤ l.i;
      lexicon : IsLexicon l.base l.lexicon;
      formulas : HaveSentences l.base l.formulas.items;
      keeps : Keeps l.fn.base l.base;
      read : with_front (terms_at l.base l.formulas.items) (reads l.i) ≡ reads l.first;
    }

abbrev pub decreases-formulas_at-loop-after : goal.decreases-formulas_at-loop-after
decreases-formulas_at-loop-after l = l.end - l.i
