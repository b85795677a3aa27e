use Rattle.std.proofs.Common.{◌≡◌, Some, length}
use Rattle.hol_terms.specs.TermStore.{term_tree, Keeps}
use Rattle.first_form.specs.Formulas.{implication_of}
use Rattle.goal_text.specs.Scope.{terms_at}
use Rattle.goal_text.specs.Sentences.{HasSentence, HaveSentences}
use Rattle.first_form.specs.Lexicon.{IsLexicon}
use Rattle.first_form.proofs.FormulaLemmas.{under}
use Rattle.first_form.proofs.formula.implied.Given as goal

-- the term so far, under the premises that are left, is what the parts are read as
abbrev pub invariant-loop-a : goal.invariant-loop-a
invariant-loop-a l =
    record {
      lexicon : IsLexicon l.base l.lexicon;
      premises : HaveSentences l.base l.premises.items;
      term : HasSentence l.base l.t;
      keeps : Keeps l.fn.base l.base;
      read : implication_of (terms_at l.fn.base l.fn.parts.items) ≡ Some (under (terms_at l.base l.premises.items) (term_tree l.base l.t));
    }

abbrev pub decreases-loop-a : goal.decreases-loop-a
decreases-loop-a l = length l.premises.items
