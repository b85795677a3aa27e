use Rattle.std.proofs.Common.{◌≡◌, [], drop}
use Rattle.hol_terms.specs.TermStore.{Keeps}
use Rattle.goal_text.specs.ItemsIn.{declared_in}
use Rattle.first_form.specs.Lexicon.{IsLexicon, names_of}
use Rattle.first_form.specs.Source.{with_propositions}
use Rattle.first_form.proofs.propositions.lexicon_of.Given as goal

-- the constants so far, and then those to come
abbrev pub invariant-loop-declared : goal.invariant-loop-declared
invariant-loop-declared l =
    record {
      lexicon_is : IsLexicon l.base l.lexicon;
      keeps : Keeps l.fn.base l.base;
      names : with_propositions (names_of l.lexicon.constants) (declared_in l.fn.base (drop l.declared-index l.consts)) ≡ with_propositions [] (declared_in l.fn.base l.consts);
    }
