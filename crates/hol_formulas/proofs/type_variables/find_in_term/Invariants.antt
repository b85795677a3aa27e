use Rattle.hol_terms.specs.TermStore.{term_tree}
use Rattle.hol_terms.specs.Substitution.{type_variables}
use Rattle.hol_formulas.specs.FoundTypes.{AddsTypes, AllTypesFound, AllTermsFound}
use Rattle.hol_formulas.proofs.type_variables.find_in_term.Given as goal

abbrev pub invariant-loop-part : goal.invariant-loop-part
invariant-loop-part g l = record {
  types : AllTypesFound (g.S.Terms.store l.store).types l.found.items l.types;
  terms : AllTermsFound (g.S.Terms.store l.store) l.found.items l.terms;
  adds : AddsTypes (g.S.Terms.store l.store).types l.fn.found.items l.found.items (type_variables (term_tree (g.S.Terms.store l.store) l.t));
}
