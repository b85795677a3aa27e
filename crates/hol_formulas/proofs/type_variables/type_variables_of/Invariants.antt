use Rattle.std.proofs.Common.{ℕ, ◌<◌, get_or, []}
use Rattle.hol_terms.specs.TermStore.{term_tree}
use Rattle.hol_terms.specs.Substitution.{type_variables}
use Rattle.hol_formulas.specs.Formulas.{trees}
use Rattle.hol_formulas.specs.FoundTypes.{type_variables_in, FindsTypes, AddsTypes, AllTypesFound, AllTermsFound}
use Rattle.hol_formulas.proofs.type_variables.type_variables_of.Given as goal

-- the type variables of the terms so far are found, and nothing else
abbrev pub invariant-loop-t : goal.invariant-loop-t
invariant-loop-t g l = record {
  types : AllTypesFound (g.S.Terms.store l.store).types l.found.items l.types;
  terms : AllTermsFound (g.S.Terms.store l.store) l.found.items l.terms;
  adds : AddsTypes (g.S.Terms.store l.store).types [] l.found.items (type_variables_in (trees (g.S.Terms.store l.store) l.ts));
  done : (k : ℕ) → k < l.t-index → FindsTypes (g.S.Terms.store l.store).types l.found.items (type_variables (term_tree (g.S.Terms.store l.store) (get_or l.ts k 0)));
}
