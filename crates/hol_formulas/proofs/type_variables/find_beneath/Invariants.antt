use Rattle.hol_types.specs.TypeStore.{type_tree}
use Rattle.hol_types.specs.TypeSubst.{variables_of}
use Rattle.hol_formulas.specs.FoundTypes.{AddsTypes, AllTypesFound}
use Rattle.hol_formulas.proofs.type_variables.find_beneath.Given as goal

abbrev pub invariant-loop-part : goal.invariant-loop-part
invariant-loop-part g l = record {
  seen : AllTypesFound (g.S.Terms.store l.store).types l.found.items l.seen;
  adds : AddsTypes (g.S.Terms.store l.store).types l.fn.found.items l.found.items (variables_of (type_tree (g.S.Terms.store l.store).types l.fn.t));
}
