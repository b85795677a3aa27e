use Rattle.std.proofs.Common.{◌≡◌, ℕ, ◌+◌, ◌-◌, ◌*◌, ◌≤◌, length}
use Rattle.hol_types.specs.Ty.{Tys}
use Rattle.hol_types.specs.TypeStore as store
use Rattle.hol_terms.specs.TermStore.{Keeps}
use Rattle.sexp.specs.Tree.{count}
use Rattle.sexp.specs.Forest.{after_of, trees_at, IsRun}
use Rattle.goal_text.specs.Read.{Read}
use Rattle.goal_text.specs.Types.{types_of}
use Rattle.goal_text.specs.Scope.{AreConstructors, AreTypes, types_in}
use Rattle.goal_text.proofs.TypeLemmas.{with_types}
use Rattle.goal_text.proofs.types.+types.Given as goal

abbrev pub decreases-type_at : goal.decreases-type_at
decreases-type_at l = 2 * (after_of l.forest.now l.i - l.i)

abbrev pub decreases-types_at : goal.decreases-types_at
decreases-types_at l = 2 * (l.end - l.first) + 1

-- the types so far, and then those of the trees to come
abbrev pub invariant-types_at-loop-after : goal.invariant-types_at-loop-after
invariant-types_at-loop-after l =
    let reads : ℕ → Read Tys = λ i. types_of (types_in l.constructors) (trees_at l.forest i l.end) in
    record {
      run : IsRun l.forest l.i l.end;
      from : l.first ≤ l.i;
      constructors : AreConstructors l.base l.constructors;
      types : AreTypes l.base l.types.items;
      keeps : Keeps l.fn.base l.base;
      count : length l.types.items + count (trees_at l.forest l.i l.end) ≡ count (trees_at l.forest l.first l.end);
      read : with_types (store.trees_at l.base.types l.types.items) (reads l.i) ≡ reads l.first;
    }

abbrev pub decreases-types_at-loop-after : goal.decreases-types_at-loop-after
decreases-types_at-loop-after l = l.end - l.i
