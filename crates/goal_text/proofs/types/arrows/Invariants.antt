use Rattle.std.proofs.Common.{◌≡◌, length}
use Rattle.hol_types.specs.TypeStore.{HasType, type_tree, trees_at}
use Rattle.hol_terms.specs.TermStore.{Keeps}
use Rattle.goal_text.specs.Types.{Arrows, type_built}
use Rattle.goal_text.specs.Scope.{AreTypes}
use Rattle.goal_text.proofs.TypeLemmas.{onto}
use Rattle.goal_text.proofs.types.arrows.Given as goal

-- the type so far, with the sources that are left
abbrev pub invariant-loop-source : goal.invariant-loop-source
invariant-loop-source l =
    record {
      sources : AreTypes l.base l.sources.items;
      there : HasType l.base.types l.t;
      keeps : Keeps l.fn.base l.base;
      read : type_built Arrows (trees_at l.fn.base.types l.fn.parts.items) ≡ onto (trees_at l.base.types l.sources.items) (type_tree l.base.types l.t);
    }

abbrev pub decreases-loop-source : goal.decreases-loop-source
decreases-loop-source l = length l.sources.items
