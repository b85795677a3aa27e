use Rattle.std.proofs.Common.{◌≡◌, drop, is_some, bytes_eq}
use Rattle.std.specs.Map.{lookup}
use Rattle.hol_types.specs.TypeStore.{text_of}
use Rattle.hol_types.specs.TypeSubst.{HasSubst, subst_tree}
use Rattle.goal_text.proofs.matching.gives.Given as goal

-- what is left decides
abbrev pub invariant-loop-pair : goal.invariant-loop-pair
invariant-loop-pair l =
    record {
      there : HasSubst l.base.types (drop l.pair-index l.s);
      rest : is_some (lookup (bytes_eq (text_of l.base.types l.n)) (subst_tree l.base.types (drop l.pair-index l.s))) ≡ is_some (lookup (bytes_eq (text_of l.base.types l.n)) (subst_tree l.base.types l.s));
    }
