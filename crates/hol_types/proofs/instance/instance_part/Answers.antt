use Rattle.std.proofs.Common.{◌∙◌}
use Rattle.hol_types.specs.TypeSubst.{instance_of}
use Rattle.hol_types.proofs.KeepsLemmas.{keeps_types_trans}
use Rattle.hol_types.proofs.InstanceLemmas.{subst_tree_kept}
use Rattle.hol_types.proofs.instance.instance_part.Goals as goal

pub returns-clause-tree : goal.returns-clause-tree
returns-clause-tree c =
    let k = c.in_ok-instances_beneath.ensures.keeps in
    let same = subst_tree_kept _ _ k c.args.s.now c.requires.subst in
    c.in_ok-r.ensures.tree ∙ (λ i. instance_of (same i) (k.trees c.args.t c.requires.there i))

pub returns-clause-keeps : goal.returns-clause-keeps
returns-clause-keeps c = keeps_types_trans c.in_ok-instances_beneath.ensures.keeps c.in_ok-r.ensures.keeps
