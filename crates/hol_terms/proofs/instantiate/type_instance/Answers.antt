use Rattle.hol_terms.proofs.KeepsLemmas.{subst_kept, subst_same}
use Rattle.hol_terms.proofs.instantiate.type_instance.Goals as goal

pub returns-clause-subst : goal.returns-clause-subst
returns-clause-subst g c = subst_kept c.instance_part.ensures.keeps c.args.s.now c.requires.subst

pub returns-clause-same : goal.returns-clause-same
returns-clause-same g c = subst_same c.instance_part.ensures.keeps c.args.s.now c.requires.subst
