use Rattle.std.proofs.Common.{◌∙◌, ap₂}
use Rattle.hol_terms.specs.Substitution.{subst_types}
use Rattle.hol_terms.proofs.KeepsLemmas.{subst_same}
use Rattle.lcf_kernel.proofs.KeepLemmas.{keeps_all_trans}
use Rattle.lcf_kernel.proofs.kernel.Kernel.retyped.Goals as goal

pub returns-in_err-t-clause-keeps : goal.returns-in_err-t-clause-keeps
returns-in_err-t-clause-keeps c = keeps_all_trans c.keeps_hyps.ensures.keeps c.instantiated.ensures.keeps

pub returns-clause-tree : goal.returns-clause-tree
returns-clause-tree c =
    let keeps = c.keeps_hyps.ensures.keeps.records in
    c.in_ok-t.ensures.tree ∙ ap₂ subst_types (subst_same keeps.store c.args.s.now c.requires.subst) (c.concl-said.ensures.tree ∙ keeps.concls c.args.a c.requires.thm)

pub returns-clause-keeps : goal.returns-clause-keeps
returns-clause-keeps c = keeps_all_trans c.keeps_hyps.ensures.keeps c.instantiated.ensures.keeps
