use Rattle.std.proofs.Common.{◌∙◌, sym, ap}
use Rattle.hol_terms.specs.Term.{Term, ty_of}
use Rattle.hol_formulas.proofs.ConstantLemmas.{redex_type}
use Rattle.lcf_kernel.proofs.KeepLemmas.{keeps_all_trans}
use Rattle.lcf_kernel.proofs.kernel.Kernel.reduction.Goals as goal

pub returns-in_err-r-clause-keeps : goal.returns-in_err-r-clause-keeps
returns-in_err-r-clause-keeps c = keeps_all_trans c.opened.ensures.keeps c.equation.ensures.keeps

pub returns-clause-keeps : goal.returns-clause-keeps
returns-clause-keeps c = keeps_all_trans c.opened.ensures.keeps c.equation.ensures.keeps

pub equation-requires-clause-same : goal.equation-requires-clause-same
equation-requires-clause-same c =
    ap (λ (u : Term). ty_of u) c.in_ok-opened.ensures.tree ∙ redex_type _ _ _ _ c.requires.term c.requires.is ∙ sym (ap (λ (u : Term). ty_of u) (c.opened.ensures.keeps.records.store.trees c.args.t c.requires.there))
