use Rattle.std.proofs.Common.{◌≡◌, ◌∙◌, refl, sym, ap, subst}
use Rattle.hol_terms.specs.Term.{Term}
use Rattle.hol_terms.specs.TermStore.{term_tree}
use Rattle.hol_terms.specs.Constants.{implication}
use Rattle.hol_terms.specs.Formula.{IsFormula}
use Rattle.lcf_kernel.specs.KernelState.{concl_of}
use Rattle.lcf_kernel.proofs.KeepLemmas.{keeps_all_trans}
use Rattle.lcf_kernel.proofs.KernelRules.{rule_imp_i}
use Rattle.lcf_kernel.proofs.kernel.Kernel.imp_i.Goals as goal

pub conclude-requires : goal.conclude-requires
conclude-requires c =
    let k = c.implication.new.self in
    let keeps = c.implication.ensures.keeps.records in
    let same : term_tree k.store c.args.t ≡ term_tree c.args.self.now.store c.args.t = keeps.store.trees c.args.t c.requires.there in
    let concl : concl_of k c.args.a ≡ concl_of c.args.self.now c.args.a = keeps.concls c.args.a c.requires.thm in
    let formula = subst (λ (t : Term). IsFormula t) (sym same) (c.if-not-is_formula.ensures.formula refl) in
    let tree : term_tree k.store c.in_ok-concl.concl ≡ implication (term_tree k.store c.args.t) (concl_of k c.args.a) =
    rw (same, concl) (c.in_ok-concl.ensures.tree ∙ ap (λ (u : Term). implication (term_tree c.args.self.now.store c.args.t) u) c.concl-right.ensures.tree) in
    rule_imp_i k c.in_ok-hyps.ensures.lawful c.in_ok-hyps.hyps c.args.a c.args.t c.in_ok-concl.concl (keeps.has c.args.a c.requires.thm) formula c.in_ok-hyps.ensures.gives c.in_ok-concl.ensures.formula tree _ c.is_bare-bare.ensures

pub returns-clause-hyps : goal.returns-clause-hyps
returns-clause-hyps c =
    let keeps = c.implication.ensures.keeps.records in
    rw (c.in_ok-r.ensures.hyps, ← keeps.store.trees c.args.t c.requires.there, ← keeps.hyps c.args.a c.requires.thm) c.in_ok-hyps.ensures.gives.same

pub returns-in_err-r-clause-keeps : goal.returns-in_err-r-clause-keeps
returns-in_err-r-clause-keeps c = keeps_all_trans c.implication.ensures.keeps c.conclude.ensures.keeps

pub returns-clause-keeps : goal.returns-clause-keeps
returns-clause-keeps c = keeps_all_trans c.implication.ensures.keeps c.conclude.ensures.keeps
