use Rattle.std.proofs.Common.{◌≡◌, ◌∙◌, refl, sym, subst}
use Rattle.hol_terms.specs.Term.{Term}
use Rattle.hol_terms.specs.TermStore.{term_tree}
use Rattle.hol_terms.specs.Constants.{negation}
use Rattle.hol_terms.specs.Formula.{IsFormula}
use Rattle.lcf_kernel.proofs.KeepLemmas.{keeps_all_trans}
use Rattle.lcf_kernel.proofs.KernelRules.{rule_classical}
use Rattle.lcf_kernel.proofs.kernel.Kernel.classical.Goals as goal

pub conclude-requires : goal.conclude-requires
conclude-requires c =
    let k = c.negation.new.self in
    let keeps = c.negation.ensures.keeps.records in
    let same : term_tree k.store c.args.t ≡ term_tree c.args.self.now.store c.args.t = keeps.store.trees c.args.t c.requires.there in
    let formula = subst (λ (t : Term). IsFormula t) (sym same) (c.if-not-is_formula.ensures.formula refl) in
    let tree : term_tree k.store c.in_ok-negation.negation ≡ negation (term_tree k.store c.args.t) = rw same c.in_ok-negation.ensures.tree in
    rule_classical k c.in_ok-hyps.ensures.lawful c.in_ok-hyps.hyps c.args.a c.args.t c.in_ok-negation.negation (keeps.has c.args.a c.requires.thm) (keeps.store.terms c.args.t c.requires.there) formula tree c.in_ok-hyps.ensures.gives
    (keeps.concls c.args.a c.requires.thm ∙ c.if-not-concludes_false.ensures.0 refl) _ c.is_bare-bare.ensures

pub returns-clause-hyps : goal.returns-clause-hyps
returns-clause-hyps c =
    let keeps = c.negation.ensures.keeps.records in
    rw (c.in_ok-r.ensures.hyps, ← c.in_ok-negation.ensures.tree, ← keeps.hyps c.args.a c.requires.thm) c.in_ok-hyps.ensures.gives.same

pub returns-in_err-r-clause-keeps : goal.returns-in_err-r-clause-keeps
returns-in_err-r-clause-keeps c = keeps_all_trans c.negation.ensures.keeps c.conclude.ensures.keeps

pub returns-clause-keeps : goal.returns-clause-keeps
returns-clause-keeps c = keeps_all_trans c.negation.ensures.keeps c.conclude.ensures.keeps
