use Rattle.std.proofs.Common.{◌≡◌, ◌∙◌, refl, subst, sym}
use Rattle.hol_terms.specs.Term.{Term}
use Rattle.hol_terms.proofs.DerivableLemmas.{not_i_in}
use Rattle.hol_terms.specs.TermStore.{term_tree}
use Rattle.hol_terms.specs.Constants.{negation}
use Rattle.hol_terms.specs.Formula.{IsFormula}
use Rattle.lcf_kernel.specs.KernelState.{context_of}
use Rattle.lcf_kernel.proofs.KeepLemmas.{keeps_all_trans}
use Rattle.lcf_kernel.proofs.FollowLemmas.{from_one, under_all, under_but, premise, recorded}
use Rattle.lcf_kernel.proofs.kernel.Kernel.not_i.Goals as goal

pub conclude-requires : goal.conclude-requires
conclude-requires c =
    let k = c.negation.new.self in
    let keeps = c.negation.ensures.keeps.records in
    let lawful = c.in_ok-hyps.ensures.lawful in
    let gives = c.in_ok-hyps.ensures.gives in
    let same : term_tree k.store c.args.t ≡ term_tree c.args.self.now.store c.args.t = keeps.store.trees c.args.t c.requires.there in
    let formula = subst (λ (t : Term). IsFormula t) (sym same) (c.if-not-is_formula.ensures.formula refl) in
    let tree : term_tree k.store c.in_ok-concl.concl ≡ negation (term_tree k.store c.args.t) = rw same c.in_ok-concl.ensures.tree in
    recorded k lawful c.in_ok-hyps.hyps _ c.in_ok-concl.concl _ _ _ gives c.in_ok-concl.ensures.formula.there tree c.is_bare-bare.ensures
    (from_one (λ E d. not_i_in formula gives.formulas (under_but (context_of k) _ _ _ (under_all (context_of k) gives.same)) d)
    (premise k lawful c.args.a (keeps.has c.args.a c.requires.thm) _ (keeps.concls c.args.a c.requires.thm ∙ c.if-not-concludes_false.ensures.0 refl)))

pub returns-clause-hyps : goal.returns-clause-hyps
returns-clause-hyps c =
    let keeps = c.negation.ensures.keeps.records in
    rw (c.in_ok-r.ensures.hyps, ← keeps.store.trees c.args.t c.requires.there, ← keeps.hyps c.args.a c.requires.thm) c.in_ok-hyps.ensures.gives.same

pub returns-in_err-r-clause-keeps : goal.returns-in_err-r-clause-keeps
returns-in_err-r-clause-keeps c = keeps_all_trans c.negation.ensures.keeps c.conclude.ensures.keeps

pub returns-clause-keeps : goal.returns-clause-keeps
returns-clause-keeps c = keeps_all_trans c.negation.ensures.keeps c.conclude.ensures.keeps
