use Rattle.std.proofs.Common.{◌≡◌, ◌∙◌, refl, ap, subst, sym}
use Rattle.hol_terms.specs.Term.{Term}
use Rattle.hol_terms.proofs.DerivableLemmas.{or_i2_in}
use Rattle.hol_terms.specs.TermStore.{term_tree}
use Rattle.hol_terms.specs.Constants.{disjunction}
use Rattle.hol_terms.specs.Formula.{IsFormula}
use Rattle.lcf_kernel.specs.KernelState.{concl_of, context_of}
use Rattle.lcf_kernel.proofs.KeepLemmas.{keeps_all_trans}
use Rattle.lcf_kernel.proofs.FollowLemmas.{from_one, under_all, premise, recorded}
use Rattle.lcf_kernel.proofs.kernel.Kernel.or_i2.Goals as goal

pub conclude-requires : goal.conclude-requires
conclude-requires c =
    let k = c.disjunction.new.self in
    let keeps = c.disjunction.ensures.keeps.records in
    let lawful = c.in_ok-hyps.ensures.lawful in
    let gives = c.in_ok-hyps.ensures.gives in
    let same : term_tree k.store c.args.t ≡ term_tree c.args.self.now.store c.args.t = keeps.store.trees c.args.t c.requires.there in
    let formula = subst (λ (t : Term). IsFormula t) (sym same) (c.if-not-is_formula.ensures.formula refl) in
    let tree : term_tree k.store c.in_ok-concl.concl ≡ disjunction (term_tree k.store c.args.t) (concl_of k c.args.a) =
    rw (same, keeps.concls c.args.a c.requires.thm) (c.in_ok-concl.ensures.tree ∙ ap (λ (u : Term). disjunction (term_tree c.args.self.now.store c.args.t) u) c.concl-given.ensures.tree) in
    recorded k lawful c.in_ok-hyps.hyps _ c.in_ok-concl.concl _ _ _ gives c.in_ok-concl.ensures.there tree c.is_bare-bare.ensures
    (from_one (λ E d. or_i2_in formula gives.formulas (under_all (context_of k) gives.same) d) (premise k lawful c.args.a (keeps.has c.args.a c.requires.thm) _ refl))

pub returns-clause-hyps : goal.returns-clause-hyps
returns-clause-hyps c = rw (c.in_ok-r.ensures.hyps, ← c.disjunction.ensures.keeps.records.hyps c.args.a c.requires.thm) c.in_ok-hyps.ensures.gives.same

pub returns-in_err-r-clause-keeps : goal.returns-in_err-r-clause-keeps
returns-in_err-r-clause-keeps c = keeps_all_trans c.disjunction.ensures.keeps c.conclude.ensures.keeps

pub returns-clause-keeps : goal.returns-clause-keeps
returns-clause-keeps c = keeps_all_trans c.disjunction.ensures.keeps c.conclude.ensures.keeps
