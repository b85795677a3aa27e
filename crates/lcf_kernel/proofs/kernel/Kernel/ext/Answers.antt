use Rattle.std.proofs.Common.{◌≡◌, ◌∙◌, ◌++◌, sym, subst}
use Rattle.hol_types.specs.Ty.{Ty}
use Rattle.hol_terms.specs.TermStore.{term_tree}
use Rattle.hol_terms.specs.Constants.{equation}
use Rattle.hol_terms.specs.Formula.{NotFreeInAny}
use Rattle.hol_terms.proofs.QuantifierRules.{ext_in}
use Rattle.lcf_kernel.specs.KernelState.{hyps_of, context_of}
use Rattle.lcf_kernel.proofs.KeepLemmas.{keeps_all_from, keeps_all_trans}
use Rattle.lcf_kernel.proofs.ExtLemmas.{function_types}
use Rattle.lcf_kernel.proofs.FollowLemmas.{from_one, under_all, premise, concluded_formula, recorded}
use Rattle.lcf_kernel.proofs.kernel.Kernel.ext.Goals as goal

pub equation-requires-clause-same : goal.equation-requires-clause-same
equation-requires-clause-same c =
    let agree = rw c.in-Some.is at c.in_ok-found.ensures.some in
    let types = function_types agree.type _ _ _ _ (concluded_formula c.args.self.now c.in_ok-found.ensures.lawful c.args.a c.requires.thm) agree.said_is in
    rw c.agreeing.ensures.same (types.1 ∙ sym types.0)

pub conclude-requires : goal.conclude-requires
conclude-requires c =
    let k = c.equation.new.self in
    let s = c.args.self.now.store in
    let v = term_tree s c.args.v in
    let f = term_tree s c.in-Some.functions.left in
    let g = term_tree s c.in-Some.functions.right in
    let keeps = (keeps_all_from c.agreeing.ensures.same c.equation.ensures.keeps).records in
    let lawful = c.in_ok-hyps.ensures.lawful in
    let gives = c.in_ok-hyps.ensures.gives in
    let agree = rw c.in-Some.is at c.in_ok-found.ensures.some in
    let types = function_types agree.type _ _ _ _ (concluded_formula c.args.self.now c.in_ok-found.ensures.lawful c.args.a c.requires.thm) agree.said_is in
    let made = rw c.agreeing.ensures.same at c.in_ok-concl.ensures.tree in
    let tree = subst (λ (ty : Ty). term_tree k.store c.in_ok-concl.concl ≡ equation ty f g) types.0 made in
    let absent : NotFreeInAny v (context_of k ++ hyps_of k c.args.a) = rw (keeps.context_trees, keeps.hyps c.args.a c.requires.thm) agree.general.absent in
    recorded k lawful c.in_ok-hyps.hyps _ c.in_ok-concl.concl _ _ _ gives c.in_ok-concl.ensures.there tree c.is_bare-bare.ensures
    (from_one (λ E d. ext_in {ty = agree.type} {f = f} {g = g} v agree.general.variable agree.not_in_left agree.not_in_right absent gives.formulas (under_all (context_of k) gives.same) d)
    (premise k lawful c.args.a (keeps.has c.args.a c.requires.thm) _ (keeps.concls c.args.a c.requires.thm ∙ agree.said_is)))

pub returns-clause-concl : goal.returns-clause-concl
returns-clause-concl c =
    let s = c.args.self.now.store in
    let f = term_tree s c.in-Some.functions.left in
    let g = term_tree s c.in-Some.functions.right in
    let agree = rw c.in-Some.is at c.in_ok-found.ensures.some in
    let types = function_types agree.type _ _ _ _ (concluded_formula c.args.self.now c.in_ok-found.ensures.lawful c.args.a c.requires.thm) agree.said_is in
    let k = c.equation.new.self in
    let made = rw c.agreeing.ensures.same at c.in_ok-concl.ensures.tree in
    let tree = subst (λ (ty : Ty). term_tree k.store c.in_ok-concl.concl ≡ equation ty f g) types.0 made in
    (f, g, agree, c.in_ok-r.ensures.concl ∙ tree)

pub returns-clause-hyps : goal.returns-clause-hyps
returns-clause-hyps c =
    let keeps = (keeps_all_from c.agreeing.ensures.same c.equation.ensures.keeps).records in
    rw (c.in_ok-r.ensures.hyps, ← keeps.hyps c.args.a c.requires.thm) c.in_ok-hyps.ensures.gives.same

pub returns-in_err-r-clause-keeps : goal.returns-in_err-r-clause-keeps
returns-in_err-r-clause-keeps c = keeps_all_trans (keeps_all_from c.agreeing.ensures.same c.equation.ensures.keeps) c.conclude.ensures.keeps

pub returns-clause-keeps : goal.returns-clause-keeps
returns-clause-keeps c = keeps_all_trans (keeps_all_from c.agreeing.ensures.same c.equation.ensures.keeps) c.conclude.ensures.keeps
