use Rattle.std.proofs.Common.{◌≡◌, ◌∙◌, refl, subst}
use Rattle.hol_terms.specs.Term.{ty_of}
use Rattle.hol_types.specs.TypeStore.{type_tree}
use Rattle.hol_terms.specs.Substitution.{subst_bound}
use Rattle.hol_terms.specs.TermStore.{term_tree}
use Rattle.hol_terms.specs.Constants.{equation}
use Rattle.hol_terms.specs.Formula.{IsTerm}
use Rattle.hol_terms.proofs.QuantifierRules.{beta_in}
use Rattle.lcf_kernel.proofs.KeepLemmas.{keeps_all_trans}
use Rattle.lcf_kernel.proofs.FollowLemmas.{from_none, recorded}
use Rattle.lcf_kernel.specs.RuleForms.{IsRedex}
use Rattle.lcf_kernel.proofs.kernel.Kernel.beta.Goals as goal

pub conclude-requires : goal.conclude-requires
conclude-requires c =
    let k = c.reduction.new.self in
    let s = c.args.self.now.store in
    let gives = c.no_hyps-hyps.ensures.gives in
    let is = c.in-Some.ensures.some in
    let body = term_tree s c.in-Some.redex.lambda.body in
    let term = subst (λ w. IsTerm w) is c.in-Some.ensures.term in
    let tree = subst (λ w. term_tree k.store c.in_ok-concl.concl ≡ equation (ty_of body) w (subst_bound body 0 (term_tree s c.in-Some.redex.argument))) is c.in_ok-concl.ensures.tree in
    recorded k c.no_hyps-hyps.ensures.lawful c.no_hyps-hyps.result _ c.in_ok-concl.concl _ _ _ gives c.in_ok-concl.ensures.there tree refl
    (from_none (λ E. beta_in term gives.formulas))

pub returns-clause-concl : goal.returns-clause-concl
returns-clause-concl c =
    let s = c.args.self.now.store in
    let redex : IsRedex (term_tree c.args.self.now.store c.args.t) = record { type = type_tree s.types c.in-Some.redex.lambda.ty; body = term_tree s c.in-Some.redex.lambda.body; argument = term_tree s c.in-Some.redex.argument; is = c.in-Some.ensures.some } in
    (redex, c.in_ok-r.ensures.concl ∙ c.in_ok-concl.ensures.tree)

pub returns-in_err-r-clause-keeps : goal.returns-in_err-r-clause-keeps
returns-in_err-r-clause-keeps c = keeps_all_trans c.reduction.ensures.keeps c.conclude.ensures.keeps

pub returns-clause-keeps : goal.returns-clause-keeps
returns-clause-keeps c = keeps_all_trans c.reduction.ensures.keeps c.conclude.ensures.keeps
