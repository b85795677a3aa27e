use Rattle.std.proofs.Common.{◌≡◌, ◌∙◌, sym, ap, subst, arith, tests}
use Rattle.hol_terms.specs.Term.{Term, ty_of}
use Rattle.hol_terms.specs.Substitution.{subst_bound}
use Rattle.hol_terms.specs.TermStore.{term_tree}
use Rattle.hol_terms.specs.Constants.{equation}
use Rattle.hol_terms.specs.Formula.{IsTerm, IsFormula}
use Rattle.hol_terms.proofs.QuantifierRules.{subst_in}
use Rattle.hol_terms.proofs.FormulaLemmas.{equation_left, equation_right}
use Rattle.lcf_kernel.specs.KernelState.{concl_of, context_of}
use Rattle.lcf_kernel.proofs.KeepLemmas.{keeps_all_trans}
use Rattle.lcf_kernel.proofs.FollowLemmas.{from_two, under_left, under_right, premise, concluded_formula, recorded}
use Rattle.lcf_kernel.specs.RuleForms.{IsSubstitution}
use Rattle.lcf_kernel.proofs.kernel.Kernel.subst.Goals as goal

pub opened_with-requires-clause-left_closed : goal.opened_with-requires-clause-left_closed
opened_with-requires-clause-left_closed c =
    let formula = subst (λ (f : Term). IsFormula f) c.in-Some.ensures.some (concluded_formula c.args.self.now c.in-Some.ensures.lawful c.args.a c.requires.left) in
    (equation_left formula).term.closed

pub opened_with-requires-clause-right_closed : goal.opened_with-requires-clause-right_closed
opened_with-requires-clause-right_closed c =
    let formula = subst (λ (f : Term). IsFormula f) c.in-Some.ensures.some (concluded_formula c.args.self.now c.in-Some.ensures.lawful c.args.a c.requires.left) in
    (equation_right formula).term.closed

pub opened_with-requires-clause-left_fits : goal.opened_with-requires-clause-left_fits
opened_with-requires-clause-left_fits c =
    let term = subst (λ (f : Term). IsTerm f) c.in-Some-body_for.ensures.some c.in-Some-body_for.ensures.term in
    term.typed.1

pub opened_with-requires-clause-right_fits : goal.opened_with-requires-clause-right_fits
opened_with-requires-clause-right_fits c =
    let term = subst (λ (f : Term). IsTerm f) c.in-Some-body_for.ensures.some c.in-Some-body_for.ensures.term in
    let formula = subst (λ (f : Term). IsFormula f) c.in-Some.ensures.some (concluded_formula c.args.self.now c.in-Some.ensures.lawful c.args.a c.requires.left) in
    rw (equation_right formula).type term.typed.1

pub conclude-requires : goal.conclude-requires
conclude-requires c =
    let k = c.opened_with.new.self in
    let s = c.args.self.now.store in
    let keeps = c.opened_with.ensures.keeps.records in
    let lawful = c.in_ok-hyps.ensures.lawful in
    let gives = c.in_ok-hyps.ensures.gives in
    let left = term_tree s c.in-Some.sides.left in
    let right = term_tree s c.in-Some.sides.right in
    let body = term_tree s c.in-Some-body_for.body in
    let term = subst (λ (f : Term). IsTerm f) c.in-Some-body_for.ensures.some c.in-Some-body_for.ensures.term in
    let equal : concl_of k c.args.a ≡ equation (ty_of left) left right = keeps.concls c.args.a c.requires.left ∙ c.in-Some.ensures.some in
    let same_id : c.in_ok-opened.opened.left ≡ c.concl-said.result = grind (arith, tests, c.ne.ensures, c.if-ne.false) in
    let said : concl_of k c.args.b ≡ subst_bound body 0 left = sym c.concl-said.ensures.tree ∙ ap (λ t. term_tree k.store t) (sym same_id) ∙ c.in_ok-opened.ensures.left in
    recorded k lawful c.in_ok-hyps.hyps _ c.in_ok-opened.opened.right (subst_bound body 0 right) _ _ gives c.in_ok-opened.ensures.right_there c.in_ok-opened.ensures.right c.both_bare-bare.ensures
    (from_two (λ E d e. subst_in {ty = ty_of left} {t = left} {u = right} {b = body} term gives.formulas (under_left (context_of k) _ _ _ gives.same) (under_right (context_of k) _ _ _ gives.same) d e)
    (premise k lawful c.args.a (keeps.has c.args.a c.requires.left) _ equal) (premise k lawful c.args.b (keeps.has c.args.b c.requires.right) _ said))

pub returns-clause-hyps : goal.returns-clause-hyps
returns-clause-hyps c =
    let keeps = c.opened_with.ensures.keeps.records in
    rw (c.in_ok-r.ensures.hyps, ← keeps.hyps c.args.a c.requires.left, ← keeps.hyps c.args.b c.requires.right) c.in_ok-hyps.ensures.gives.same

pub returns-in_err-r-clause-keeps : goal.returns-in_err-r-clause-keeps
returns-in_err-r-clause-keeps c = keeps_all_trans c.opened_with.ensures.keeps c.conclude.ensures.keeps

pub returns-clause-keeps : goal.returns-clause-keeps
returns-clause-keeps c = keeps_all_trans c.opened_with.ensures.keeps c.conclude.ensures.keeps

pub returns-clause-concl : goal.returns-clause-concl
returns-clause-concl c =
    let k = c.opened_with.new.self in
    let s = c.args.self.now.store in
    let same_id : c.in_ok-opened.opened.left ≡ c.concl-said.result = grind (arith, tests, c.ne.ensures, c.if-ne.false) in
    let keeps = c.opened_with.ensures.keeps.records in
    let body = term_tree s c.in-Some-body_for.body in
    let left = term_tree s c.in-Some.sides.left in
    let said : concl_of c.args.self.now c.args.b ≡ subst_bound body 0 left =
    sym (keeps.concls c.args.b c.requires.right) ∙ sym c.concl-said.ensures.tree ∙ ap (λ t. term_tree k.store t) (sym same_id) ∙ c.in_ok-opened.ensures.left in
    let substitution : IsSubstitution (term_tree s c.args.p) (concl_of c.args.self.now c.args.a) (concl_of c.args.self.now c.args.b) =
    record { type = ty_of left; left = left; right = term_tree s c.in-Some.sides.right; body = body; equal_is = c.in-Some.ensures.some; lambda_is = c.in-Some-body_for.ensures.some; said_is = said } in
    (substitution, c.in_ok-r.ensures.concl ∙ c.in_ok-opened.ensures.right)

pub concl-said-requires : goal.concl-said-requires
concl-said-requires c = c.opened_with.ensures.keeps.records.has c.args.b c.requires.right

pub hyps_of_both-requires-clause-left : goal.hyps_of_both-requires-clause-left
hyps_of_both-requires-clause-left c = c.opened_with.ensures.keeps.records.has c.args.a c.requires.left

pub hyps_of_both-requires-clause-right : goal.hyps_of_both-requires-clause-right
hyps_of_both-requires-clause-right c = c.opened_with.ensures.keeps.records.has c.args.b c.requires.right

pub both_bare-bare-requires-clause-left : goal.both_bare-bare-requires-clause-left
both_bare-bare-requires-clause-left c = c.opened_with.ensures.keeps.records.has c.args.a c.requires.left

pub both_bare-bare-requires-clause-right : goal.both_bare-bare-requires-clause-right
both_bare-bare-requires-clause-right c = c.opened_with.ensures.keeps.records.has c.args.b c.requires.right
