use Rattle.std.proofs.Common.{true, ◌≡◌, ◌∙◌, [], sym}
use Rattle.hol_terms.specs.Term.{ty_of}
use Rattle.hol_terms.specs.TermStore.{term_tree}
use Rattle.hol_terms.specs.Constants.{equation}
use Rattle.lcf_kernel.specs.KernelState.{concl_of}
use Rattle.lcf_kernel.proofs.KeepLemmas.{keeps_all_trans}
use Rattle.lcf_kernel.proofs.KeptLemmas.{has_kept}
use Rattle.hol_logic.proofs.StateLemmas.{passed_on, states_keep}
use Rattle.hol_terms.specs.Substitution.{subst_bound}
use Rattle.hol_logic.specs.States.{States}
use Rattle.hol_logic.proofs.EquationLemmas.{states_through, reversed_says, chain_says}
use Rattle.hol_logic.proofs.ExpansionLemmas.{states_both, restated_says}
use Rattle.hol_logic.proofs.expansion.restated.Goals as goal

pub carry-requires-clause-equal : goal.carry-requires-clause-equal
carry-requires-clause-equal c = c.requires.same

pub carry-requires-clause-body : goal.carry-requires-clause-body
carry-requires-clause-body c = c.requires.place

pub carry-requires-clause-function : goal.carry-requires-clause-function
carry-requires-clause-function c = c.requires.function

pub sym-requires : goal.sym-requires
sym-requires c = c.in_ok-step.ensures.states.1.there

pub trans-requires-clause-first : goal.trans-requires-clause-first
trans-requires-clause-first c = c.in_ok-back.ensures.states.1.there

pub trans-requires-clause-second : goal.trans-requires-clause-second
trans-requires-clause-second c = has_kept (keeps_all_trans c.carry.ensures.keeps c.sym.ensures.keeps) c.requires.dual

pub returns-clause-states : goal.returns-clause-states
returns-clause-states c ty x y d same dual =
    let k = c.args.k.now in
    let b = term_tree k.store c.args.place in
    let l = subst_bound b 0 x in
    let m = subst_bound b 0 y in
    let carried = c.in_ok-step.ensures.states in
    let through = states_through same carried.1 in
    let step : States c.carry.new.k c.in_ok-step.step (equation (ty_of b) l m) [] true = record { there = through.there; concl = through.concl ∙ restated_says carried.0 ty x y b same.concl; hyps = through.hyps; bare = through.bare } in
    let turned = states_through step c.in_ok-back.ensures.states.1 in
    let back : States c.sym.new.k c.in_ok-back.back (equation (ty_of b) m l) [] true = record { there = turned.there; concl = turned.concl ∙ reversed_says c.in_ok-back.ensures.states.0 (ty_of b) l m step.concl; hyps = turned.hyps; bare = turned.bare } in
    let other = states_keep (keeps_all_trans c.carry.ensures.keeps c.sym.ensures.keeps) dual in
    states_both back other c.in_ok-r.ensures.states.1 (chain_says c.in_ok-r.ensures.states.0 (ty_of b) (ty_of b) m l l d back.concl other.concl)

pub returns-in_err-step-clause-shape : goal.returns-in_err-step-clause-shape
returns-in_err-step-clause-shape c = passed_on c.from_residual.result c.in_err-step.field-0.0 c.from_residual.ensures.1 (λ e. c.in_err-step.ensures.shape e)

pub returns-in_err-back-clause-shape : goal.returns-in_err-back-clause-shape
returns-in_err-back-clause-shape c =
    let k = c.args.k.now in
    let b = term_tree k.store c.args.place in
    let carried = c.in_ok-step.ensures.states in
    let e = carried.0 in
    let l = subst_bound b 0 e.left in
    let m = subst_bound b 0 e.right in
    passed_on c.from_residual-in_err-back.result c.in_err-back.field-0.0 c.from_residual-in_err-back.ensures.1 (λ h. c.in_err-back.ensures.shape h (record { type = ty_of b; left = l; right = m; is = carried.1.concl }))

pub returns-in_err-r-clause-shape : goal.returns-in_err-r-clause-shape
returns-in_err-r-clause-shape c =
    let k = c.args.k.now in
    let b = term_tree k.store c.args.place in
    let carried = c.in_ok-step.ensures.states in
    let e = carried.0 in
    let l = subst_bound b 0 e.left in
    let m = subst_bound b 0 e.right in
    let back : concl_of c.sym.new.k c.in_ok-back.back ≡ equation (ty_of b) m l = c.in_ok-back.ensures.states.1.concl ∙ reversed_says c.in_ok-back.ensures.states.0 (ty_of b) l m carried.1.concl in
    let link = c.requires.linked e in
    let other : concl_of c.sym.new.k c.args.dual ≡ equation (ty_of b) l link.0 = (keeps_all_trans c.carry.ensures.keeps c.sym.ensures.keeps).records.concls c.args.dual c.requires.dual ∙ link.1 in
    passed_on c.from_residual-in_err-r.result c.in_err-r.field-0.0 c.from_residual-in_err-r.ensures.1 (λ h. c.in_err-r.ensures.shape h (record { type = ty_of b; left = m; middle = l; right = link.0; first_is = back; second_is = other }))

pub returns-in_err-step-clause-keeps : goal.returns-in_err-step-clause-keeps
returns-in_err-step-clause-keeps c = c.carry.ensures.keeps

pub returns-in_err-back-clause-keeps : goal.returns-in_err-back-clause-keeps
returns-in_err-back-clause-keeps c = keeps_all_trans c.carry.ensures.keeps c.sym.ensures.keeps

pub returns-in_err-r-clause-keeps : goal.returns-in_err-r-clause-keeps
returns-in_err-r-clause-keeps c = keeps_all_trans (keeps_all_trans c.carry.ensures.keeps c.sym.ensures.keeps) c.trans.ensures.keeps

pub returns-clause-keeps : goal.returns-clause-keeps
returns-clause-keeps c = keeps_all_trans (keeps_all_trans c.carry.ensures.keeps c.sym.ensures.keeps) c.trans.ensures.keeps
