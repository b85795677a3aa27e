use Rattle.std.proofs.Common.{◌≡◌, ◌∙◌, sym, subst}
use Rattle.hol_terms.specs.Term.{AppTm, ty_of}
use Rattle.hol_terms.specs.TermStore.{term_tree}
use Rattle.hol_terms.specs.Substitution.{IsClosed, close_free}
use Rattle.hol_terms.specs.Formula.{IsFormula}
use Rattle.hol_terms.specs.Constants.{equation}
use Rattle.hol_terms.specs.Derivable.{abstraction}
use Rattle.hol_terms.proofs.FormulaLemmas.{equation_left}
use Rattle.lcf_kernel.specs.KernelState.{concl_of}
use Rattle.lcf_kernel.proofs.KeepLemmas.{keeps_all_trans}
use Rattle.hol_logic.proofs.StateLemmas.{passed_on}
use Rattle.hol_logic.proofs.EquationLemmas.{itself_closed, redex_says, chain_says, reversed_says, after_none, states_through}
use Rattle.hol_logic.proofs.abstraction.turned.Goals as goal

pub beta-requires-clause-closed : goal.beta-requires-clause-closed
beta-requires-clause-closed c =
    let e = c.requires.equal.equation in
    let has = equation_left (subst (λ f. IsFormula f) e.is c.concl-said.ensures.formula) in
    subst (λ t. IsClosed t) (sym (c.requires.is e)) (itself_closed (term_tree c.args.k.now.store c.args.v) e.left c.requires.free has.term.closed)

pub trans-requires-clause-second : goal.trans-requires-clause-second
trans-requires-clause-second c = c.beta.ensures.keeps.records.has c.args.a c.requires.equal.there

pub sym-requires : goal.sym-requires
sym-requires c = c.in_ok-whole.ensures.states.1.there

pub returns-in_err-first-clause-shape : goal.returns-in_err-first-clause-shape
returns-in_err-first-clause-shape c =
    let e = c.requires.equal.equation in
    let v = term_tree c.args.k.now.store c.args.v in
    passed_on c.from_residual.result c.in_err-first.field-0.0 c.from_residual.ensures.1 (λ h. c.in_err-first.ensures.shape h (record { type = ty_of v; body = close_free e.left 0 v; argument = v; is = c.requires.is e }))

pub returns-in_err-whole-clause-shape : goal.returns-in_err-whole-clause-shape
returns-in_err-whole-clause-shape c =
    let e = c.requires.equal.equation in
    let v = term_tree c.args.k.now.store c.args.v in
    let has = equation_left (subst (λ f. IsFormula f) e.is c.concl-said.ensures.formula) in
    let first = c.in_ok-first.ensures.concl in
    passed_on c.from_residual-in_err-whole.result c.in_err-whole.field-0.0 c.from_residual-in_err-whole.ensures.1 (λ h. c.in_err-whole.ensures.shape h (record {
      type = e.type;
      left = AppTm (abstraction v e.left) v;
      middle = e.left;
      right = e.right;
      first_is = redex_says first.0 e.type v e.left (c.requires.is e) has first.1;
      second_is = c.beta.ensures.keeps.records.concls c.args.a c.requires.equal.there ∙ e.is;
    }))

pub returns-in_err-r-clause-shape : goal.returns-in_err-r-clause-shape
returns-in_err-r-clause-shape c =
    let chain = c.in_ok-whole.ensures.states.0 in
    passed_on c.from_residual-in_err-r.result c.in_err-r.field-0.0 c.from_residual-in_err-r.ensures.1 (λ h. c.in_err-r.ensures.shape h (record { type = chain.type; left = chain.left; right = chain.right; is = c.in_ok-whole.ensures.states.1.concl }))

pub returns-clause-states : goal.returns-clause-states
returns-clause-states c =
    let k = c.args.k.now in
    let e = c.requires.equal.equation in
    let v = term_tree k.store c.args.v in
    let app = AppTm (abstraction v e.left) v in
    let has = equation_left (subst (λ f. IsFormula f) e.is c.concl-said.ensures.formula) in
    let first = c.in_ok-first.ensures.concl in
    let g = c.beta.ensures.keeps in
    let one : concl_of c.beta.new.self c.in_ok-first.first ≡ equation e.type app e.left = redex_says first.0 e.type v e.left (c.requires.is e) has first.1 in
    let two : concl_of c.beta.new.self c.args.a ≡ equation e.type e.left e.right = g.records.concls c.args.a c.requires.equal.there ∙ e.is in
    let whole = after_none c.in_ok-first.first g c.requires.equal.there c.in_ok-first.ensures.hyps c.in_ok-first.ensures.bare c.in_ok-whole.ensures.states.1 in
    let whole_is : concl_of c.trans.new.k c.in_ok-whole.whole ≡ equation e.type app e.right = whole.concl ∙ chain_says c.in_ok-whole.ensures.states.0 e.type e.type app e.left e.left e.right one two in
    let turned = states_through whole c.in_ok-r.ensures.states.1 in
    (e, record { there = turned.there; concl = turned.concl ∙ reversed_says c.in_ok-r.ensures.states.0 e.type app e.right whole_is; hyps = turned.hyps; bare = turned.bare })

pub returns-in_err-first-clause-keeps : goal.returns-in_err-first-clause-keeps
returns-in_err-first-clause-keeps c = c.beta.ensures.keeps

pub returns-in_err-whole-clause-keeps : goal.returns-in_err-whole-clause-keeps
returns-in_err-whole-clause-keeps c = keeps_all_trans c.beta.ensures.keeps c.trans.ensures.keeps

pub returns-in_err-r-clause-keeps : goal.returns-in_err-r-clause-keeps
returns-in_err-r-clause-keeps c = keeps_all_trans (keeps_all_trans c.beta.ensures.keeps c.trans.ensures.keeps) c.sym.ensures.keeps

pub returns-clause-keeps : goal.returns-clause-keeps
returns-clause-keeps c = keeps_all_trans (keeps_all_trans c.beta.ensures.keeps c.trans.ensures.keeps) c.sym.ensures.keeps
