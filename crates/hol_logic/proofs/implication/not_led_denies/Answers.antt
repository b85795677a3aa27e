use Rattle.std.proofs.Common.{◌≡◌, ◌∙◌, ◌∷◌, [], refl, sym, inl, inr, ap}
use Rattle.hol_terms.specs.TermStore.{term_tree}
use Rattle.hol_terms.specs.Constants.{negation, implication}
use Rattle.hol_terms.proofs.FormulaLemmas.{implication_is_formula}
use Rattle.lcf_kernel.specs.KernelState.{concl_of}
use Rattle.lcf_kernel.proofs.KeepLemmas.{keeps_all_trans}
use Rattle.lcf_kernel.proofs.KeptLemmas.{has_kept, at_kept}
use Rattle.hol_logic.specs.Under.{IsUnder}
use Rattle.hol_logic.proofs.StateLemmas.{passed_on}
use Rattle.hol_logic.proofs.UnderLemmas.{under_keeps, formula_kept, formula_at, under_one, under_two, conjunct_left, conjunct_right, implied_by}
use Rattle.hol_logic.proofs.implication.not_led_denies.Goals as goal

pub assumed-requires : goal.assumed-requires
assumed-requires c = c.requires.formula

pub assumed-requires-2 : goal.assumed-requires-2
assumed-requires-2 c = formula_kept c.assumed.ensures.keeps (formula_at c.requires.whole (implication_is_formula c.requires.formulas.left.formula c.requires.formulas.right.formula))

pub and_e1-requires : goal.and_e1-requires
and_e1-requires c = has_kept c.assumed-2.ensures.keeps c.in_ok-both.ensures.there

pub imp_e-requires-clause-left : goal.imp_e-requires-clause-left
imp_e-requires-clause-left c = has_kept c.and_e1.ensures.keeps c.in_ok-step.ensures.there

pub imp_e-requires-clause-right : goal.imp_e-requires-clause-right
imp_e-requires-clause-right c = c.in_ok-start.ensures.there

pub and_e2-requires : goal.and_e2-requires
and_e2-requires c = has_kept (keeps_all_trans (keeps_all_trans c.assumed-2.ensures.keeps c.and_e1.ensures.keeps) c.imp_e.ensures.keeps) c.in_ok-both.ensures.there

pub denied-requires-clause-no : goal.denied-requires-clause-no
denied-requires-clause-no c = c.in_ok-no.ensures.there

pub denied-requires-clause-yes : goal.denied-requires-clause-yes
denied-requires-clause-yes c = has_kept c.and_e2.ensures.keeps c.in_ok-end.ensures.there

pub denied-requires-clause-formula : goal.denied-requires-clause-formula
denied-requires-clause-formula c = formula_kept (keeps_all_trans (keeps_all_trans (keeps_all_trans (keeps_all_trans c.assumed.ensures.keeps c.assumed-2.ensures.keeps) c.and_e1.ensures.keeps) c.imp_e.ensures.keeps) c.and_e2.ensures.keeps) (formula_at c.requires.whole (implication_is_formula c.requires.formulas.left.formula c.requires.formulas.right.formula))

pub denied-requires-clause-negated : goal.denied-requires-clause-negated
denied-requires-clause-negated c =
    let k = c.args.k.now in
    let a = term_tree k.store c.args.a in
    let b = term_tree k.store c.args.b in
    let both = c.in_ok-both.ensures.concl ∙ c.requires.denies in
    let start : concl_of c.and_e1.new.self c.in_ok-start.start ≡ a = conjunct_left c.in_ok-start.ensures.concl.1 (c.assumed-2.ensures.keeps.records.concls c.in_ok-both.both c.in_ok-both.ensures.there ∙ both) in
    let step : concl_of c.and_e1.new.self c.in_ok-step.step ≡ implication a b = c.and_e1.ensures.keeps.records.concls c.in_ok-step.step c.in_ok-step.ensures.there ∙ c.in_ok-step.ensures.concl ∙ (at_kept c.assumed.ensures.keeps c.requires.whole).is in
    let end : concl_of c.imp_e.new.self c.in_ok-end.end ≡ b = implied_by c.in_ok-end.ensures.concl step in
    let no : concl_of c.and_e2.new.self c.in_ok-no.no ≡ negation b = conjunct_right c.in_ok-no.ensures.concl.1 ((keeps_all_trans (keeps_all_trans c.assumed-2.ensures.keeps c.and_e1.ensures.keeps) c.imp_e.ensures.keeps).records.concls c.in_ok-both.both c.in_ok-both.ensures.there ∙ both) in
    no ∙ sym (ap (λ t. negation t) (c.and_e2.ensures.keeps.records.concls c.in_ok-end.end c.in_ok-end.ensures.there ∙ end))

pub returns-clause-concl : goal.returns-clause-concl
returns-clause-concl c = c.in_ok-r.ensures.concl ∙ ap (λ t. negation t) ((at_kept (keeps_all_trans (keeps_all_trans (keeps_all_trans (keeps_all_trans c.assumed.ensures.keeps c.assumed-2.ensures.keeps) c.and_e1.ensures.keeps) c.imp_e.ensures.keeps) c.and_e2.ensures.keeps) c.requires.whole).is)

pub returns-clause-under : goal.returns-clause-under
returns-clause-under c =
    let k = c.args.k.now in
    let d = term_tree k.store c.args.dual in
    let whole = implication (term_tree k.store c.args.a) (term_tree k.store c.args.b) in
    let given = whole ∷ d ∷ [] in
    let both = c.in_ok-both.ensures.under given (inr (inl refl)) in
    let taken = rw ((at_kept c.assumed.ensures.keeps c.requires.whole).is) at c.in_ok-step.ensures.under in
    let step = taken given (inl refl) in
    let start : IsUnder c.and_e1.new.self c.in_ok-start.start given = under_one (under_keeps c.assumed-2.ensures.keeps c.in_ok-both.ensures.there both) c.in_ok-start.ensures.hyps c.in_ok-start.ensures.bare in
    let end : IsUnder c.imp_e.new.self c.in_ok-end.end given = under_two (under_keeps c.and_e1.ensures.keeps c.in_ok-step.ensures.there step) start c.in_ok-end.ensures.hyps c.in_ok-end.ensures.bare in
    let no : IsUnder c.and_e2.new.self c.in_ok-no.no given = under_one (under_keeps (keeps_all_trans (keeps_all_trans c.assumed-2.ensures.keeps c.and_e1.ensures.keeps) c.imp_e.ensures.keeps) c.in_ok-both.ensures.there both) c.in_ok-no.ensures.hyps c.in_ok-no.ensures.bare in
    let denied = rw ((at_kept (keeps_all_trans (keeps_all_trans (keeps_all_trans (keeps_all_trans c.assumed.ensures.keeps c.assumed-2.ensures.keeps) c.and_e1.ensures.keeps) c.imp_e.ensures.keeps) c.and_e2.ensures.keeps) c.requires.whole).is) at c.in_ok-r.ensures.under in
    denied (d ∷ []) no (under_keeps c.and_e2.ensures.keeps c.in_ok-end.ensures.there end)

pub returns-in_err-both-clause-shape : goal.returns-in_err-both-clause-shape
returns-in_err-both-clause-shape c = passed_on c.from_residual.result c.in_err-both.field-0.0 c.from_residual.ensures.1 (λ e. c.in_err-both.ensures.shape e)

pub returns-in_err-step-clause-shape : goal.returns-in_err-step-clause-shape
returns-in_err-step-clause-shape c = passed_on c.from_residual-in_err-step.result c.in_err-step.field-0.0 c.from_residual-in_err-step.ensures.1 (λ e. c.in_err-step.ensures.shape e)

pub returns-in_err-start-clause-shape : goal.returns-in_err-start-clause-shape
returns-in_err-start-clause-shape c =
    let k = c.args.k.now in
    let a = term_tree k.store c.args.a in
    let b = term_tree k.store c.args.b in
    let both = c.in_ok-both.ensures.concl ∙ c.requires.denies in
    passed_on c.from_residual-in_err-start.result c.in_err-start.field-0.0 c.from_residual-in_err-start.ensures.1 (λ e. c.in_err-start.ensures.shape e a (negation b) (c.assumed-2.ensures.keeps.records.concls c.in_ok-both.both c.in_ok-both.ensures.there ∙ both))

pub returns-in_err-end-clause-shape : goal.returns-in_err-end-clause-shape
returns-in_err-end-clause-shape c =
    let k = c.args.k.now in
    let a = term_tree k.store c.args.a in
    let b = term_tree k.store c.args.b in
    let both = c.in_ok-both.ensures.concl ∙ c.requires.denies in
    let start : concl_of c.and_e1.new.self c.in_ok-start.start ≡ a = conjunct_left c.in_ok-start.ensures.concl.1 (c.assumed-2.ensures.keeps.records.concls c.in_ok-both.both c.in_ok-both.ensures.there ∙ both) in
    let step : concl_of c.and_e1.new.self c.in_ok-step.step ≡ implication a b = c.and_e1.ensures.keeps.records.concls c.in_ok-step.step c.in_ok-step.ensures.there ∙ c.in_ok-step.ensures.concl ∙ (at_kept c.assumed.ensures.keeps c.requires.whole).is in
    passed_on c.from_residual-in_err-end.result c.in_err-end.field-0.0 c.from_residual-in_err-end.ensures.1 (λ e. c.in_err-end.ensures.shape e b (step ∙ ap (λ t. implication t b) (sym start)))

pub returns-in_err-no-clause-shape : goal.returns-in_err-no-clause-shape
returns-in_err-no-clause-shape c =
    let k = c.args.k.now in
    let a = term_tree k.store c.args.a in
    let b = term_tree k.store c.args.b in
    let both = c.in_ok-both.ensures.concl ∙ c.requires.denies in
    passed_on c.from_residual-in_err-no.result c.in_err-no.field-0.0 c.from_residual-in_err-no.ensures.1 (λ e. c.in_err-no.ensures.shape e a (negation b) ((keeps_all_trans (keeps_all_trans c.assumed-2.ensures.keeps c.and_e1.ensures.keeps) c.imp_e.ensures.keeps).records.concls c.in_ok-both.both c.in_ok-both.ensures.there ∙ both))

pub returns-in_err-r-clause-shape : goal.returns-in_err-r-clause-shape
returns-in_err-r-clause-shape c = passed_on c.from_residual-in_err-r.result c.in_err-r.field-0.0 c.from_residual-in_err-r.ensures.1 (λ e. c.in_err-r.ensures.shape e)

pub returns-in_err-both-clause-keeps : goal.returns-in_err-both-clause-keeps
returns-in_err-both-clause-keeps c = c.assumed.ensures.keeps

pub returns-in_err-step-clause-keeps : goal.returns-in_err-step-clause-keeps
returns-in_err-step-clause-keeps c = keeps_all_trans c.assumed.ensures.keeps c.assumed-2.ensures.keeps

pub returns-in_err-start-clause-keeps : goal.returns-in_err-start-clause-keeps
returns-in_err-start-clause-keeps c = keeps_all_trans (keeps_all_trans c.assumed.ensures.keeps c.assumed-2.ensures.keeps) c.and_e1.ensures.keeps

pub returns-in_err-end-clause-keeps : goal.returns-in_err-end-clause-keeps
returns-in_err-end-clause-keeps c = keeps_all_trans (keeps_all_trans (keeps_all_trans c.assumed.ensures.keeps c.assumed-2.ensures.keeps) c.and_e1.ensures.keeps) c.imp_e.ensures.keeps

pub returns-in_err-no-clause-keeps : goal.returns-in_err-no-clause-keeps
returns-in_err-no-clause-keeps c = keeps_all_trans (keeps_all_trans (keeps_all_trans (keeps_all_trans c.assumed.ensures.keeps c.assumed-2.ensures.keeps) c.and_e1.ensures.keeps) c.imp_e.ensures.keeps) c.and_e2.ensures.keeps

pub returns-in_err-r-clause-keeps : goal.returns-in_err-r-clause-keeps
returns-in_err-r-clause-keeps c = keeps_all_trans (keeps_all_trans (keeps_all_trans (keeps_all_trans (keeps_all_trans c.assumed.ensures.keeps c.assumed-2.ensures.keeps) c.and_e1.ensures.keeps) c.imp_e.ensures.keeps) c.and_e2.ensures.keeps) c.denied.ensures.keeps

pub returns-clause-keeps : goal.returns-clause-keeps
returns-clause-keeps c = keeps_all_trans (keeps_all_trans (keeps_all_trans (keeps_all_trans (keeps_all_trans c.assumed.ensures.keeps c.assumed-2.ensures.keeps) c.and_e1.ensures.keeps) c.imp_e.ensures.keeps) c.and_e2.ensures.keeps) c.denied.ensures.keeps
