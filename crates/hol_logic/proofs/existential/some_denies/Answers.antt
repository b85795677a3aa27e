use Rattle.std.proofs.Common.{◌≡◌, ◌∙◌, ◌∷◌, [], refl, sym, inl, inr, subst, ap}
use Rattle.hol_terms.specs.Term.{LamTm, ty_of}
use Rattle.hol_terms.specs.TermStore.{term_tree}
use Rattle.hol_terms.specs.Constants.{negation, chosen}
use Rattle.hol_terms.proofs.FormulaLemmas.{has_chosen}
use Rattle.lcf_kernel.specs.KernelState.{concl_of}
use Rattle.lcf_kernel.proofs.KeepLemmas.{keeps_all_trans}
use Rattle.lcf_kernel.proofs.KeptLemmas.{has_kept, term_kept, tree_kept, at_kept}
use Rattle.hol_logic.proofs.StateLemmas.{passed_on}
use Rattle.hol_logic.proofs.UnderLemmas.{under_keeps, formula_kept, formula_at, under_one}
use Rattle.hol_types.specs.TypeStore.{type_tree}
use Rattle.hol_terms.specs.Substitution.{IsClosed, subst_bound}
use Rattle.hol_logic.specs.Quantified.{some_stated}
use Rattle.hol_logic.proofs.QuantifierLemmas.{predicate_has, some_stated_formula, chosen_says, universal_says}
use Rattle.hol_logic.proofs.existential.some_denies.Goals as goal

pub chosen-requires-clause-there : goal.chosen-requires-clause-there
chosen-requires-clause-there c = c.requires.lambda.there

pub chosen-requires-clause-ty : goal.chosen-requires-clause-ty
chosen-requires-clause-ty c = c.requires.predicate.ty

pub chosen-requires-clause-predicate : goal.chosen-requires-clause-predicate
chosen-requires-clause-predicate c = ap (λ t. ty_of t) c.requires.lambda.is ∙ (predicate_has c.requires.predicate).type

pub assumed-requires : goal.assumed-requires
assumed-requires c = formula_kept c.chosen.ensures.keeps (formula_at c.requires.whole (some_stated_formula c.requires.predicate))

pub assumed-requires-2 : goal.assumed-requires-2
assumed-requires-2 c = formula_kept (keeps_all_trans (keeps_all_trans c.chosen.ensures.keeps c.assumed.ensures.keeps) c.choice.ensures.keeps) c.requires.formula

pub choice-requires : goal.choice-requires
choice-requires c = c.in_ok-some.ensures.there

pub all_e-requires-clause-thm : goal.all_e-requires-clause-thm
all_e-requires-clause-thm c = c.in_ok-all.ensures.there

pub all_e-requires-clause-there : goal.all_e-requires-clause-there
all_e-requires-clause-there c = term_kept (keeps_all_trans (keeps_all_trans c.assumed.ensures.keeps c.choice.ensures.keeps) c.assumed-2.ensures.keeps) c.in_ok-witness.ensures.is.there

pub all_e-requires-clause-closed : goal.all_e-requires-clause-closed
all_e-requires-clause-closed c =
    let k = c.args.k.now in
    let ty = type_tree k.store.types c.args.p.ty in
    let b = term_tree k.store c.args.p.body in
    let chosen_is : term_tree c.assumed-2.new.k.store c.in_ok-witness.witness ≡ chosen ty (LamTm ty (b)) = (at_kept (keeps_all_trans (keeps_all_trans c.assumed.ensures.keeps c.choice.ensures.keeps) c.assumed-2.ensures.keeps) c.in_ok-witness.ensures.is).is ∙ ap (λ t. chosen ty t) c.requires.lambda.is in
    subst (λ t. IsClosed t) (sym chosen_is) (has_chosen (predicate_has c.requires.predicate)).term.closed

pub denied-requires-clause-no : goal.denied-requires-clause-no
denied-requires-clause-no c = c.in_ok-no.ensures.there

pub denied-requires-clause-yes : goal.denied-requires-clause-yes
denied-requires-clause-yes c = has_kept (keeps_all_trans c.assumed-2.ensures.keeps c.all_e.ensures.keeps) c.in_ok-yes.ensures.there

pub denied-requires-clause-negated : goal.denied-requires-clause-negated
denied-requires-clause-negated c =
    let k = c.args.k.now in
    let ty = type_tree k.store.types c.args.p.ty in
    let b = term_tree k.store c.args.p.body in
    let chosen_is : term_tree c.assumed-2.new.k.store c.in_ok-witness.witness ≡ chosen ty (LamTm ty (b)) = (at_kept (keeps_all_trans (keeps_all_trans c.assumed.ensures.keeps c.choice.ensures.keeps) c.assumed-2.ensures.keeps) c.in_ok-witness.ensures.is).is ∙ ap (λ t. chosen ty t) c.requires.lambda.is in
    let one : concl_of c.choice.new.self c.in_ok-yes.yes ≡ subst_bound (b) 0 (chosen ty (LamTm ty (b))) = c.in_ok-yes.ensures.concl.1 ∙ chosen_says c.in_ok-yes.ensures.concl.0 (c.in_ok-some.ensures.concl ∙ (at_kept c.chosen.ensures.keeps c.requires.whole).is) in
    let other : concl_of c.all_e.new.self c.in_ok-no.no ≡ subst_bound (negation b) 0 (chosen ty (LamTm ty (b))) = c.in_ok-no.ensures.concl.1 ∙ universal_says {b = negation b} {ty = ty} c.in_ok-no.ensures.concl.0 (c.in_ok-all.ensures.concl ∙ tree_kept (keeps_all_trans (keeps_all_trans c.chosen.ensures.keeps c.assumed.ensures.keeps) c.choice.ensures.keeps) c.requires.formula.there ∙ c.requires.every) ∙ rw chosen_is refl in
    other ∙ sym (ap (λ t. negation t) ((keeps_all_trans c.assumed-2.ensures.keeps c.all_e.ensures.keeps).records.concls c.in_ok-yes.yes c.in_ok-yes.ensures.there ∙ one))

pub denied-requires-clause-formula : goal.denied-requires-clause-formula
denied-requires-clause-formula c = formula_kept (keeps_all_trans (keeps_all_trans (keeps_all_trans (keeps_all_trans c.chosen.ensures.keeps c.assumed.ensures.keeps) c.choice.ensures.keeps) c.assumed-2.ensures.keeps) c.all_e.ensures.keeps) (formula_at c.requires.whole (some_stated_formula c.requires.predicate))

pub returns-clause-concl : goal.returns-clause-concl
returns-clause-concl c = c.in_ok-r.ensures.concl ∙ ap (λ t. negation t) ((at_kept (keeps_all_trans (keeps_all_trans (keeps_all_trans (keeps_all_trans c.chosen.ensures.keeps c.assumed.ensures.keeps) c.choice.ensures.keeps) c.assumed-2.ensures.keeps) c.all_e.ensures.keeps) c.requires.whole).is)

pub returns-clause-under : goal.returns-clause-under
returns-clause-under c =
    let k = c.args.k.now in
    let d = term_tree k.store c.args.d in
    let whole = some_stated k.store c.args.p in
    let given = whole ∷ d ∷ [] in
    let some = rw ((at_kept c.chosen.ensures.keeps c.requires.whole).is) at c.in_ok-some.ensures.under in
    let one = under_one (some given (inl refl)) c.in_ok-yes.ensures.hyps c.in_ok-yes.ensures.bare in
    let all = rw (tree_kept (keeps_all_trans (keeps_all_trans c.chosen.ensures.keeps c.assumed.ensures.keeps) c.choice.ensures.keeps) c.requires.formula.there) at c.in_ok-all.ensures.under in
    let other = under_one (all given (inr (inl refl))) c.in_ok-no.ensures.hyps c.in_ok-no.ensures.bare in
    let denied = rw ((at_kept (keeps_all_trans (keeps_all_trans (keeps_all_trans (keeps_all_trans c.chosen.ensures.keeps c.assumed.ensures.keeps) c.choice.ensures.keeps) c.assumed-2.ensures.keeps) c.all_e.ensures.keeps) c.requires.whole).is) at c.in_ok-r.ensures.under in
    denied (d ∷ []) other (under_keeps (keeps_all_trans c.assumed-2.ensures.keeps c.all_e.ensures.keeps) c.in_ok-yes.ensures.there one)

pub returns-in_err-some-clause-shape : goal.returns-in_err-some-clause-shape
returns-in_err-some-clause-shape c = passed_on c.from_residual-in_err-some.result c.in_err-some.field-0.0 c.from_residual-in_err-some.ensures.1 (λ e. c.in_err-some.ensures.shape e)

pub returns-in_err-yes-clause-shape : goal.returns-in_err-yes-clause-shape
returns-in_err-yes-clause-shape c =
    let k = c.args.k.now in
    let ty = type_tree k.store.types c.args.p.ty in
    let b = term_tree k.store c.args.p.body in
    passed_on c.from_residual-in_err-yes.result c.in_err-yes.field-0.0 c.from_residual-in_err-yes.ensures.1 (λ e. c.in_err-yes.ensures.shape e (record { type = ty; body = b; is = c.in_ok-some.ensures.concl ∙ (at_kept c.chosen.ensures.keeps c.requires.whole).is }))

pub returns-in_err-all-clause-shape : goal.returns-in_err-all-clause-shape
returns-in_err-all-clause-shape c = passed_on c.from_residual-in_err-all.result c.in_err-all.field-0.0 c.from_residual-in_err-all.ensures.1 (λ e. c.in_err-all.ensures.shape e)

pub returns-in_err-no-clause-shape : goal.returns-in_err-no-clause-shape
returns-in_err-no-clause-shape c =
    let k = c.args.k.now in
    let ty = type_tree k.store.types c.args.p.ty in
    let b = term_tree k.store c.args.p.body in
    let chosen_is : term_tree c.assumed-2.new.k.store c.in_ok-witness.witness ≡ chosen ty (LamTm ty (b)) = (at_kept (keeps_all_trans (keeps_all_trans c.assumed.ensures.keeps c.choice.ensures.keeps) c.assumed-2.ensures.keeps) c.in_ok-witness.ensures.is).is ∙ ap (λ t. chosen ty t) c.requires.lambda.is in
    passed_on c.from_residual-in_err-no.result c.in_err-no.field-0.0 c.from_residual-in_err-no.ensures.1 (λ e. c.in_err-no.ensures.shape e (record { predicate = LamTm ty (negation b); is = c.in_ok-all.ensures.concl ∙ tree_kept (keeps_all_trans (keeps_all_trans c.chosen.ensures.keeps c.assumed.ensures.keeps) c.choice.ensures.keeps) c.requires.formula.there ∙ c.requires.every ∙ rw chosen_is refl }))

pub returns-in_err-r-clause-shape : goal.returns-in_err-r-clause-shape
returns-in_err-r-clause-shape c = passed_on c.from_residual-in_err-r.result c.in_err-r.field-0.0 c.from_residual-in_err-r.ensures.1 (λ e. c.in_err-r.ensures.shape e)

pub returns-in_err-witness-clause-keeps : goal.returns-in_err-witness-clause-keeps
returns-in_err-witness-clause-keeps c = c.chosen.ensures.keeps

pub returns-in_err-some-clause-keeps : goal.returns-in_err-some-clause-keeps
returns-in_err-some-clause-keeps c = keeps_all_trans c.chosen.ensures.keeps c.assumed.ensures.keeps

pub returns-in_err-yes-clause-keeps : goal.returns-in_err-yes-clause-keeps
returns-in_err-yes-clause-keeps c = keeps_all_trans (keeps_all_trans c.chosen.ensures.keeps c.assumed.ensures.keeps) c.choice.ensures.keeps

pub returns-in_err-all-clause-keeps : goal.returns-in_err-all-clause-keeps
returns-in_err-all-clause-keeps c = keeps_all_trans (keeps_all_trans (keeps_all_trans c.chosen.ensures.keeps c.assumed.ensures.keeps) c.choice.ensures.keeps) c.assumed-2.ensures.keeps

pub returns-in_err-no-clause-keeps : goal.returns-in_err-no-clause-keeps
returns-in_err-no-clause-keeps c = keeps_all_trans (keeps_all_trans (keeps_all_trans (keeps_all_trans c.chosen.ensures.keeps c.assumed.ensures.keeps) c.choice.ensures.keeps) c.assumed-2.ensures.keeps) c.all_e.ensures.keeps

pub returns-in_err-r-clause-keeps : goal.returns-in_err-r-clause-keeps
returns-in_err-r-clause-keeps c = keeps_all_trans (keeps_all_trans (keeps_all_trans (keeps_all_trans (keeps_all_trans c.chosen.ensures.keeps c.assumed.ensures.keeps) c.choice.ensures.keeps) c.assumed-2.ensures.keeps) c.all_e.ensures.keeps) c.denied.ensures.keeps

pub returns-clause-keeps : goal.returns-clause-keeps
returns-clause-keeps c = keeps_all_trans (keeps_all_trans (keeps_all_trans (keeps_all_trans (keeps_all_trans c.chosen.ensures.keeps c.assumed.ensures.keeps) c.choice.ensures.keeps) c.assumed-2.ensures.keeps) c.all_e.ensures.keeps) c.denied.ensures.keeps
