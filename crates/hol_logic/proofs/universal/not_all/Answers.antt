use Rattle.std.proofs.Common.{◌∙◌, ◌∷◌, [], refl, sym, inl, inr, ap}
use Rattle.hol_terms.specs.TermStore.{term_tree}
use Rattle.hol_terms.specs.Constants.{negation}
use Rattle.lcf_kernel.proofs.KeepLemmas.{keeps_all_trans}
use Rattle.lcf_kernel.proofs.KeptLemmas.{has_kept, tree_kept, at_kept}
use Rattle.hol_logic.proofs.StateLemmas.{passed_on}
use Rattle.hol_logic.proofs.UnderLemmas.{under_keeps, formula_kept, formula_at, under_all}
use Rattle.hol_logic.specs.Quantified.{some_contrary}
use Rattle.hol_logic.proofs.QuantifierLemmas.{predicate_kept, all_stated_kept, some_contrary_kept, some_contrary_formula}
use Rattle.hol_logic.proofs.universal.not_all.Goals as goal

pub negated-requires-clause-there : goal.negated-requires-clause-there
negated-requires-clause-there c = c.requires.some.there

pub negated-requires-clause-bool : goal.negated-requires-clause-bool
negated-requires-clause-bool c = (formula_at c.requires.some (some_contrary_formula c.requires.predicate)).formula.bool

pub each_stated-requires-clause-predicate : goal.each_stated-requires-clause-predicate
each_stated-requires-clause-predicate c = predicate_kept c.negated.ensures.keeps c.requires.predicate

pub each_stated-requires-clause-some : goal.each_stated-requires-clause-some
each_stated-requires-clause-some c = rw (some_contrary_kept c.negated.ensures.keeps c.requires.predicate) (at_kept c.negated.ensures.keeps c.requires.some)

pub each_stated-requires-clause-opposite : goal.each_stated-requires-clause-opposite
each_stated-requires-clause-opposite c = rw (some_contrary_kept c.negated.ensures.keeps c.requires.predicate) (rw c.requires.some.is at c.in_ok-opposite.ensures.is)

pub assumed-requires : goal.assumed-requires
assumed-requires c = formula_kept (keeps_all_trans c.negated.ensures.keeps c.each_stated.ensures.keeps) c.requires.formula

pub affirmed-requires-clause-no : goal.affirmed-requires-clause-no
affirmed-requires-clause-no c = c.in_ok-no.ensures.there

pub affirmed-requires-clause-yes : goal.affirmed-requires-clause-yes
affirmed-requires-clause-yes c = has_kept c.assumed.ensures.keeps c.in_ok-every.ensures.there

pub affirmed-requires-clause-formula : goal.affirmed-requires-clause-formula
affirmed-requires-clause-formula c = formula_kept (keeps_all_trans (keeps_all_trans c.negated.ensures.keeps c.each_stated.ensures.keeps) c.assumed.ensures.keeps) (formula_at c.requires.some (some_contrary_formula c.requires.predicate))

pub affirmed-requires-clause-negated : goal.affirmed-requires-clause-negated
affirmed-requires-clause-negated c =
    let every = c.assumed.ensures.keeps.records.concls c.in_ok-every.every c.in_ok-every.ensures.there ∙ c.in_ok-every.ensures.concl ∙ all_stated_kept c.negated.ensures.keeps c.requires.predicate in
    c.in_ok-no.ensures.concl ∙ tree_kept (keeps_all_trans c.negated.ensures.keeps c.each_stated.ensures.keeps) c.requires.formula.there ∙ c.requires.denies ∙ sym (ap (λ t. negation t) (every))

pub returns-clause-concl : goal.returns-clause-concl
returns-clause-concl c = c.in_ok-r.ensures.concl ∙ (at_kept (keeps_all_trans (keeps_all_trans c.negated.ensures.keeps c.each_stated.ensures.keeps) c.assumed.ensures.keeps) c.requires.some).is

pub returns-clause-under : goal.returns-clause-under
returns-clause-under c =
    let k = c.args.k.now in
    let d = some_contrary k.store c.args.p in
    let t = term_tree k.store c.args.t in
    let given = negation d ∷ t ∷ [] in
    let every = rw (some_contrary_kept c.negated.ensures.keeps c.requires.predicate) at c.in_ok-every.ensures.under in
    let taken = rw (tree_kept (keeps_all_trans c.negated.ensures.keeps c.each_stated.ensures.keeps) c.requires.formula.there) at c.in_ok-no.ensures.under in
    let affirmed = rw ((at_kept (keeps_all_trans (keeps_all_trans c.negated.ensures.keeps c.each_stated.ensures.keeps) c.assumed.ensures.keeps) c.requires.some).is) at c.in_ok-r.ensures.under in
    affirmed (t ∷ []) (taken given (inr (inl refl))) (under_keeps c.assumed.ensures.keeps c.in_ok-every.ensures.there (under_all every))

pub returns-in_err-every-clause-shape : goal.returns-in_err-every-clause-shape
returns-in_err-every-clause-shape c = passed_on c.from_residual-in_err-every.result c.in_err-every.field-0.0 c.from_residual-in_err-every.ensures.1 (λ e. c.in_err-every.ensures.shape e)

pub returns-in_err-no-clause-shape : goal.returns-in_err-no-clause-shape
returns-in_err-no-clause-shape c = passed_on c.from_residual-in_err-no.result c.in_err-no.field-0.0 c.from_residual-in_err-no.ensures.1 (λ e. c.in_err-no.ensures.shape e)

pub returns-in_err-r-clause-shape : goal.returns-in_err-r-clause-shape
returns-in_err-r-clause-shape c = passed_on c.from_residual-in_err-r.result c.in_err-r.field-0.0 c.from_residual-in_err-r.ensures.1 (λ e. c.in_err-r.ensures.shape e)

pub returns-in_err-opposite-clause-keeps : goal.returns-in_err-opposite-clause-keeps
returns-in_err-opposite-clause-keeps c = c.negated.ensures.keeps

pub returns-in_err-every-clause-keeps : goal.returns-in_err-every-clause-keeps
returns-in_err-every-clause-keeps c = keeps_all_trans c.negated.ensures.keeps c.each_stated.ensures.keeps

pub returns-in_err-no-clause-keeps : goal.returns-in_err-no-clause-keeps
returns-in_err-no-clause-keeps c = keeps_all_trans (keeps_all_trans c.negated.ensures.keeps c.each_stated.ensures.keeps) c.assumed.ensures.keeps

pub returns-in_err-r-clause-keeps : goal.returns-in_err-r-clause-keeps
returns-in_err-r-clause-keeps c = keeps_all_trans (keeps_all_trans (keeps_all_trans c.negated.ensures.keeps c.each_stated.ensures.keeps) c.assumed.ensures.keeps) c.affirmed.ensures.keeps

pub returns-clause-keeps : goal.returns-clause-keeps
returns-clause-keeps c = keeps_all_trans (keeps_all_trans (keeps_all_trans c.negated.ensures.keeps c.each_stated.ensures.keeps) c.assumed.ensures.keeps) c.affirmed.ensures.keeps
