use Rattle.std.proofs.Common.{◌≡◌, ◌∙◌, refl}
use Rattle.hol_terms.specs.TermStore.{term_tree}
use Rattle.hol_terms.specs.Formula.{NotFreeIn}
use Rattle.hol_terms.specs.Constants.{negation}
use Rattle.lcf_kernel.specs.KernelState.{concl_of}
use Rattle.lcf_kernel.proofs.KeepLemmas.{keeps_all_trans}
use Rattle.lcf_kernel.proofs.KeptLemmas.{term_kept, tree_kept, at_kept}
use Rattle.hol_logic.proofs.StateLemmas.{passed_on}
use Rattle.hol_logic.proofs.UnderLemmas.{formula_kept, under_one}
use Rattle.hol_types.specs.TypeStore.{type_tree}
use Rattle.hol_terms.specs.Substitution.{subst_bound}
use Rattle.hol_logic.specs.Quantified.{IsFresh}
use Rattle.hol_logic.proofs.QuantifierLemmas.{type_kept, body_kept, predicate_kept, some_stated_kept, closed_over, fresh_general}
use Rattle.hol_logic.proofs.existential.not_some.Goals as goal

pub fresh-requires-clause-ty : goal.fresh-requires-clause-ty
fresh-requires-clause-ty c = c.requires.predicate.ty

pub fresh-requires-clause-there : goal.fresh-requires-clause-there
fresh-requires-clause-there c = c.requires.predicate.body

pub none_stated-requires-clause-predicate : goal.none_stated-requires-clause-predicate
none_stated-requires-clause-predicate c = predicate_kept c.fresh.ensures.keeps c.requires.predicate

pub none_stated-requires-clause-variable : goal.none_stated-requires-clause-variable
none_stated-requires-clause-variable c = c.in_ok-v.ensures.there

pub none_stated-requires-clause-fresh : goal.none_stated-requires-clause-fresh
none_stated-requires-clause-fresh c = rw (type_kept c.fresh.ensures.keeps c.requires.predicate, body_kept c.fresh.ensures.keeps c.requires.predicate) c.in_ok-v.ensures.is

pub none_stated-requires-clause-formula : goal.none_stated-requires-clause-formula
none_stated-requires-clause-formula c = formula_kept c.fresh.ensures.keeps c.requires.formula

pub none_stated-requires-clause-denies : goal.none_stated-requires-clause-denies
none_stated-requires-clause-denies c = rw (some_stated_kept c.fresh.ensures.keeps c.requires.predicate) (tree_kept c.fresh.ensures.keeps c.requires.formula.there ∙ c.requires.denies)

pub none_stated-requires-clause-whole : goal.none_stated-requires-clause-whole
none_stated-requires-clause-whole c = rw (some_stated_kept c.fresh.ensures.keeps c.requires.predicate) (at_kept c.fresh.ensures.keeps c.requires.whole)

pub all_i-requires-clause-thm : goal.all_i-requires-clause-thm
all_i-requires-clause-thm c = c.in_ok-one.ensures.there

pub all_i-requires-clause-there : goal.all_i-requires-clause-there
all_i-requires-clause-there c = term_kept c.none_stated.ensures.keeps c.in_ok-v.ensures.there

pub returns-clause-concl : goal.returns-clause-concl
returns-clause-concl c =
    let k = c.args.k.now in
    let ty = type_tree k.store.types c.args.p.ty in
    let b = term_tree k.store c.args.p.body in
    let v = term_tree c.none_stated.new.k.store c.in_ok-v.v in
    let fresh : IsFresh v ty (negation b) = let own : IsFresh v ty b = rw (tree_kept c.none_stated.ensures.keeps c.in_ok-v.ensures.there) c.in_ok-v.ensures.is in record { name = own.name; is = own.is; absent = own.absent } in
    let said : concl_of c.none_stated.new.k c.in_ok-one.one ≡ subst_bound (negation b) 0 v = c.in_ok-one.ensures.concl ∙ rw (body_kept c.fresh.ensures.keeps c.requires.predicate, tree_kept c.none_stated.ensures.keeps c.in_ok-v.ensures.there) refl in
    c.in_ok-r.ensures.concl ∙ closed_over fresh (tt, c.requires.predicate.lambda.typed.1) said

pub returns-clause-under : goal.returns-clause-under
returns-clause-under c =
    let one = rw (tree_kept c.fresh.ensures.keeps c.requires.formula.there) at c.in_ok-one.ensures.under in
    under_one one c.in_ok-r.ensures.hyps c.in_ok-r.ensures.bare

pub returns-in_err-one-clause-shape : goal.returns-in_err-one-clause-shape
returns-in_err-one-clause-shape c = passed_on c.from_residual-in_err-one.result c.in_err-one.field-0.0 c.from_residual-in_err-one.ensures.1 (λ e. c.in_err-one.ensures.shape e)

pub returns-in_err-r-clause-shape : goal.returns-in_err-r-clause-shape
returns-in_err-r-clause-shape c =
    let k = c.args.k.now in
    let ty = type_tree k.store.types c.args.p.ty in
    let b = term_tree k.store c.args.p.body in
    let fresh : IsFresh (term_tree c.none_stated.new.k.store c.in_ok-v.v) ty b = rw (tree_kept c.none_stated.ensures.keeps c.in_ok-v.ensures.there) c.in_ok-v.ensures.is in
    let one = rw (tree_kept c.fresh.ensures.keeps c.requires.formula.there) at c.in_ok-one.ensures.under in
    let absent : NotFreeIn (term_tree c.none_stated.new.k.store c.in_ok-v.v) (term_tree k.store c.args.t) = rw c.requires.denies fresh.absent in
    passed_on c.from_residual-in_err-r.result c.in_err-r.field-0.0 c.from_residual-in_err-r.ensures.1 (λ e. c.in_err-r.ensures.shape e (fresh_general c.concl-said.ensures.lawful fresh absent one))

pub returns-in_err-v-clause-keeps : goal.returns-in_err-v-clause-keeps
returns-in_err-v-clause-keeps c = c.fresh.ensures.keeps

pub returns-in_err-one-clause-keeps : goal.returns-in_err-one-clause-keeps
returns-in_err-one-clause-keeps c = keeps_all_trans c.fresh.ensures.keeps c.none_stated.ensures.keeps

pub returns-in_err-r-clause-keeps : goal.returns-in_err-r-clause-keeps
returns-in_err-r-clause-keeps c = keeps_all_trans (keeps_all_trans c.fresh.ensures.keeps c.none_stated.ensures.keeps) c.all_i.ensures.keeps

pub returns-clause-keeps : goal.returns-clause-keeps
returns-clause-keeps c = keeps_all_trans (keeps_all_trans c.fresh.ensures.keeps c.none_stated.ensures.keeps) c.all_i.ensures.keeps
