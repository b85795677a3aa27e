use Rattle.std.proofs.Common.{◌≡◌, ◌∙◌, sym}
use Rattle.hol_terms.specs.TermStore.{term_tree}
use Rattle.hol_terms.specs.Constants.{negation, false_tm}
use Rattle.lcf_kernel.specs.KernelState.{concl_of}
use Rattle.lcf_kernel.proofs.KeepLemmas.{keeps_all_trans}
use Rattle.lcf_kernel.proofs.KeptLemmas.{has_kept, tree_kept}
use Rattle.hol_logic.proofs.StateLemmas.{passed_on}
use Rattle.hol_logic.proofs.UnderLemmas.{under_keeps, denials_kept, under_cases}
use Rattle.hol_logic.proofs.conjunction.refuted.Goals as goal

pub left_refuted-requires-clause-both : goal.left_refuted-requires-clause-both
left_refuted-requires-clause-both c = c.requires.both

pub left_refuted-requires-clause-says : goal.left_refuted-requires-clause-says
left_refuted-requires-clause-says c = c.requires.says

pub left_refuted-requires-clause-denials : goal.left_refuted-requires-clause-denials
left_refuted-requires-clause-denials c = c.requires.denials

pub right_refuted-requires-clause-both : goal.right_refuted-requires-clause-both
right_refuted-requires-clause-both c = has_kept c.left_refuted.ensures.keeps c.requires.both

pub right_refuted-requires-clause-says : goal.right_refuted-requires-clause-says
right_refuted-requires-clause-says c = rw (tree_kept c.left_refuted.ensures.keeps c.requires.denials.sides.left.there, tree_kept c.left_refuted.ensures.keeps c.requires.denials.sides.right.there) (c.left_refuted.ensures.keeps.records.concls c.args.both c.requires.both ∙ c.requires.says)

pub right_refuted-requires-clause-denials : goal.right_refuted-requires-clause-denials
right_refuted-requires-clause-denials c = denials_kept c.left_refuted.ensures.keeps c.requires.denials

pub or_e-requires-clause-either : goal.or_e-requires-clause-either
or_e-requires-clause-either c = has_kept (keeps_all_trans c.left_refuted.ensures.keeps c.right_refuted.ensures.keeps) c.requires.either

pub or_e-requires-clause-first : goal.or_e-requires-clause-first
or_e-requires-clause-first c = has_kept c.right_refuted.ensures.keeps c.in_ok-first.ensures.there

pub or_e-requires-clause-second : goal.or_e-requires-clause-second
or_e-requires-clause-second c = c.in_ok-second.ensures.there

pub returns-clause-concl : goal.returns-clause-concl
returns-clause-concl c = c.in_ok-r.ensures.concl ∙ c.right_refuted.ensures.keeps.records.concls c.in_ok-first.first c.in_ok-first.ensures.there ∙ c.in_ok-first.ensures.concl

pub returns-clause-under : goal.returns-clause-under
returns-clause-under c hyps u v =
    let k = c.args.k.now in
    let first = c.in_ok-first.ensures.under hyps v in
    let second = rw (tree_kept c.left_refuted.ensures.keeps c.requires.denials.sides.right.there) at c.in_ok-second.ensures.under in
    under_cases (under_keeps (keeps_all_trans c.left_refuted.ensures.keeps c.right_refuted.ensures.keeps) c.requires.either u) (under_keeps c.right_refuted.ensures.keeps c.in_ok-first.ensures.there first) (second hyps (under_keeps c.left_refuted.ensures.keeps c.requires.both v)) (c.in_ok-r.ensures.hyps (negation (term_tree k.store c.args.a)) (negation (term_tree k.store c.args.b)) ((keeps_all_trans c.left_refuted.ensures.keeps c.right_refuted.ensures.keeps).records.concls c.args.either c.requires.either ∙ c.requires.denies)) c.in_ok-r.ensures.bare

pub returns-in_err-first-clause-shape : goal.returns-in_err-first-clause-shape
returns-in_err-first-clause-shape c = passed_on c.from_residual.result c.in_err-first.field-0.0 c.from_residual.ensures.1 (λ e. c.in_err-first.ensures.shape e)

pub returns-in_err-second-clause-shape : goal.returns-in_err-second-clause-shape
returns-in_err-second-clause-shape c = passed_on c.from_residual-in_err-second.result c.in_err-second.field-0.0 c.from_residual-in_err-second.ensures.1 (λ e. c.in_err-second.ensures.shape e)

pub returns-in_err-r-clause-shape : goal.returns-in_err-r-clause-shape
returns-in_err-r-clause-shape c =
    let k = c.args.k.now in
    let m = c.right_refuted.new.k in
    let one : concl_of m c.in_ok-first.first ≡ false_tm = c.right_refuted.ensures.keeps.records.concls c.in_ok-first.first c.in_ok-first.ensures.there ∙ c.in_ok-first.ensures.concl in
    passed_on c.from_residual-in_err-r.result c.in_err-r.field-0.0 c.from_residual-in_err-r.ensures.1 (λ e. c.in_err-r.ensures.shape e (record { left = negation (term_tree k.store c.args.a); right = negation (term_tree k.store c.args.b); either = (keeps_all_trans c.left_refuted.ensures.keeps c.right_refuted.ensures.keeps).records.concls c.args.either c.requires.either ∙ c.requires.denies; same = c.in_ok-second.ensures.concl ∙ sym one }))

pub returns-in_err-first-clause-keeps : goal.returns-in_err-first-clause-keeps
returns-in_err-first-clause-keeps c = c.left_refuted.ensures.keeps

pub returns-in_err-second-clause-keeps : goal.returns-in_err-second-clause-keeps
returns-in_err-second-clause-keeps c = keeps_all_trans c.left_refuted.ensures.keeps c.right_refuted.ensures.keeps

pub returns-in_err-r-clause-keeps : goal.returns-in_err-r-clause-keeps
returns-in_err-r-clause-keeps c = keeps_all_trans (keeps_all_trans c.left_refuted.ensures.keeps c.right_refuted.ensures.keeps) c.or_e.ensures.keeps

pub returns-clause-keeps : goal.returns-clause-keeps
returns-clause-keeps c = keeps_all_trans (keeps_all_trans c.left_refuted.ensures.keeps c.right_refuted.ensures.keeps) c.or_e.ensures.keeps
