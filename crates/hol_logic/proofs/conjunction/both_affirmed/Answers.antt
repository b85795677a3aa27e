use Rattle.std.proofs.Common.{◌≡◌, ◌∙◌, ◌∷◌, [], refl, inl}
use Rattle.hol_terms.specs.TermStore.{term_tree}
use Rattle.lcf_kernel.specs.KernelState.{concl_of}
use Rattle.lcf_kernel.proofs.KeepLemmas.{keeps_all_trans}
use Rattle.lcf_kernel.proofs.KeptLemmas.{has_kept, tree_kept}
use Rattle.hol_logic.proofs.StateLemmas.{passed_on}
use Rattle.hol_logic.proofs.UnderLemmas.{under_keeps, denials_kept, under_two}
use Rattle.hol_logic.proofs.conjunction.both_affirmed.Goals as goal

pub assumed-requires : goal.assumed-requires
assumed-requires c = c.requires.formula

pub left_affirmed-requires-clause-no : goal.left_affirmed-requires-clause-no
left_affirmed-requires-clause-no c = c.in_ok-no.ensures.there

pub left_affirmed-requires-clause-denies : goal.left_affirmed-requires-clause-denies
left_affirmed-requires-clause-denies c = rw (tree_kept c.assumed.ensures.keeps c.requires.denials.sides.left.there, tree_kept c.assumed.ensures.keeps c.requires.denials.sides.right.there) (c.in_ok-no.ensures.concl ∙ c.requires.denies)

pub left_affirmed-requires-clause-denials : goal.left_affirmed-requires-clause-denials
left_affirmed-requires-clause-denials c = denials_kept c.assumed.ensures.keeps c.requires.denials

pub right_affirmed-requires-clause-no : goal.right_affirmed-requires-clause-no
right_affirmed-requires-clause-no c = has_kept c.left_affirmed.ensures.keeps c.in_ok-no.ensures.there

pub right_affirmed-requires-clause-denies : goal.right_affirmed-requires-clause-denies
right_affirmed-requires-clause-denies c = rw (tree_kept (keeps_all_trans c.assumed.ensures.keeps c.left_affirmed.ensures.keeps) c.requires.denials.sides.left.there, tree_kept (keeps_all_trans c.assumed.ensures.keeps c.left_affirmed.ensures.keeps) c.requires.denials.sides.right.there) (c.left_affirmed.ensures.keeps.records.concls c.in_ok-no.no c.in_ok-no.ensures.there ∙ c.in_ok-no.ensures.concl ∙ c.requires.denies)

pub right_affirmed-requires-clause-denials : goal.right_affirmed-requires-clause-denials
right_affirmed-requires-clause-denials c = denials_kept (keeps_all_trans c.assumed.ensures.keeps c.left_affirmed.ensures.keeps) c.requires.denials

pub and_i-requires-clause-left : goal.and_i-requires-clause-left
and_i-requires-clause-left c = has_kept c.right_affirmed.ensures.keeps c.in_ok-first.ensures.there

pub and_i-requires-clause-right : goal.and_i-requires-clause-right
and_i-requires-clause-right c = c.in_ok-second.ensures.there

pub returns-clause-concl : goal.returns-clause-concl
returns-clause-concl c =
    let k = c.args.k.now in
    let m = c.right_affirmed.new.k in
    let one : concl_of m c.in_ok-first.first ≡ term_tree k.store c.args.a = c.right_affirmed.ensures.keeps.records.concls c.in_ok-first.first c.in_ok-first.ensures.there ∙ c.in_ok-first.ensures.concl ∙ tree_kept c.assumed.ensures.keeps c.requires.denials.sides.left.there in
    let other : concl_of m c.in_ok-second.second ≡ term_tree k.store c.args.b = c.in_ok-second.ensures.concl ∙ tree_kept (keeps_all_trans c.assumed.ensures.keeps c.left_affirmed.ensures.keeps) c.requires.denials.sides.right.there in
    c.in_ok-r.ensures.concl ∙ rw (one, other) refl

pub returns-clause-under : goal.returns-clause-under
returns-clause-under c =
    let given = term_tree c.args.k.now.store c.args.opposite ∷ [] in
    let no = c.in_ok-no.ensures.under given (inl refl) in
    let first = c.in_ok-first.ensures.under given no in
    let second = c.in_ok-second.ensures.under given (under_keeps c.left_affirmed.ensures.keeps c.in_ok-no.ensures.there no) in
    under_two (under_keeps c.right_affirmed.ensures.keeps c.in_ok-first.ensures.there first) second c.in_ok-r.ensures.hyps c.in_ok-r.ensures.bare

pub returns-in_err-no-clause-shape : goal.returns-in_err-no-clause-shape
returns-in_err-no-clause-shape c = passed_on c.from_residual.result c.in_err-no.field-0.0 c.from_residual.ensures.1 (λ e. c.in_err-no.ensures.shape e)

pub returns-in_err-first-clause-shape : goal.returns-in_err-first-clause-shape
returns-in_err-first-clause-shape c = passed_on c.from_residual-in_err-first.result c.in_err-first.field-0.0 c.from_residual-in_err-first.ensures.1 (λ e. c.in_err-first.ensures.shape e)

pub returns-in_err-second-clause-shape : goal.returns-in_err-second-clause-shape
returns-in_err-second-clause-shape c = passed_on c.from_residual-in_err-second.result c.in_err-second.field-0.0 c.from_residual-in_err-second.ensures.1 (λ e. c.in_err-second.ensures.shape e)

pub returns-in_err-r-clause-shape : goal.returns-in_err-r-clause-shape
returns-in_err-r-clause-shape c = passed_on c.from_residual-in_err-r.result c.in_err-r.field-0.0 c.from_residual-in_err-r.ensures.1 (λ e. c.in_err-r.ensures.shape e)

pub returns-in_err-no-clause-keeps : goal.returns-in_err-no-clause-keeps
returns-in_err-no-clause-keeps c = c.assumed.ensures.keeps

pub returns-in_err-first-clause-keeps : goal.returns-in_err-first-clause-keeps
returns-in_err-first-clause-keeps c = keeps_all_trans c.assumed.ensures.keeps c.left_affirmed.ensures.keeps

pub returns-in_err-second-clause-keeps : goal.returns-in_err-second-clause-keeps
returns-in_err-second-clause-keeps c = keeps_all_trans (keeps_all_trans c.assumed.ensures.keeps c.left_affirmed.ensures.keeps) c.right_affirmed.ensures.keeps

pub returns-in_err-r-clause-keeps : goal.returns-in_err-r-clause-keeps
returns-in_err-r-clause-keeps c = keeps_all_trans (keeps_all_trans (keeps_all_trans c.assumed.ensures.keeps c.left_affirmed.ensures.keeps) c.right_affirmed.ensures.keeps) c.and_i.ensures.keeps

pub returns-clause-keeps : goal.returns-clause-keeps
returns-clause-keeps c = keeps_all_trans (keeps_all_trans (keeps_all_trans c.assumed.ensures.keeps c.left_affirmed.ensures.keeps) c.right_affirmed.ensures.keeps) c.and_i.ensures.keeps
