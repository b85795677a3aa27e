use Rattle.std.proofs.Common.{◌∙◌, sym, subst}
use Rattle.hol_terms.specs.Term.{ty_of}
use Rattle.hol_terms.specs.TermStore.{term_tree}
use Rattle.hol_terms.specs.Substitution.{IsClosed, subst_bound}
use Rattle.lcf_kernel.proofs.KeepLemmas.{keeps_all_trans}
use Rattle.lcf_kernel.proofs.KeptLemmas.{term_kept, tree_kept}
use Rattle.hol_logic.proofs.StateLemmas.{equates_keep, bare_keeps, left_has, beside_none}
use Rattle.hol_logic.proofs.BodyLemmas.{lambda_is, in_equation, in_closed, body_in, start_has, opened_beside}
use Rattle.hol_logic.proofs.equality.carried.Goals as goal

pub opened-requires-clause-new : goal.opened-requires-clause-new
opened-requires-clause-new c = c.requires.equates.left

pub opened-requires-clause-closed : goal.opened-requires-clause-closed
opened-requires-clause-closed c = (left_has c.requires.equates).term.closed

pub opened-requires-clause-fits : goal.opened-requires-clause-fits
opened-requires-clause-fits c = c.requires.function.typed.1

pub refl-requires-clause-there : goal.refl-requires-clause-there
refl-requires-clause-there c = c.in_ok-start.ensures.is.there

pub refl-requires-clause-closed : goal.refl-requires-clause-closed
refl-requires-clause-closed c = subst (λ t. IsClosed t) (sym c.in_ok-start.ensures.is.is) (start_has c.requires.function (left_has c.requires.equates)).term.closed

pub equal-requires-clause-left : goal.equal-requires-clause-left
equal-requires-clause-left c = term_kept c.refl.ensures.keeps c.in_ok-start.ensures.is.there

pub equal-requires-clause-right : goal.equal-requires-clause-right
equal-requires-clause-right c = term_kept (keeps_all_trans c.opened.ensures.keeps c.refl.ensures.keeps) c.requires.body

pub equal-requires-clause-same : goal.equal-requires-clause-same
equal-requires-clause-same c =
    let start = tree_kept c.refl.ensures.keeps c.in_ok-start.ensures.is.there ∙ c.in_ok-start.ensures.is.is in
    let body = tree_kept (keeps_all_trans c.opened.ensures.keeps c.refl.ensures.keeps) c.requires.body in
    rw (start, body) (sym (start_has c.requires.function (left_has c.requires.equates)).type)

pub rewritten-requires-clause-equates : goal.rewritten-requires-clause-equates
rewritten-requires-clause-equates c = equates_keep (keeps_all_trans (keeps_all_trans c.opened.ensures.keeps c.refl.ensures.keeps) c.equal.ensures.keeps) c.requires.equates

pub rewritten-requires-clause-thm : goal.rewritten-requires-clause-thm
rewritten-requires-clause-thm c = c.equal.ensures.keeps.records.has c.in_ok-same.same c.in_ok-same.ensures.there

pub rewritten-requires-clause-body : goal.rewritten-requires-clause-body
rewritten-requires-clause-body c = c.in_ok-whole.ensures.is.there

pub rewritten-requires-clause-function : goal.rewritten-requires-clause-function
rewritten-requires-clause-function c =
    let before = keeps_all_trans c.opened.ensures.keeps c.refl.ensures.keeps in
    let start = tree_kept c.refl.ensures.keeps c.in_ok-start.ensures.is.there ∙ c.in_ok-start.ensures.is.is in
    let body = tree_kept before c.requires.body in
    let whole = rw (start, body) at c.in_ok-whole.ensures.is.is in
    let has = start_has c.requires.function (left_has c.requires.equates) in
    rw (tree_kept (keeps_all_trans before c.equal.ensures.keeps) c.requires.equates.left, whole, has.type) (lambda_is (in_equation (in_closed has) (body_in c.requires.function)))

pub rewritten-requires-clause-marked : goal.rewritten-requires-clause-marked
rewritten-requires-clause-marked c =
    let s = c.args.k.now.store in
    let L = term_tree s c.args.sides.left in
    let B = term_tree s c.args.body in
    let S = subst_bound B 0 L in
    let before = keeps_all_trans c.opened.ensures.keeps c.refl.ensures.keeps in
    let start = tree_kept c.refl.ensures.keeps c.in_ok-start.ensures.is.there ∙ c.in_ok-start.ensures.is.is in
    let body = tree_kept before c.requires.body in
    let whole = rw (start, body) at c.in_ok-whole.ensures.is.is in
    let has = start_has c.requires.function (left_has c.requires.equates) in
    let same = rw c.in_ok-start.ensures.is.is at c.in_ok-same.ensures.concl in
    rw (tree_kept (keeps_all_trans before c.equal.ensures.keeps) c.requires.equates.left, whole, opened_beside (ty_of S) S B L has.term.closed)
    (c.equal.ensures.keeps.records.concls c.in_ok-same.same c.in_ok-same.ensures.there ∙ same)

pub returns-clause-states : goal.returns-clause-states
returns-clause-states c =
    let s = c.args.k.now.store in
    let L = term_tree s c.args.sides.left in
    let R = term_tree s c.args.sides.right in
    let B = term_tree s c.args.body in
    let S = subst_bound B 0 L in
    let before = keeps_all_trans c.opened.ensures.keeps c.refl.ensures.keeps in
    let g = keeps_all_trans before c.equal.ensures.keeps in
    let start = tree_kept c.refl.ensures.keeps c.in_ok-start.ensures.is.there ∙ c.in_ok-start.ensures.is.is in
    let body = tree_kept before c.requires.body in
    let whole = rw (start, body) at c.in_ok-whole.ensures.is.is in
    let has = start_has c.requires.function (left_has c.requires.equates) in
    let later = c.equal.ensures.keeps in
    let there = c.in_ok-same.ensures.there in
    let none = later.records.hyps c.in_ok-same.same there ∙ c.in_ok-same.ensures.hyps in
    let free = bare_keeps later there ∙ c.in_ok-same.ensures.bare in
    beside_none c.in_ok-same.same g c.requires.equates.there none free (rw (whole, tree_kept g c.requires.equates.right, opened_beside (ty_of S) S B R has.term.closed, has.type) at c.in_ok-r.ensures.states)

pub returns-in_err-start-clause-keeps : goal.returns-in_err-start-clause-keeps
returns-in_err-start-clause-keeps c = c.opened.ensures.keeps

pub returns-in_err-same-clause-keeps : goal.returns-in_err-same-clause-keeps
returns-in_err-same-clause-keeps c = keeps_all_trans c.opened.ensures.keeps c.refl.ensures.keeps

pub returns-in_err-whole-clause-keeps : goal.returns-in_err-whole-clause-keeps
returns-in_err-whole-clause-keeps c = keeps_all_trans (keeps_all_trans c.opened.ensures.keeps c.refl.ensures.keeps) c.equal.ensures.keeps

pub returns-in_err-r-clause-keeps : goal.returns-in_err-r-clause-keeps
returns-in_err-r-clause-keeps c = keeps_all_trans (keeps_all_trans (keeps_all_trans c.opened.ensures.keeps c.refl.ensures.keeps) c.equal.ensures.keeps) c.rewritten.ensures.keeps

pub returns-clause-keeps : goal.returns-clause-keeps
returns-clause-keeps c = keeps_all_trans (keeps_all_trans (keeps_all_trans c.opened.ensures.keeps c.refl.ensures.keeps) c.equal.ensures.keeps) c.rewritten.ensures.keeps
