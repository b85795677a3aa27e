use Rattle.hol_terms.specs.Term.{ty_of}
use Rattle.hol_terms.specs.TermStore.{term_tree}
use Rattle.hol_terms.proofs.FormulaLemmas.{has_own}
use Rattle.lcf_kernel.proofs.KeepLemmas.{keeps_all_trans}
use Rattle.lcf_kernel.proofs.KeptLemmas.{term_kept, tree_kept}
use Rattle.hol_logic.proofs.StateLemmas.{equates_keep, bare_keeps}
use Rattle.hol_logic.proofs.BodyLemmas.{lambda_is, in_app_of, in_place, in_closed, opened_function}
use Rattle.hol_logic.proofs.congruence.of_functions.Goals as goal

pub application-requires-clause-argument : goal.application-requires-clause-argument
application-requires-clause-argument c = term_kept c.place.ensures.keeps c.requires.argument

pub application-requires-clause-typed : goal.application-requires-clause-typed
application-requires-clause-typed c =
    rw (c.in_ok-hole.ensures.is.is, c.ty-ty.ensures.ty, tree_kept c.place.ensures.keeps c.requires.argument) (tt, c.requires.term.typed, c.requires.takes)

pub carried-requires-clause-equates : goal.carried-requires-clause-equates
carried-requires-clause-equates c = equates_keep (keeps_all_trans c.place.ensures.keeps c.application.ensures.keeps) c.requires.equates

pub carried-requires-clause-body : goal.carried-requires-clause-body
carried-requires-clause-body c = c.in_ok-body.ensures.is.there

pub carried-requires-clause-function : goal.carried-requires-clause-function
carried-requires-clause-function c =
    let s = c.args.k.now.store in
    let F = term_tree s c.args.sides.left in
    let g = keeps_all_trans c.place.ensures.keeps c.application.ensures.keeps in
    let body = rw (c.in_ok-hole.ensures.is.is, c.ty-ty.ensures.ty, tree_kept c.place.ensures.keeps c.requires.argument) at c.in_ok-body.ensures.is.is in
    rw (tree_kept g c.requires.equates.left, body) (lambda_is (in_app_of c.requires.takes (in_place (ty_of F)) (in_closed (has_own c.requires.term))))

pub returns-clause-states : goal.returns-clause-states
returns-clause-states c =
    let k = c.args.k.now in
    let s = k.store in
    let F = term_tree s c.args.sides.left in
    let G = term_tree s c.args.sides.right in
    let X = term_tree s c.args.x in
    let g = keeps_all_trans c.place.ensures.keeps c.application.ensures.keeps in
    let body = rw (c.in_ok-hole.ensures.is.is, c.ty-ty.ensures.ty, tree_kept c.place.ensures.keeps c.requires.argument) at c.in_ok-body.ensures.is.is in
    rw (body, tree_kept g c.requires.equates.left, tree_kept g c.requires.equates.right, opened_function (ty_of F) X F c.requires.term.closed, opened_function (ty_of F) X G c.requires.term.closed, g.records.hyps c.args.a c.requires.equates.there, bare_keeps g c.requires.equates.there) at c.in_ok-r.ensures.states

pub returns-in_err-hole-clause-keeps : goal.returns-in_err-hole-clause-keeps
returns-in_err-hole-clause-keeps c = c.place.ensures.keeps

pub returns-in_err-body-clause-keeps : goal.returns-in_err-body-clause-keeps
returns-in_err-body-clause-keeps c = keeps_all_trans c.place.ensures.keeps c.application.ensures.keeps

pub returns-in_err-r-clause-keeps : goal.returns-in_err-r-clause-keeps
returns-in_err-r-clause-keeps c = keeps_all_trans (keeps_all_trans c.place.ensures.keeps c.application.ensures.keeps) c.carried.ensures.keeps

pub returns-clause-keeps : goal.returns-clause-keeps
returns-clause-keeps c = keeps_all_trans (keeps_all_trans c.place.ensures.keeps c.application.ensures.keeps) c.carried.ensures.keeps
