use Rattle.std.proofs.Common.{◌≡◌, ◌∙◌, sym}
use Rattle.hol_terms.specs.Term.{ty_of}
use Rattle.hol_terms.specs.TermStore.{term_tree}
use Rattle.lcf_kernel.proofs.KeepLemmas.{keeps_all_trans}
use Rattle.lcf_kernel.proofs.KeptLemmas.{term_kept, tree_kept}
use Rattle.hol_logic.proofs.StateLemmas.{equates_keep, bare_keeps, left_has, beside_none}
use Rattle.hol_logic.proofs.BodyLemmas.{lambda_is, in_equation, in_place, in_closed, opened_left}
use Rattle.hol_logic.proofs.equality.reversed.Goals as goal

pub refl-requires-clause-there : goal.refl-requires-clause-there
refl-requires-clause-there c = c.requires.left

pub refl-requires-clause-closed : goal.refl-requires-clause-closed
refl-requires-clause-closed c = (left_has c.requires).term.closed

pub place_left-requires : goal.place_left-requires
place_left-requires c = term_kept c.refl.ensures.keeps c.requires.left

pub rewritten-requires-clause-equates : goal.rewritten-requires-clause-equates
rewritten-requires-clause-equates c = equates_keep (keeps_all_trans c.refl.ensures.keeps c.place_left.ensures.keeps) c.requires

pub rewritten-requires-clause-thm : goal.rewritten-requires-clause-thm
rewritten-requires-clause-thm c = c.place_left.ensures.keeps.records.has c.in_ok-same.same c.in_ok-same.ensures.there

pub rewritten-requires-clause-body : goal.rewritten-requires-clause-body
rewritten-requires-clause-body c = c.in_ok-body.ensures.is.there

pub rewritten-requires-clause-function : goal.rewritten-requires-clause-function
rewritten-requires-clause-function c =
    let L = term_tree c.args.k.now.store c.args.sides.left in
    let left = tree_kept (keeps_all_trans c.refl.ensures.keeps c.place_left.ensures.keeps) c.requires.left in
    let body = rw (tree_kept c.refl.ensures.keeps c.requires.left) at c.in_ok-body.ensures.is.is in
    rw (left, body) (lambda_is (in_equation (in_place (ty_of L)) (in_closed (left_has c.requires))))

pub rewritten-requires-clause-marked : goal.rewritten-requires-clause-marked
rewritten-requires-clause-marked c =
    let L = term_tree c.args.k.now.store c.args.sides.left in
    let left = tree_kept (keeps_all_trans c.refl.ensures.keeps c.place_left.ensures.keeps) c.requires.left in
    let body = rw (tree_kept c.refl.ensures.keeps c.requires.left) at c.in_ok-body.ensures.is.is in
    let closed = (left_has c.requires).term.closed in
    rw (left, body) (c.place_left.ensures.keeps.records.concls c.in_ok-same.same c.in_ok-same.ensures.there ∙ c.in_ok-same.ensures.concl ∙ sym (opened_left (ty_of L) L L closed))

pub returns-clause-states : goal.returns-clause-states
returns-clause-states c =
    let s = c.args.k.now.store in
    let L = term_tree s c.args.sides.left in
    let R = term_tree s c.args.sides.right in
    let m = c.place_left.new.k in
    let g = keeps_all_trans c.refl.ensures.keeps c.place_left.ensures.keeps in
    let body = rw (tree_kept c.refl.ensures.keeps c.requires.left) at c.in_ok-body.ensures.is.is in
    let right : term_tree m.store c.args.sides.right ≡ R = tree_kept g c.requires.right in
    let closed = (left_has c.requires).term.closed in
    let there = c.in_ok-same.ensures.there in
    let later = c.place_left.ensures.keeps in
    let none = later.records.hyps c.in_ok-same.same there ∙ c.in_ok-same.ensures.hyps in
    let free = bare_keeps later there ∙ c.in_ok-same.ensures.bare in
    beside_none c.in_ok-same.same g c.requires.there none free (rw (body, right, opened_left (ty_of L) L R closed) at c.in_ok-r.ensures.states)

pub returns-in_err-same-clause-keeps : goal.returns-in_err-same-clause-keeps
returns-in_err-same-clause-keeps c = c.refl.ensures.keeps

pub returns-in_err-body-clause-keeps : goal.returns-in_err-body-clause-keeps
returns-in_err-body-clause-keeps c = keeps_all_trans c.refl.ensures.keeps c.place_left.ensures.keeps

pub returns-in_err-r-clause-keeps : goal.returns-in_err-r-clause-keeps
returns-in_err-r-clause-keeps c = keeps_all_trans (keeps_all_trans c.refl.ensures.keeps c.place_left.ensures.keeps) c.rewritten.ensures.keeps

pub returns-clause-keeps : goal.returns-clause-keeps
returns-clause-keeps c = keeps_all_trans (keeps_all_trans c.refl.ensures.keeps c.place_left.ensures.keeps) c.rewritten.ensures.keeps
