use Rattle.std.proofs.Common.{◌≡◌, ◌∙◌, ap, sym}
use Rattle.hol_terms.specs.Term.{ty_of}
use Rattle.hol_terms.specs.TermStore.{term_tree}
use Rattle.hol_terms.specs.Constants.{equation}
use Rattle.lcf_kernel.specs.KernelState.{hyps_of, bare_of}
use Rattle.lcf_kernel.proofs.KeepLemmas.{keeps_all_trans}
use Rattle.lcf_kernel.proofs.KeptLemmas.{tree_kept}
use Rattle.hol_logic.proofs.StateLemmas.{equates_keep, left_has, right_has, beside_kept, swapped}
use Rattle.hol_logic.proofs.BodyLemmas.{lambda_is, in_equation, in_place, in_closed, opened_right}
use Rattle.hol_logic.proofs.equality.chained.Goals as goal

pub place_right-requires : goal.place_right-requires
place_right-requires c = c.requires.one.left

pub rewritten-requires-clause-equates : goal.rewritten-requires-clause-equates
rewritten-requires-clause-equates c = equates_keep c.place_right.ensures.keeps c.requires.other

pub rewritten-requires-clause-thm : goal.rewritten-requires-clause-thm
rewritten-requires-clause-thm c = c.place_right.ensures.keeps.records.has c.args.a c.requires.one.there

pub rewritten-requires-clause-body : goal.rewritten-requires-clause-body
rewritten-requires-clause-body c = c.in_ok-body.ensures.is.there

pub rewritten-requires-clause-function : goal.rewritten-requires-clause-function
rewritten-requires-clause-function c =
    let s = c.args.k.now.store in
    let X = term_tree s c.args.first.left in
    let M = term_tree s c.args.second.left in
    let type : ty_of M ≡ ty_of X = ap (λ u. ty_of u) (sym c.requires.middle) ∙ (right_has c.requires.one).type in
    rw (tree_kept c.place_right.ensures.keeps c.requires.other.left, type, c.in_ok-body.ensures.is.is) (lambda_is (in_equation (in_closed (left_has c.requires.one)) (in_place (ty_of X))))

pub rewritten-requires-clause-marked : goal.rewritten-requires-clause-marked
rewritten-requires-clause-marked c =
    let s = c.args.k.now.store in
    let X = term_tree s c.args.first.left in
    let M = term_tree s c.args.second.left in
    let closed = (left_has c.requires.one).term.closed in
    rw (tree_kept c.place_right.ensures.keeps c.requires.other.left, c.in_ok-body.ensures.is.is, opened_right (ty_of X) X M closed)
    (c.place_right.ensures.keeps.records.concls c.args.a c.requires.one.there ∙ c.requires.one.concl ∙ ap (λ u. equation (ty_of X) X u) c.requires.middle)

pub returns-clause-states : goal.returns-clause-states
returns-clause-states c =
    let s = c.args.k.now.store in
    let X = term_tree s c.args.first.left in
    let Z = term_tree s c.args.second.right in
    let closed = (left_has c.requires.one).term.closed in
    let g = c.place_right.ensures.keeps in
    let k = c.args.k.now in
    swapped (hyps_of k c.args.b) (hyps_of k c.args.a) (bare_of k c.args.b) (bare_of k c.args.a) (beside_kept g c.requires.other.there c.requires.one.there (rw (c.in_ok-body.ensures.is.is, tree_kept g c.requires.other.right, opened_right (ty_of X) X Z closed) at c.in_ok-r.ensures.states))

pub returns-in_err-body-clause-keeps : goal.returns-in_err-body-clause-keeps
returns-in_err-body-clause-keeps c = c.place_right.ensures.keeps

pub returns-in_err-r-clause-keeps : goal.returns-in_err-r-clause-keeps
returns-in_err-r-clause-keeps c = keeps_all_trans c.place_right.ensures.keeps c.rewritten.ensures.keeps

pub returns-clause-keeps : goal.returns-clause-keeps
returns-clause-keeps c = keeps_all_trans c.place_right.ensures.keeps c.rewritten.ensures.keeps
