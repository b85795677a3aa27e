use Rattle.std.proofs.Common.{◌∙◌, refl}
use Rattle.hol_terms.specs.TermStore.{term_tree}
use Rattle.hol_terms.specs.Formula.{SameMembers}
use Rattle.hol_terms.proofs.SetLemmas.{same_refl}
use Rattle.lcf_kernel.specs.KernelState.{hyps_of, bare_of}
use Rattle.lcf_kernel.proofs.KeepLemmas.{keeps_all_trans}
use Rattle.lcf_kernel.proofs.KeptLemmas.{term_kept, tree_kept}
use Rattle.hol_logic.proofs.StateLemmas.{equates_keep, states_keep, states_as, bare_keeps, left_has, right_has, same_swap, and_swap}
use Rattle.hol_logic.proofs.HypothesisLemmas.{same_both}
use Rattle.hol_logic.proofs.BodyLemmas.{congruent_body, congruent_start}
use Rattle.hol_logic.proofs.congruence.congruent.Goals as goal

pub of_functions-requires-clause-argument : goal.of_functions-requires-clause-argument
of_functions-requires-clause-argument c = c.requires.arguments.left

pub of_functions-requires-clause-term : goal.of_functions-requires-clause-term
of_functions-requires-clause-term c = (left_has c.requires.arguments).term

pub place_other-requires-clause-function : goal.place_other-requires-clause-function
place_other-requires-clause-function c = term_kept c.of_functions.ensures.keeps c.requires.functions.left

pub place_other-requires-clause-other : goal.place_other-requires-clause-other
place_other-requires-clause-other c = term_kept c.of_functions.ensures.keeps c.requires.functions.right

pub place_other-requires-clause-argument : goal.place_other-requires-clause-argument
place_other-requires-clause-argument c = term_kept c.of_functions.ensures.keeps c.requires.arguments.left

pub place_other-requires-clause-function_typed : goal.place_other-requires-clause-function_typed
place_other-requires-clause-function_typed c = rw (tree_kept c.of_functions.ensures.keeps c.requires.functions.left) (left_has c.requires.functions).term.typed

pub place_other-requires-clause-other_typed : goal.place_other-requires-clause-other_typed
place_other-requires-clause-other_typed c = rw (tree_kept c.of_functions.ensures.keeps c.requires.functions.right) (right_has c.requires.functions).term.typed

pub place_other-requires-clause-argument_typed : goal.place_other-requires-clause-argument_typed
place_other-requires-clause-argument_typed c = rw (tree_kept c.of_functions.ensures.keeps c.requires.arguments.left) (left_has c.requires.arguments).term.typed

pub place_other-requires-clause-takes : goal.place_other-requires-clause-takes
place_other-requires-clause-takes c =
    let g = c.of_functions.ensures.keeps in
    rw (tree_kept g c.requires.functions.left, tree_kept g c.requires.arguments.left) c.requires.takes

pub place_other-requires-clause-same : goal.place_other-requires-clause-same
place_other-requires-clause-same c =
    let g = c.of_functions.ensures.keeps in
    rw (tree_kept g c.requires.functions.left, tree_kept g c.requires.functions.right) (right_has c.requires.functions).type

pub rewritten-requires-clause-equates : goal.rewritten-requires-clause-equates
rewritten-requires-clause-equates c = equates_keep (keeps_all_trans c.of_functions.ensures.keeps c.place_other.ensures.keeps) c.requires.arguments

pub rewritten-requires-clause-thm : goal.rewritten-requires-clause-thm
rewritten-requires-clause-thm c = c.place_other.ensures.keeps.records.has c.in_ok-first.first c.in_ok-first.ensures.states.there

pub rewritten-requires-clause-body : goal.rewritten-requires-clause-body
rewritten-requires-clause-body c = c.in_ok-body.ensures.is.there

pub rewritten-requires-clause-function : goal.rewritten-requires-clause-function
rewritten-requires-clause-function c =
    let h = c.of_functions.ensures.keeps in
    let g = keeps_all_trans h c.place_other.ensures.keeps in
    let body = rw (tree_kept h c.requires.functions.left, tree_kept h c.requires.functions.right, tree_kept h c.requires.arguments.left) at c.in_ok-body.ensures.is.is in
    rw (tree_kept g c.requires.arguments.left, body) (congruent_body c.requires.takes (left_has c.requires.functions) (right_has c.requires.functions) (left_has c.requires.arguments))

pub rewritten-requires-clause-marked : goal.rewritten-requires-clause-marked
rewritten-requires-clause-marked c =
    let s = c.args.k.now.store in
    let F = term_tree s c.args.functions.left in
    let G = term_tree s c.args.functions.right in
    let X = term_tree s c.args.arguments.left in
    let h = c.of_functions.ensures.keeps in
    let g = keeps_all_trans h c.place_other.ensures.keeps in
    let body = rw (tree_kept h c.requires.functions.left, tree_kept h c.requires.functions.right, tree_kept h c.requires.arguments.left) at c.in_ok-body.ensures.is.is in
    let first = c.in_ok-first.ensures.states in
    rw (tree_kept g c.requires.arguments.left, body, congruent_start F G X X (left_has c.requires.functions).term.closed (right_has c.requires.functions).term.closed (left_has c.requires.arguments).term.closed)
    (c.place_other.ensures.keeps.records.concls c.in_ok-first.first first.there ∙ first.concl)

pub returns-clause-states : goal.returns-clause-states
returns-clause-states c =
    let k = c.args.k.now in
    let s = k.store in
    let F = term_tree s c.args.functions.left in
    let G = term_tree s c.args.functions.right in
    let X = term_tree s c.args.arguments.left in
    let Y = term_tree s c.args.arguments.right in
    let m = c.place_other.new.k in
    let h = c.of_functions.ensures.keeps in
    let later = c.place_other.ensures.keeps in
    let g = keeps_all_trans h later in
    let body = rw (tree_kept h c.requires.functions.left, tree_kept h c.requires.functions.right, tree_kept h c.requires.arguments.left) at c.in_ok-body.ensures.is.is in
    let first = states_keep later c.in_ok-first.ensures.states in
    let made = rw (body, tree_kept g c.requires.arguments.right, congruent_start F G X Y (left_has c.requires.functions).term.closed (right_has c.requires.functions).term.closed (left_has c.requires.arguments).term.closed) at c.in_ok-r.ensures.states in
    let own : SameMembers (hyps_of m c.args.b) (hyps_of k c.args.b) = rw (g.records.hyps c.args.b c.requires.arguments.there) (same_refl (hyps_of k c.args.b)) in
    let turned = states_as made refl (same_both own first.hyps) (rw (bare_keeps g c.requires.arguments.there, first.bare) refl) in
    states_as turned refl (same_swap (hyps_of k c.args.b) (hyps_of k c.args.a)) (and_swap (bare_of k c.args.b) (bare_of k c.args.a))

pub returns-in_err-first-clause-keeps : goal.returns-in_err-first-clause-keeps
returns-in_err-first-clause-keeps c = c.of_functions.ensures.keeps

pub returns-in_err-body-clause-keeps : goal.returns-in_err-body-clause-keeps
returns-in_err-body-clause-keeps c = keeps_all_trans c.of_functions.ensures.keeps c.place_other.ensures.keeps

pub returns-in_err-r-clause-keeps : goal.returns-in_err-r-clause-keeps
returns-in_err-r-clause-keeps c = keeps_all_trans (keeps_all_trans c.of_functions.ensures.keeps c.place_other.ensures.keeps) c.rewritten.ensures.keeps

pub returns-clause-keeps : goal.returns-clause-keeps
returns-clause-keeps c = keeps_all_trans (keeps_all_trans c.of_functions.ensures.keeps c.place_other.ensures.keeps) c.rewritten.ensures.keeps
