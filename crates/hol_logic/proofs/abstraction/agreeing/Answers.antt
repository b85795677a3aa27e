use Rattle.std.proofs.Common.{sym, subst}
use Rattle.hol_terms.specs.Term.{AppTm, ty_of}
use Rattle.hol_terms.specs.TermStore.{term_tree}
use Rattle.hol_terms.specs.Substitution.{IsFreeVariable}
use Rattle.hol_terms.specs.Formula.{IsTerm}
use Rattle.hol_terms.specs.Derivable.{abstraction}
use Rattle.lcf_kernel.proofs.KeepLemmas.{keeps_all_trans}
use Rattle.lcf_kernel.proofs.KeptLemmas.{term_kept, tree_kept, at_kept}
use Rattle.hol_logic.proofs.StateLemmas.{equates_keep, states_keep, left_has, right_has}
use Rattle.hol_logic.proofs.EquationLemmas.{equates_states, turned_states, turned_by, equal_of, equal_from}
use Rattle.hol_logic.proofs.abstraction.agreeing.Goals as goal

pub applied_to_itself-requires-clause-there : goal.applied_to_itself-requires-clause-there
applied_to_itself-requires-clause-there c = c.requires.equates.left

pub applied_to_itself-requires-clause-term : goal.applied_to_itself-requires-clause-term
applied_to_itself-requires-clause-term c = (left_has c.requires.equates).term

pub applied_to_itself-requires-2-clause-variable : goal.applied_to_itself-requires-2-clause-variable
applied_to_itself-requires-2-clause-variable c = term_kept c.applied_to_itself.ensures.keeps c.requires.variable

pub applied_to_itself-requires-2-clause-free : goal.applied_to_itself-requires-2-clause-free
applied_to_itself-requires-2-clause-free c = subst (λ t. IsFreeVariable t) (sym (tree_kept c.applied_to_itself.ensures.keeps c.requires.variable)) c.requires.free

pub applied_to_itself-requires-2-clause-there : goal.applied_to_itself-requires-2-clause-there
applied_to_itself-requires-2-clause-there c = term_kept c.applied_to_itself.ensures.keeps c.requires.equates.right

pub applied_to_itself-requires-2-clause-term : goal.applied_to_itself-requires-2-clause-term
applied_to_itself-requires-2-clause-term c = subst (λ t. IsTerm t) (sym (tree_kept c.applied_to_itself.ensures.keeps c.requires.equates.right)) (right_has c.requires.equates).term

pub turned-requires-clause-equal : goal.turned-requires-clause-equal
turned-requires-clause-equal c = equal_of (equates_keep (keeps_all_trans c.applied_to_itself.ensures.keeps c.applied_to_itself-2.ensures.keeps) c.requires.equates)

pub turned-requires-clause-variable : goal.turned-requires-clause-variable
turned-requires-clause-variable c = term_kept (keeps_all_trans c.applied_to_itself.ensures.keeps c.applied_to_itself-2.ensures.keeps) c.requires.variable

pub turned-requires-clause-free : goal.turned-requires-clause-free
turned-requires-clause-free c = subst (λ t. IsFreeVariable t) (sym (tree_kept (keeps_all_trans c.applied_to_itself.ensures.keeps c.applied_to_itself-2.ensures.keeps) c.requires.variable)) c.requires.free

pub turned-requires-clause-there : goal.turned-requires-clause-there
turned-requires-clause-there c = term_kept c.applied_to_itself-2.ensures.keeps c.in_ok-left.ensures.is.there

pub turned-requires-clause-is : goal.turned-requires-clause-is
turned-requires-clause-is c =
    let s = c.args.k.now.store in
    let g = keeps_all_trans c.applied_to_itself.ensures.keeps c.applied_to_itself-2.ensures.keeps in
    let left = term_tree s c.args.sides.left in
    turned_by (ty_of left) left (term_tree s c.args.sides.right) (term_tree s c.args.v) _ _ (tree_kept g c.requires.variable) (at_kept c.applied_to_itself-2.ensures.keeps c.in_ok-left.ensures.is).is
    (states_keep g (equates_states c.requires.equates))

pub turned-requires-2-clause-equal : goal.turned-requires-2-clause-equal
turned-requires-2-clause-equal c =
    let found = c.in_ok-first.ensures.states in
    equal_from found.0.type found.0.right _ found.1

pub turned-requires-2-clause-variable : goal.turned-requires-2-clause-variable
turned-requires-2-clause-variable c = term_kept (keeps_all_trans (keeps_all_trans c.applied_to_itself.ensures.keeps c.applied_to_itself-2.ensures.keeps) c.turned.ensures.keeps) c.requires.variable

pub turned-requires-2-clause-free : goal.turned-requires-2-clause-free
turned-requires-2-clause-free c =
    let g = keeps_all_trans (keeps_all_trans c.applied_to_itself.ensures.keeps c.applied_to_itself-2.ensures.keeps) c.turned.ensures.keeps in
    subst (λ t. IsFreeVariable t) (sym (tree_kept g c.requires.variable)) c.requires.free

pub turned-requires-2-clause-there : goal.turned-requires-2-clause-there
turned-requires-2-clause-there c = term_kept c.turned.ensures.keeps c.in_ok-right.ensures.is.there

pub turned-requires-2-clause-is : goal.turned-requires-2-clause-is
turned-requires-2-clause-is c =
    let s = c.args.k.now.store in
    let before = keeps_all_trans c.applied_to_itself.ensures.keeps c.applied_to_itself-2.ensures.keeps in
    let g = keeps_all_trans before c.turned.ensures.keeps in
    let left = term_tree s c.args.sides.left in
    let right = term_tree s c.args.sides.right in
    let v = term_tree s c.args.v in
    let first = turned_states (ty_of left) left right v _ (tree_kept before c.requires.variable) c.in_ok-first.ensures.states (states_keep before (equates_states c.requires.equates)) in
    let made = rw (tree_kept c.applied_to_itself.ensures.keeps c.requires.variable, tree_kept c.applied_to_itself.ensures.keeps c.requires.equates.right) at c.in_ok-right.ensures.is in
    turned_by (ty_of left) right (AppTm (abstraction v left) v) v _ _ (tree_kept g c.requires.variable) (at_kept c.turned.ensures.keeps made).is first

pub returns-clause-states : goal.returns-clause-states
returns-clause-states c =
    let s = c.args.k.now.store in
    let before = keeps_all_trans c.applied_to_itself.ensures.keeps c.applied_to_itself-2.ensures.keeps in
    let g = keeps_all_trans before c.turned.ensures.keeps in
    let left = term_tree s c.args.sides.left in
    let right = term_tree s c.args.sides.right in
    let v = term_tree s c.args.v in
    let first = turned_states (ty_of left) left right v _ (tree_kept before c.requires.variable) c.in_ok-first.ensures.states (states_keep before (equates_states c.requires.equates)) in
    turned_states (ty_of left) right (AppTm (abstraction v left) v) v _ (tree_kept g c.requires.variable) c.in_ok-r.ensures.states first

pub returns-in_err-left-clause-keeps : goal.returns-in_err-left-clause-keeps
returns-in_err-left-clause-keeps c = c.applied_to_itself.ensures.keeps

pub returns-in_err-right-clause-keeps : goal.returns-in_err-right-clause-keeps
returns-in_err-right-clause-keeps c = keeps_all_trans c.applied_to_itself.ensures.keeps c.applied_to_itself-2.ensures.keeps

pub returns-in_err-first-clause-keeps : goal.returns-in_err-first-clause-keeps
returns-in_err-first-clause-keeps c = keeps_all_trans (keeps_all_trans c.applied_to_itself.ensures.keeps c.applied_to_itself-2.ensures.keeps) c.turned.ensures.keeps

pub returns-in_err-r-clause-keeps : goal.returns-in_err-r-clause-keeps
returns-in_err-r-clause-keeps c = keeps_all_trans (keeps_all_trans (keeps_all_trans c.applied_to_itself.ensures.keeps c.applied_to_itself-2.ensures.keeps) c.turned.ensures.keeps) c.turned-2.ensures.keeps

pub returns-clause-keeps : goal.returns-clause-keeps
returns-clause-keeps c = keeps_all_trans (keeps_all_trans (keeps_all_trans c.applied_to_itself.ensures.keeps c.applied_to_itself-2.ensures.keeps) c.turned.ensures.keeps) c.turned-2.ensures.keeps
