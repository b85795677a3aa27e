use Rattle.std.proofs.Common.{◌∙◌, ◌∷◌, ap}
use Rattle.hol_terms.specs.TermStore.{term_tree}
use Rattle.hol_terms.specs.Formula.{SameMembers, without}
use Rattle.hol_terms.specs.Constants.{negation}
use Rattle.lcf_kernel.specs.KernelState.{hyps_of}
use Rattle.lcf_kernel.proofs.KeepLemmas.{keeps_all_trans}
use Rattle.lcf_kernel.proofs.KeptLemmas.{term_kept, tree_kept, closed_kept}
use Rattle.hol_logic.specs.Under.{IsUnder}
use Rattle.hol_logic.proofs.StateLemmas.{passed_on}
use Rattle.hol_logic.proofs.UnderLemmas.{bool_kept, under_less, under_two}
use Rattle.hol_logic.proofs.contradiction.denied.Goals as goal

pub not_i-requires-clause-thm : goal.not_i-requires-clause-thm
not_i-requires-clause-thm c = c.in_ok-falsity.ensures.there

pub not_i-requires-clause-there : goal.not_i-requires-clause-there
not_i-requires-clause-there c = term_kept c.not_e.ensures.keeps c.requires.formula.there

pub not_i-requires-clause-closed : goal.not_i-requires-clause-closed
not_i-requires-clause-closed c = closed_kept c.not_e.ensures.keeps c.requires.formula.there c.requires.formula.formula.closed

pub returns-clause-concl : goal.returns-clause-concl
returns-clause-concl c = c.in_ok-r.ensures.concl ∙ ap (λ t. negation t) (tree_kept c.not_e.ensures.keeps c.requires.formula.there)

pub returns-clause-under : goal.returns-clause-under
returns-clause-under c hyps u v =
    let p = term_tree c.args.k.now.store c.args.p in
    let falsity : IsUnder c.not_e.new.self c.in_ok-falsity.falsity (p ∷ hyps) = under_two u v c.in_ok-falsity.ensures.hyps c.in_ok-falsity.ensures.bare in
    let same : SameMembers (hyps_of c.not_i.new.self c.in_ok-r.r) (without p (hyps_of c.not_e.new.self c.in_ok-falsity.falsity)) = rw (tree_kept c.not_e.ensures.keeps c.requires.formula.there) at c.in_ok-r.ensures.hyps in
    under_less falsity same c.in_ok-r.ensures.bare

pub returns-in_err-falsity-clause-shape : goal.returns-in_err-falsity-clause-shape
returns-in_err-falsity-clause-shape c = passed_on c.from_residual.result c.in_err-falsity.field-0.0 c.from_residual.ensures.1 (λ e. c.in_err-falsity.ensures.shape e c.requires.negated)

pub returns-in_err-r-clause-shape : goal.returns-in_err-r-clause-shape
returns-in_err-r-clause-shape c = passed_on c.from_residual-in_err-r.result c.in_err-r.field-0.0 c.from_residual-in_err-r.ensures.1 (λ e. c.in_err-r.ensures.shape e (record { falsity = c.in_ok-falsity.ensures.concl; bool = bool_kept c.not_e.ensures.keeps c.requires.formula }))

pub returns-in_err-falsity-clause-keeps : goal.returns-in_err-falsity-clause-keeps
returns-in_err-falsity-clause-keeps c = c.not_e.ensures.keeps

pub returns-in_err-r-clause-keeps : goal.returns-in_err-r-clause-keeps
returns-in_err-r-clause-keeps c = keeps_all_trans c.not_e.ensures.keeps c.not_i.ensures.keeps

pub returns-clause-keeps : goal.returns-clause-keeps
returns-clause-keeps c = keeps_all_trans c.not_e.ensures.keeps c.not_i.ensures.keeps
