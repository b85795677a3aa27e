use Rattle.std.proofs.Common.{◌≡◌, ◌∙◌, ◌&&◌, sym, subst, ap, refl}
use Rattle.hol_terms.specs.Term.{Term, ty_of}
use Rattle.hol_terms.specs.Substitution.{IsClosed}
use Rattle.hol_terms.specs.Constants.{implication}
use Rattle.hol_terms.specs.Formula.{In, SameMembers, without}
use Rattle.hol_terms.proofs.SetLemmas.{same_refl, same_trans}
use Rattle.lcf_kernel.specs.KernelState.{concl_of, hyps_of, bare_of}
use Rattle.lcf_kernel.proofs.KeepLemmas.{keeps_all_trans}
use Rattle.hol_logic.proofs.StateLemmas.{bare_keeps, same_swap, and_swap, implied, passed_shape}
use Rattle.hol_logic.proofs.HypothesisLemmas.{same_both}
use Rattle.hol_logic.proofs.cutting.cut.Goals as goal

pub imp_i-requires-clause-closed : goal.imp_i-requires-clause-closed
imp_i-requires-clause-closed c = subst (λ t. IsClosed t) (sym c.concl-proved.ensures.tree) c.concl-proved.ensures.formula.closed

pub imp_e-requires-clause-left : goal.imp_e-requires-clause-left
imp_e-requires-clause-left c = c.in_ok-step.ensures.there

pub imp_e-requires-clause-right : goal.imp_e-requires-clause-right
imp_e-requires-clause-right c = c.imp_i.ensures.keeps.records.has c.args.a c.requires.proved

pub returns-clause-states : goal.returns-clause-states
returns-clause-states c =
    let k = c.args.k.now in
    let m = c.imp_i.new.self in
    let l = c.imp_e.new.self in
    let A = concl_of k c.args.a in
    let B = concl_of k c.args.b in
    let g = c.imp_i.ensures.keeps in
    let first : concl_of m c.in_ok-step.step ≡ implication A B = rw c.concl-proved.ensures.tree at c.in_ok-step.ensures.concl in
    let second : concl_of m c.in_ok-step.step ≡ implication A (concl_of l c.in_ok-r.r) = rw (g.records.concls c.args.a c.requires.proved) at c.in_ok-r.ensures.concl in
    let step_hyps : SameMembers (hyps_of m c.in_ok-step.step) (without A (hyps_of k c.args.b)) = rw c.concl-proved.ensures.tree at c.in_ok-step.ensures.hyps in
    let own : SameMembers (hyps_of m c.args.a) (hyps_of k c.args.a) = rw (g.records.hyps c.args.a c.requires.proved) (same_refl (hyps_of k c.args.a)) in
    let flag : bare_of l c.in_ok-r.r ≡ (bare_of k c.args.b && bare_of k c.args.a) = c.in_ok-r.ensures.bare ∙ rw (c.in_ok-step.ensures.bare, bare_keeps g c.requires.proved) refl in
    record {
      there = c.in_ok-r.ensures.there;
      concl = implied A B (concl_of l c.in_ok-r.r) (concl_of m c.in_ok-step.step) first second;
      hyps = same_trans c.in_ok-r.ensures.hyps (same_trans (same_both step_hyps own) (same_swap (without A (hyps_of k c.args.b)) (hyps_of k c.args.a)));
      bare = flag ∙ and_swap (bare_of k c.args.b) (bare_of k c.args.a);
    }

pub returns-clause-ok : goal.returns-clause-ok
returns-clause-ok c = subst (λ t. In t (hyps_of c.args.k.now c.args.b)) c.concl-proved.ensures.tree (c.is_hypothesis.ensures.0 c.if-not-is_hypothesis.false)

pub returns-in_err-step-clause-shape : goal.returns-in_err-step-clause-shape
returns-in_err-step-clause-shape c = passed_shape c.from_residual.result c.in_err-step.field-0.0 c.from_residual.ensures.1 (λ e. absurd (c.in_err-step.ensures.shape e (ap (λ (t : Term). ty_of t) c.concl-proved.ensures.tree ∙ c.concl-proved.ensures.formula.bool)))

pub returns-in_err-r-clause-shape : goal.returns-in_err-r-clause-shape
returns-in_err-r-clause-shape c =
    let k = c.args.k.now in
    let m = c.imp_i.new.self in
    let g = c.imp_i.ensures.keeps in
    let first : concl_of m c.in_ok-step.step ≡ implication (concl_of m c.args.a) (concl_of k c.args.b) = rw (g.records.concls c.args.a c.requires.proved) (rw c.concl-proved.ensures.tree at c.in_ok-step.ensures.concl) in
    passed_shape c.from_residual-in_err-r.result c.in_err-r.field-0.0 c.from_residual-in_err-r.ensures.1 (λ e. absurd (c.in_err-r.ensures.shape e (concl_of k c.args.b) first))

pub returns-in_err-step-clause-keeps : goal.returns-in_err-step-clause-keeps
returns-in_err-step-clause-keeps c = c.imp_i.ensures.keeps

pub returns-in_err-r-clause-keeps : goal.returns-in_err-r-clause-keeps
returns-in_err-r-clause-keeps c = keeps_all_trans c.imp_i.ensures.keeps c.imp_e.ensures.keeps

pub returns-clause-keeps : goal.returns-clause-keeps
returns-clause-keeps c = keeps_all_trans c.imp_i.ensures.keeps c.imp_e.ensures.keeps
