use Rattle.std.proofs.Common.{sym, subst, arith, get_or}
use Rattle.hol_terms.specs.Term.{ty_of}
use Rattle.hol_terms.specs.TermStore.{term_tree}
use Rattle.hol_terms.proofs.KeepsLemmas.{keeps_trans}
use Rattle.goal_text.specs.Scope.{AreTyped}
use Rattle.goal_text.proofs.KeptLemmas.{same_Ok}
use Rattle.goal_text.proofs.OperationLemmas.{all_typed_kept, differences_next, typed_at, typed_kept, typed_terms}
use Rattle.goal_text.proofs.operations.differences.Goals as goal

pub differs-requires-clause-there : goal.differs-requires-clause-there
differs-requires-clause-there c = c.loop-i.invariant.keeps.terms (get_or c.args.parts.now c.loop-i.i 0) (typed_at c.args.base.now _ c.args.parts.now c.loop-i.i c.requires.parts c.loop-i-test.true).there

pub differs-requires-clause-parts : goal.differs-requires-clause-parts
differs-requires-clause-parts c =
    let s = c.args.base.now in
    let now = c.loop-i.base in
    let ts = c.args.parts.now in
    let k = c.loop-i.invariant.keeps in
    let ty = ty_of (term_tree s (get_or ts 0 0)) in
    let same = (typed_kept k (typed_at s ty ts c.loop-i.i c.requires.parts c.loop-i-test.true)).type in
    subst (λ t. AreTyped now t ts) (sym same) (all_typed_kept ty ts k c.requires.parts)

pub loop-i-preserved : goal.loop-i-preserved
loop-i-preserved c =
    let s = c.args.base.now in
    let now = c.loop-i.base in
    let new = c.differs.new.base in
    let ts = c.args.parts.now in
    let inv = c.loop-i.invariant in
    record {
      within = omega (arith, c.loop-i-test.true);
      typed = c.in_ok-differs.ensures.formulas;
      keeps = keeps_trans inv.keeps c.in_ok-differs.ensures.keeps;
      read = differences_next s now new inv.keeps _ c.loop-i.formulas.items c.differs.new.formulas.items ts c.loop-i.i (typed_terms s _ ts c.requires.parts) c.loop-i-test.true inv.read (same_Ok _ _ c.in_ok-differs.ensures.read);
    }
