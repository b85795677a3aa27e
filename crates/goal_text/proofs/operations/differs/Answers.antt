use Rattle.std.proofs.Common.{◌≡◌, ◌∙◌, ap, subst, sym, arith, get_or}
use Rattle.hol_types.specs.Ty.{BoolTy}
use Rattle.hol_terms.specs.Constants as hol
use Rattle.hol_terms.specs.Term.{ty_of}
use Rattle.hol_terms.specs.TermStore.{term_tree}
use Rattle.hol_terms.proofs.KeepsLemmas.{keeps_trans}
use Rattle.goal_text.specs.Scope.{HasTyped}
use Rattle.goal_text.proofs.KeptLemmas.{same_Ok}
use Rattle.goal_text.proofs.OperationLemmas.{all_typed_kept, all_typed_pushed, differs_next, item_same, part_typed, typed_terms}
use Rattle.goal_text.proofs.operations.differs.Goals as goal

pub unequal-requires-clause-second : goal.unequal-requires-clause-second
unequal-requires-clause-second c =
    let s = c.args.base.now in
    let now = c.loop-j.base in
    let ts = c.args.parts.now in
    let k = c.loop-j.invariant.keeps in
    let all = typed_terms s _ ts c.requires.parts in
    let same = ap ty_of (item_same s now k ts all c.args.i c.index-parts-i.result c.requires.below c.index-parts-i.is) in
    subst (λ t. HasTyped now t c.index-parts-j.result) (sym same) (part_typed s now _ ts c.loop-j.j c.index-parts-j.result k c.requires.parts c.loop-j-test.true c.index-parts-j.is)

pub loop-j-preserved : goal.loop-j-preserved
loop-j-preserved c =
    let s = c.args.base.now in
    let now = c.loop-j.base in
    let new = c.unequal.new.base in
    let ts = c.args.parts.now in
    let inv = c.loop-j.invariant in
    let k = c.in_ok-t.ensures.keeps in
    let fs = c.loop-j.formulas.items in
    let all = typed_terms s _ ts c.requires.parts in
    let a = term_tree s (get_or ts c.args.i 0) in
    let made : term_tree new c.in_ok-t.t ≡ hol.negation (hol.equation (ty_of a) a (term_tree s (get_or ts c.loop-j.j 0))) =
    sym (same_Ok _ _ c.in_ok-t.ensures.read)
    ∙ ap (λ x. hol.negation (hol.equation (ty_of x) x (term_tree now c.index-parts-j.result))) (item_same s now inv.keeps ts all c.args.i c.index-parts-i.result c.requires.below c.index-parts-i.is)
    ∙ ap (λ x. hol.negation (hol.equation (ty_of a) a x)) (item_same s now inv.keeps ts all c.loop-j.j c.index-parts-j.result c.loop-j-test.true c.index-parts-j.is) in
    record {
      within = omega (arith, c.loop-j-test.true);
      typed = rw c.in_ok-push.ensures.items (all_typed_pushed new BoolTy fs c.in_ok-t.t (all_typed_kept BoolTy fs k inv.typed) c.in_ok-t.ensures.there);
      keeps = keeps_trans inv.keeps k;
      read = rw c.in_ok-push.ensures.items (differs_next s now new k _ fs a ts c.loop-j.j c.in_ok-t.t (typed_terms now BoolTy fs inv.typed) c.loop-j-test.true inv.read made);
    }
