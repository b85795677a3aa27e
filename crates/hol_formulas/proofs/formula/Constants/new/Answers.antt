use Rattle.hol_terms.proofs.KeepsLemmas.{keeps_trans}
use Rattle.hol_formulas.proofs.GrowthLemmas.{at_keeps, type_keeps}
use Rattle.hol_formulas.proofs.formula.Constants.new.Goals as goal

pub binary-requires-2 : goal.binary-requires-2
binary-requires-2 g c = type_keeps _ _ c.binary.ensures.keeps _ _ c.in_ok-bool.ensures.is

pub binary-requires-3 : goal.binary-requires-3
binary-requires-3 g c = type_keeps _ _ (keeps_trans c.binary.ensures.keeps c.binary-2.ensures.keeps) _ _ c.in_ok-bool.ensures.is

pub unary-requires : goal.unary-requires
unary-requires g c = type_keeps _ _ (keeps_trans c.binary.ensures.keeps (keeps_trans c.binary-2.ensures.keeps c.binary-3.ensures.keeps)) _ _ c.in_ok-bool.ensures.is

pub truth_value-requires : goal.truth_value-requires
truth_value-requires g c =
    type_keeps _ _ (keeps_trans c.binary.ensures.keeps (keeps_trans c.binary-2.ensures.keeps (keeps_trans c.binary-3.ensures.keeps c.unary.ensures.keeps))) _ _ c.in_ok-bool.ensures.is

pub truth_value-requires-2 : goal.truth_value-requires-2
truth_value-requires-2 g c =
    type_keeps _ _ (keeps_trans c.binary.ensures.keeps (keeps_trans c.binary-2.ensures.keeps (keeps_trans c.binary-3.ensures.keeps (keeps_trans c.unary.ensures.keeps c.truth_value.ensures.keeps)))) _ _ c.in_ok-bool.ensures.is

pub returns-clause-are : goal.returns-clause-are
returns-clause-are g c =
    let from_truth = c.new.ensures.keeps in
    let from_falsity = keeps_trans c.truth_value-2.ensures.keeps from_truth in
    let from_not = keeps_trans c.truth_value.ensures.keeps from_falsity in
    let from_or = keeps_trans c.unary.ensures.keeps from_not in
    let from_and = keeps_trans c.binary-3.ensures.keeps from_or in
    let from_imp = keeps_trans c.binary-2.ensures.keeps from_and in
    let from_bool = keeps_trans c.binary.ensures.keeps from_imp in
    record {
      imp = at_keeps _ _ from_imp _ _ c.in_ok-imp.ensures.is;
      not = at_keeps _ _ from_not _ _ c.in_ok-not.ensures.is;
      falsity = at_keeps _ _ from_falsity _ _ c.in_ok-falsity.ensures.is;
      truth = at_keeps _ _ from_truth _ _ c.in_ok-truth.ensures.is;
      and = at_keeps _ _ from_and _ _ c.in_ok-and.ensures.is;
      or = at_keeps _ _ from_or _ _ c.in_ok-or.ensures.is;
      bool = type_keeps _ _ from_bool _ _ c.in_ok-bool.ensures.is;
      names = c.in_ok-names.ensures.are;
    }

pub returns-in_err-names-clause-keeps : goal.returns-in_err-names-clause-keeps
returns-in_err-names-clause-keeps g c =
    keeps_trans c.bool_type.ensures.keeps (keeps_trans c.binary.ensures.keeps (keeps_trans c.binary-2.ensures.keeps (keeps_trans c.binary-3.ensures.keeps (keeps_trans c.unary.ensures.keeps (keeps_trans c.truth_value.ensures.keeps (keeps_trans c.truth_value-2.ensures.keeps c.new.ensures.keeps))))))

pub returns-clause-keeps : goal.returns-clause-keeps
returns-clause-keeps g c =
    keeps_trans c.bool_type.ensures.keeps (keeps_trans c.binary.ensures.keeps (keeps_trans c.binary-2.ensures.keeps (keeps_trans c.binary-3.ensures.keeps (keeps_trans c.unary.ensures.keeps (keeps_trans c.truth_value.ensures.keeps (keeps_trans c.truth_value-2.ensures.keeps c.new.ensures.keeps))))))
