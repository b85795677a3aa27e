use Rattle.hol_terms.proofs.KeepsLemmas.{keeps_trans}
use Rattle.hol_formulas.proofs.GrowthLemmas.{name_keeps}
use Rattle.hol_formulas.proofs.formula.Names.new.Goals as goal

pub returns-clause-are : goal.returns-clause-are
returns-clause-are g c =
    let from_ex = c.name-5.ensures.keeps in
    let from_all = keeps_trans c.name-4.ensures.keeps from_ex in
    let from_ite = keeps_trans c.name-3.ensures.keeps from_all in
    let from_eq = keeps_trans c.name-2.ensures.keeps from_ite in
    record {
      eq = name_keeps _ _ from_eq _ _ (record { there = c.in_ok-eq.ensures.there; is = c.in_ok-eq.ensures.text });
      ite = name_keeps _ _ from_ite _ _ (record { there = c.in_ok-ite.ensures.there; is = c.in_ok-ite.ensures.text });
      all = name_keeps _ _ from_all _ _ (record { there = c.in_ok-all.ensures.there; is = c.in_ok-all.ensures.text });
      ex = name_keeps _ _ from_ex _ _ (record { there = c.in_ok-ex.ensures.there; is = c.in_ok-ex.ensures.text });
      choice = record { there = c.in_ok-choice.ensures.there; is = c.in_ok-choice.ensures.text };
    }
