use Rattle.std.proofs.Common.{◌∙◌, sym, true, false}
use Rattle.goal_text.proofs.MatchLemmas.{given_next, subst_rest}
use Rattle.goal_text.proofs.matching.gives.Goals as goal

pub returns-then-eq : goal.returns-then-eq
returns-then-eq c =
    let inv = c.loop-pair.invariant in
    sym (given_next c.args.base.now.types c.args.s.now c.loop-pair.pair-index c.pair-item.result c.loop-pair-test.true c.pair-item.is inv.there c.args.n c.text-text.ensures.names_apart c.requires.name true (sym c.eq.ensures ∙ c.if-eq.true)) ∙ inv.rest

pub loop-pair-preserved : goal.loop-pair-preserved
loop-pair-preserved c =
    let inv = c.loop-pair.invariant in
    record {
      there = subst_rest c.args.base.now.types c.args.s.now c.loop-pair.pair-index c.pair-item.result c.loop-pair-test.true c.pair-item.is inv.there;
      rest = sym (given_next c.args.base.now.types c.args.s.now c.loop-pair.pair-index c.pair-item.result c.loop-pair-test.true c.pair-item.is inv.there c.args.n c.text-text.ensures.names_apart c.requires.name false (sym c.eq.ensures ∙ c.if-eq.false)) ∙ inv.rest;
    }
