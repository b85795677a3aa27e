use Rattle.std.proofs.Common.{◌≡◌, ◌∙◌, ◌↔◌, sym, refl, rules}
use Rattle.std.specs.Prelude.{IsTrue}
use Rattle.hol_terms.specs.Term.{NumTm}
use Rattle.hol_terms.specs.TermStore.{term_tree}
use Rattle.hol_match.specs.Inst.{inst_tree}
use Rattle.hol_match.proofs.MatchLemmas.{answer_when, app_apart, app_left, app_matched, app_right, bound_match, constant_match, refused_when, free_match, known_match, lam_apart, lam_body, lam_matched, lam_type, matched_when, number_match, part_of, part_put, refutes}
use Rattle.hol_match.proofs.matching.+matching.Goals as goal

pub match_application-returns-in-Some-clause-answer : goal.match_application-returns-in-Some-clause-answer
match_application-returns-in-Some-clause-answer g t c =
    let p = g.D.Sides.patterns c.args.sides.now in
    let s = g.D.Sides.terms c.args.sides.now in
    let k = c.requires.progress.parts.each c.args.p c.in-Some.u (sym c.get.ensures.value ∙ sym c.in-Some.ensures) in
    known_match p s c.term-apart.ensures.apart (inst_tree p s c.args.progress.now.found) c.args.p c.in-Some.u c.args.t k c.requires.term c.eq.result c.eq.ensures

pub match_application-returns-in_default-application-clause-answer : goal.match_application-returns-in_default-application-clause-answer
match_application-returns-in_default-application-clause-answer g t c = app_apart _ _ _ _ c.requires.is (c.in_default-application.ensures.other refl) _ _

pub match_application-returns-then-not-function-clause-answer : goal.match_application-returns-then-not-function-clause-answer
match_application-returns-then-not-function-clause-answer g t c = app_left _ _ _ _ _ _ c.requires.is c.in-Some-application.ensures.sides _ _ (refused_when c.if-not-function.true c.in_ok-function.ensures.answer)

pub match_application-returns-then-not-argument-clause-answer : goal.match_application-returns-then-not-argument-clause-answer
match_application-returns-then-not-argument-clause-answer g t c =
    app_right _ _ _ _ _ _ c.requires.is c.in-Some-application.ensures.sides _ _ _ (matched_when c.if-not-function.false c.in_ok-function.ensures.answer) (refused_when c.if-not-argument.true c.in_ok-argument.ensures.answer)

pub match_application-returns-clause-answer : goal.match_application-returns-clause-answer
match_application-returns-clause-answer g t c =
    answer_when (app_matched _ _ _ _ _ _ c.requires.is c.in-Some-application.ensures.sides _ _ _ (matched_when c.if-not-function.false c.in_ok-function.ensures.answer) (matched_when c.if-not-argument.false c.in_ok-argument.ensures.answer))

pub match_application-returns-clause-progress : goal.match_application-returns-clause-progress
match_application-returns-clause-progress g t c =
    let p = g.D.Sides.patterns c.args.sides.now in
    let s = g.D.Sides.terms c.args.sides.now in
    let old = inst_tree p s c.args.progress.now.found in
    let new = inst_tree p s c.match_part-2.new.progress.found in
    let whole = app_matched _ _ _ _ _ _ c.requires.is c.in-Some-application.ensures.sides old _ new (matched_when c.if-not-function.false c.in_ok-function.ensures.answer) (matched_when c.if-not-argument.false c.in_ok-argument.ensures.answer) in
    let k = c.in_ok-argument.ensures.progress in
    record {
      types = k.types;
      parts = part_put p s new c.match_part-2.new.progress.parts c.insert.new.self c.args.p c.args.t k.parts (λ q. c.in_ok-insert.ensures.updates.0 q) (part_of p s old new c.args.p c.args.t c.requires.pattern c.requires.term whole);
      found = k.found;
    }

pub match_lambda-returns-in-Some-clause-answer : goal.match_lambda-returns-in-Some-clause-answer
match_lambda-returns-in-Some-clause-answer g t c =
    let p = g.D.Sides.patterns c.args.sides.now in
    let s = g.D.Sides.terms c.args.sides.now in
    let k = c.requires.progress.parts.each c.args.p c.in-Some.u (sym c.get.ensures.value ∙ sym c.in-Some.ensures) in
    known_match p s c.term-apart.ensures.apart (inst_tree p s c.args.progress.now.found) c.args.p c.in-Some.u c.args.t k c.requires.term c.eq.result c.eq.ensures

pub match_lambda-returns-in_default-lambda-clause-answer : goal.match_lambda-returns-in_default-lambda-clause-answer
match_lambda-returns-in_default-lambda-clause-answer g t c = lam_apart _ _ _ _ c.requires.is (c.in_default-lambda.ensures.other refl) _ _

pub match_lambda-returns-then-not-same-clause-answer : goal.match_lambda-returns-then-not-same-clause-answer
match_lambda-returns-then-not-same-clause-answer g t c = lam_type _ _ _ _ c.requires.is _ _ c.in-Some-lambda.ensures.parts (refutes c.if-not-same.true c.in_ok-same.ensures.same) _ _

pub match_lambda-returns-then-not-body-clause-answer : goal.match_lambda-returns-then-not-body-clause-answer
match_lambda-returns-then-not-body-clause-answer g t c =
    lam_body _ _ _ _ c.requires.is _ _ c.in-Some-lambda.ensures.parts (c.in_ok-same.ensures.same.0 c.if-not-same.false) _ _ (refused_when c.if-not-body.true c.in_ok-body.ensures.answer)

pub match_lambda-returns-clause-answer : goal.match_lambda-returns-clause-answer
match_lambda-returns-clause-answer g t c =
    answer_when (lam_matched _ _ _ _ c.requires.is _ _ c.in-Some-lambda.ensures.parts (c.in_ok-same.ensures.same.0 c.if-not-same.false) _ _ (matched_when c.if-not-body.false c.in_ok-body.ensures.answer))

pub match_lambda-returns-clause-progress : goal.match_lambda-returns-clause-progress
match_lambda-returns-clause-progress g t c =
    let p = g.D.Sides.patterns c.args.sides.now in
    let s = g.D.Sides.terms c.args.sides.now in
    let old = inst_tree p s c.args.progress.now.found in
    let new = inst_tree p s c.match_part.new.progress.found in
    let whole = lam_matched _ _ _ _ c.requires.is _ _ c.in-Some-lambda.ensures.parts (c.in_ok-same.ensures.same.0 c.if-not-same.false) old new (matched_when c.if-not-body.false c.in_ok-body.ensures.answer) in
    let k = c.in_ok-body.ensures.progress in
    record {
      types = k.types;
      parts = part_put p s new c.match_part.new.progress.parts c.insert.new.self c.args.p c.args.t k.parts (λ q. c.in_ok-insert.ensures.updates.0 q) (part_of p s old new c.args.p c.args.t c.requires.pattern c.requires.term whole);
      found = k.found;
    }

pub match_part-returns-in_ok-matched-in-Free-2-clause-answer : goal.match_part-returns-in_ok-matched-in-Free-2-clause-answer
match_part-returns-in_ok-matched-in-Free-2-clause-answer g t c = free_match _ _ _ (refutes c.if-is_schematic.false c.is_schematic.ensures) _ _ c.in-Free.ensures.tree _ _ c.in_ok-matched-in-Free-2.ensures.same

pub match_part-returns-in_ok-matched-in-Bound-clause-answer : goal.match_part-returns-in_ok-matched-in-Bound-clause-answer
match_part-returns-in_ok-matched-in-Bound-clause-answer g t c = bound_match _ _ _ _ c.in-Bound.ensures.tree _ _ c.in_ok-matched-in-Bound.ensures.same

pub match_part-returns-in_ok-matched-in-Const-clause-answer : goal.match_part-returns-in_ok-matched-in-Const-clause-answer
match_part-returns-in_ok-matched-in-Const-clause-answer g t c = constant_match _ _ _ _ c.in-Const.ensures.tree _ _ c.in_ok-matched-in-Const.ensures.same

pub match_part-returns-in-Num-clause-answer : goal.match_part-returns-in-Num-clause-answer
match_part-returns-in-Num-clause-answer g t c =
    let s = g.D.Sides.terms c.args.sides.now in
    let same : IsTrue c.is_number.result ↔ (NumTm c.in-Num.z ≡ term_tree s c.args.t) = let k = c.is_number.ensures in search rules in
    number_match c.in-Num.z (term_tree (g.D.Sides.patterns c.args.sides.now) c.args.p) (term_tree s c.args.t) c.in-Num.ensures.tree _ c.is_number.result same
