use Rattle.std.proofs.Common.{◌≡◌, ◌∙◌, sym, None, nat_eq}
use Rattle.std.specs.Map.{lookup}
use Rattle.hol_terms.specs.Term.{ty_of}
use Rattle.hol_terms.specs.TermStore.{term_tree}
use Rattle.hol_match.specs.Inst.{inst_tree}
use Rattle.hol_match.proofs.MatchLemmas.{answer_when, known_match, parts_kept, refutes, terms_pushed, variable_known, variable_loose, variable_other, variable_taken}
use Rattle.hol_match.proofs.matching.match_variable.Goals as goal

pub returns-in-Some-clause-answer : goal.returns-in-Some-clause-answer
returns-in-Some-clause-answer g c =
    let p = g.D.Sides.patterns c.args.sides.now in
    let s = g.D.Sides.terms c.args.sides.now in
    let qs = c.args.progress.now.found in
    let k = variable_known p s qs c.requires.progress.found c.args.v c.in-Some.given c.requires.variable c.requires.schematic (sym c.in-Some.ensures) in
    known_match p s c.term-apart.ensures.apart (inst_tree p s qs) c.args.v c.in-Some.given c.args.t k c.requires.term c.eq.result c.eq.ensures

pub returns-then-not-is_closed-clause-answer : goal.returns-then-not-is_closed-clause-answer
returns-then-not-is_closed-clause-answer g c = variable_loose _ _ c.requires.schematic (refutes c.if-not-is_closed.true c.is_closed.ensures) _ _

pub returns-then-not-same-clause-answer : goal.returns-then-not-same-clause-answer
returns-then-not-same-clause-answer g c =
    variable_other _ _ c.requires.schematic (λ e. refutes c.if-not-same.true c.in_ok-same.ensures.same (c.requires.its_type ∙ e ∙ sym c.term_type.ensures.ty)) _ _

pub returns-clause-answer : goal.returns-clause-answer
returns-clause-answer g c =
    let p = g.D.Sides.patterns c.args.sides.now in
    let s = g.D.Sides.terms c.args.sides.now in
    let qs = c.args.progress.now.found in
    let none : lookup (nat_eq c.args.v) qs ≡ None = sym c.in_default.ensures in
    answer_when (variable_taken p s c.requires.apart qs c.requires.progress.found c.args.v c.args.t c.requires.variable c.requires.schematic none c.insert.new.self c.in_ok-insert.ensures.ok)

pub returns-clause-progress : goal.returns-clause-progress
returns-clause-progress g c =
    let p = g.D.Sides.patterns c.args.sides.now in
    let s = g.D.Sides.terms c.args.sides.now in
    let qs = c.args.progress.now.found in
    let none : lookup (nat_eq c.args.v) qs ≡ None = sym c.in_default.ensures in
    let e = c.in_ok-insert.ensures.ok in
    let taken = variable_taken p s c.requires.apart qs c.requires.progress.found c.args.v c.args.t c.requires.variable c.requires.schematic none c.insert.new.self e in
    let ty : ty_of (term_tree s c.args.t) ≡ ty_of (term_tree p c.args.v) = sym c.term_type.ensures.ty ∙ sym (c.in_ok-same.ensures.same.0 c.if-not-same.false) ∙ c.requires.its_type in
    record {
      types = c.in_ok-same.ensures.known;
      parts = parts_kept taken c.requires.progress.parts;
      found = terms_pushed p s qs c.requires.progress.found c.args.v c.args.t c.requires.variable c.requires.term c.requires.schematic ty (c.is_closed.ensures.0 c.if-not-is_closed.false) c.insert.new.self e;
    }
