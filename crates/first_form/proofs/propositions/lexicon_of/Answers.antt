use Rattle.std.proofs.Common.{subst, sym}
use Rattle.std.proofs.lemmas.List.{drop_all}
use Rattle.hol_terms.proofs.KeepsLemmas.{keeps_trans}
use Rattle.goal_text.specs.declared.problem.Declared.{Declared}
use Rattle.goal_text.specs.ItemsIn.{HasDeclared}
use Rattle.first_form.specs.Lexicon.{names_of}
use Rattle.first_form.proofs.PropositionLemmas.{declared_at, declared_on, propositions_done, propositions_step}
use Rattle.first_form.proofs.propositions.lexicon_of.Goals as goal

pub add_constant-requires-clause-declared : goal.add_constant-requires-clause-declared
add_constant-requires-clause-declared c =
    let s = c.args.base.now in
    let there = declared_at s c.args.consts.now c.loop-declared.declared-index c.declared-item.result c.requires c.loop-declared-test.true in
    let P : Declared → Type 0 = λ d. HasDeclared s d in
    declared_on c.loop-declared.invariant.keeps (subst P (sym c.declared-item.is) there)

pub loop-declared-preserved : goal.loop-declared-preserved
loop-declared-preserved c =
    let s = c.args.base.now in
    let before = c.loop-declared.invariant in
    let done = c.in_ok-add_constant.ensures in
    let there = declared_at s c.args.consts.now c.loop-declared.declared-index c.declared-item.result c.requires c.loop-declared-test.true in
    let P : Declared → Type 0 = λ d. HasDeclared s d in
    record {
      lexicon_is = done.lexicon;
      keeps = keeps_trans before.keeps done.keeps;
      names = propositions_step s c.loop-declared.base c.args.consts.now c.loop-declared.declared-index c.declared-item.result (names_of c.loop-declared.lexicon.constants) (names_of c.add_constant.new.lexicon.constants) _
          before.keeps c.loop-declared-test.true c.declared-item.is (subst P (sym c.declared-item.is) there) done.names before.names;
    }

pub returns-clause-names : goal.returns-clause-names
returns-clause-names c = propositions_done c.args.base.now c.args.consts.now c.loop-declared.declared-index (names_of c.loop-declared.lexicon.constants) _ (drop_all c.loop-declared.declared-index c.args.consts.now c.loop-declared-test.false) c.loop-declared.invariant.names
