use Rattle.std.proofs.Common.{◌∙◌, [], sym, arith}
use Rattle.hol_terms.specs.TermStore.{term_tree}
use Rattle.goal_print.specs.TermText.{goal_text}
use Rattle.goal_text.specs.Names.{Constants}
use Rattle.goal_print.specs.Pieces.{AppendsPart, KnowsSchematic, rest_text}
use Rattle.goal_print.specs.declared.piece.Piece.TheVariants as pieces
use Rattle.goal_print.proofs.PutLemmas.{puts_grow}
use Rattle.goal_print.proofs.LoopLemmas.{taken_there, taken_text, taken_less, put_less, part_none, part_written, part_put, on_err}
use Rattle.goal_print.proofs.print.append_goal.Goals as goal

pub returns-in_err-push-clause-err : goal.returns-in_err-push-clause-err
returns-in_err-push-clause-err c =
    let s = c.args.base.now in
    let part : (consts : Constants) → KnowsSchematic s consts c.args.schematic.now → AppendsPart (goal_text consts (term_tree s c.args.goal)) c.args.out.now c.args.out.now =
    λ consts known. (_, part_none _ _) in
    on_err _ _ part

-- ---- a word

pub append_word-requires : goal.append_word-requires
append_word-requires c =
    (taken_there c.args.base.now _ _ _ (pieces.Word c.in-Word.word) c.in-Some.ensures.items c.in-Word.is c.loop-piece.invariant.there).1

pub loop-piece-smaller-in-Continue-branch-2 : goal.loop-piece-smaller-in-Continue-branch-2
loop-piece-smaller-in-Continue-branch-2 c =
    taken_less c.args.base.now _ _ _ (pieces.Word c.in-Word.word) c.in-Some.ensures.items c.in-Word.is (omega arith)

pub loop-piece-preserved-in-Continue-branch-2 : goal.loop-piece-preserved-in-Continue-branch-2
loop-piece-preserved-in-Continue-branch-2 c = record {
  there = (taken_there c.args.base.now _ _ _ (pieces.Word c.in-Word.word) c.in-Some.ensures.items c.in-Word.is c.loop-piece.invariant.there).0;
  text = λ consts known.
      part_written _ _ _ _ _ _ _ (c.loop-piece.invariant.text consts known)
      (taken_text c.args.base.now consts _ _ _ (pieces.Word c.in-Word.word) c.in-Some.ensures.items c.in-Word.is)
      c.in_ok-append_word-in-Word.ensures.ok;
}

pub returns-in_err-append_word-in-Word-clause-err : goal.returns-in_err-append_word-in-Word-clause-err
returns-in_err-append_word-in-Word-clause-err c =
    let s = c.args.base.now in
    let part : (consts : Constants) → KnowsSchematic s consts c.args.schematic.now → AppendsPart (goal_text consts (term_tree s c.args.goal)) c.args.out.now c.append_word.new.out =
    λ consts known. (rest_text s consts c.loop-piece.pieces.items, rw c.in_err-append_word-in-Word.ensures.err (c.loop-piece.invariant.text consts known)) in
    on_err _ _ part

-- ---- a type

pub put_type-requires : goal.put_type-requires
put_type-requires c =
    (taken_there c.args.base.now _ _ _ (pieces.TypeText c.in-TypeText.t c.in-TypeText.given) c.in-Some.ensures.items c.in-TypeText.is c.loop-piece.invariant.there).1

pub loop-piece-smaller-in-Continue-branch-3 : goal.loop-piece-smaller-in-Continue-branch-3
loop-piece-smaller-in-Continue-branch-3 c =
    put_less c.args.base.now _ _ _ _ (pieces.TypeText c.in-TypeText.t c.in-TypeText.given) _ c.in-Some.ensures.items c.in-TypeText.is (puts_grow c.args.base.now _ _ _ _ (c.in_ok-put_type-in-TypeText.ensures [])) (omega arith)

pub loop-piece-preserved-in-Continue-branch-3 : goal.loop-piece-preserved-in-Continue-branch-3
loop-piece-preserved-in-Continue-branch-3 c =
    let piece = pieces.TypeText c.in-TypeText.t c.in-TypeText.given in
    let below = (taken_there c.args.base.now _ _ _ piece c.in-Some.ensures.items c.in-TypeText.is c.loop-piece.invariant.there).0 in
    record {
      there = (c.in_ok-put_type-in-TypeText.ensures []).there below;
      text = λ consts known.
          part_put _ _ _ _ _ (c.loop-piece.invariant.text consts known)
          (taken_text c.args.base.now consts _ _ _ piece c.in-Some.ensures.items c.in-TypeText.is ∙ sym (c.in_ok-put_type-in-TypeText.ensures consts).text_is);
    }

pub returns-in_err-put_type-in-TypeText-clause-err : goal.returns-in_err-put_type-in-TypeText-clause-err
returns-in_err-put_type-in-TypeText-clause-err c =
    let s = c.args.base.now in
    let part : (consts : Constants) → KnowsSchematic s consts c.args.schematic.now → AppendsPart (goal_text consts (term_tree s c.args.goal)) c.args.out.now c.loop-piece.out =
    λ consts known. (_, c.loop-piece.invariant.text consts known) in
    on_err _ _ part

-- ---- a term

pub put_term-requires : goal.put_term-requires
put_term-requires c =
    (taken_there c.args.base.now _ _ _ (pieces.TermText c.in-TermText.place c.in-TermText.depth c.in-TermText.t) c.in-Some.ensures.items c.in-TermText.is c.loop-piece.invariant.there).1

pub loop-piece-smaller : goal.loop-piece-smaller
loop-piece-smaller c =
    put_less c.args.base.now _ _ _ _ (pieces.TermText c.in-TermText.place c.in-TermText.depth c.in-TermText.t) _ c.in-Some.ensures.items c.in-TermText.is c.in_ok-put_term-in-TermText.ensures.grows (omega arith)

pub loop-piece-preserved : goal.loop-piece-preserved
loop-piece-preserved c =
    let piece = pieces.TermText c.in-TermText.place c.in-TermText.depth c.in-TermText.t in
    let below = (taken_there c.args.base.now _ _ _ piece c.in-Some.ensures.items c.in-TermText.is c.loop-piece.invariant.there).0 in
    record {
      there = c.in_ok-put_term-in-TermText.ensures.grows.there below;
      text = λ consts known.
          part_put _ _ _ _ _ (c.loop-piece.invariant.text consts known)
          (taken_text c.args.base.now consts _ _ _ piece c.in-Some.ensures.items c.in-TermText.is ∙ sym (c.in_ok-put_term-in-TermText.ensures.text consts known).text_is);
    }

pub returns-in_err-put_term-in-TermText-clause-err : goal.returns-in_err-put_term-in-TermText-clause-err
returns-in_err-put_term-in-TermText-clause-err c =
    let s = c.args.base.now in
    let part : (consts : Constants) → KnowsSchematic s consts c.args.schematic.now → AppendsPart (goal_text consts (term_tree s c.args.goal)) c.args.out.now c.loop-piece.out =
    λ consts known. (_, c.loop-piece.invariant.text consts known) in
    on_err _ _ part
