use Rattle.std.proofs.Common.{◌∙◌, sym}
use Rattle.std.proofs.lemmas.Result.{err_from_is_err_and}
use Rattle.sexp.specs.Forest.{tree_at}
use Rattle.goal_text.proofs.FactLemmas.{formula_fails, formula_read, formula_refused, formula_sentence, items_as_before, items_on}
use Rattle.goal_text.proofs.items.formula_at.Goals as goal

pub returns-in_err-t-clause-read : goal.returns-in_err-t-clause-read
returns-in_err-t-clause-read c =
    let p = err_from_is_err_and c.from_residual.result c.from_residual.ensures.1 in
    rw (p.1, p.2) (formula_fails c.args.items.now c.args.at (tree_at c.args.forest.now c.args.i) c.requires.items.outermost c.in_err-t.field-0.0 c.in_err-t.ensures.read)

pub returns-then-is_bool-clause-read : goal.returns-then-is_bool-clause-read
returns-then-is_bool-clause-read c = formula_read c.args.items.now c.args.at (tree_at c.args.forest.now c.args.i) c.requires.items.outermost _ (sym c.is_bool.ensures ∙ c.if-is_bool.true) c.in_ok-t.ensures.read

pub returns-then-is_bool-clause-sentence : goal.returns-then-is_bool-clause-sentence
returns-then-is_bool-clause-sentence c =
    record {
      there = c.in_ok-t.ensures.there;
      sentence = formula_sentence c.args.items.now c.args.at (tree_at c.args.forest.now c.args.i) c.requires.items.outermost _ c.ty-ty.ensures.typed (sym c.is_bool.ensures ∙ c.if-is_bool.true) c.in_ok-t.ensures.read;
    }

pub returns-then-is_bool-clause-items : goal.returns-then-is_bool-clause-items
returns-then-is_bool-clause-items c = items_on c.args.items.now c.term_at.new.base c.term_at.new.scope c.in_ok-t.ensures.keeps c.in_ok-t.ensures.scope c.requires.items

pub returns-then-is_bool-clause-same : goal.returns-then-is_bool-clause-same
returns-then-is_bool-clause-same c = items_as_before c.args.items.now c.term_at.new.base c.term_at.new.scope c.in_ok-t.ensures.keeps c.in_ok-t.ensures.scope c.requires.items

pub returns-else-is_bool-clause-read : goal.returns-else-is_bool-clause-read
returns-else-is_bool-clause-read c = rw c.refuse.ensures (formula_refused c.args.items.now c.args.at (tree_at c.args.forest.now c.args.i) c.requires.items.outermost _ (sym c.is_bool.ensures ∙ c.if-is_bool.false) c.in_ok-t.ensures.read)
