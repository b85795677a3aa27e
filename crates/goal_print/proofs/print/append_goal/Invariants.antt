use Rattle.hol_terms.specs.TermStore.{term_tree}
use Rattle.goal_text.specs.Names.{Constants}
use Rattle.goal_print.specs.TermText.{goal_text}
use Rattle.goal_print.specs.Pieces.{HavePieces, IsPart, KnowsSchematic, rest_text, rest_work}
use Rattle.goal_print.proofs.print.append_goal.Given as goal

-- what is appended so far and what the pieces stand for are the goal's text
abbrev pub invariant-loop-piece : goal.invariant-loop-piece
invariant-loop-piece l = record {
  there : HavePieces l.base l.pieces.items;
  text : (consts : Constants) → KnowsSchematic l.base consts l.schematic → IsPart (goal_text consts (term_tree l.base l.fn.goal)) l.fn.out l.out (rest_text l.base consts l.pieces.items);
}

abbrev pub decreases-loop-piece : goal.decreases-loop-piece
decreases-loop-piece l = rest_work l.base l.pieces.items
