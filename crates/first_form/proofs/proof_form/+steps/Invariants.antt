use Rattle.std.proofs.Common.{◌≡◌, ◌<◌, ◌≤◌, ◌+◌, ◌-◌, ◌*◌, [], length}
use Rattle.std.specs.Prelude.{All, option_map}
use Rattle.hol_terms.specs.TermStore.{Keeps}
use Rattle.sexp.specs.Forest.{after_of, trees_at, IsRun}
use Rattle.first_form.specs.ProofForm.{premises_of}
use Rattle.first_form.specs.Steps.{AreSteps, IsSource, nodes_in, premises_with, source_in}
use Rattle.first_form.proofs.proof_form.+steps.Given as goal

abbrev pub decreases-step_at : goal.decreases-step_at
decreases-step_at l = 2 * (after_of l.forest.now l.i - l.i)

abbrev pub decreases-premises_at : goal.decreases-premises_at
decreases-premises_at l = 2 * (l.end - l.first) + 1

-- the premises so far, and then those of the trees to come
abbrev pub invariant-premises_at-loop-after : goal.invariant-premises_at-loop-after
invariant-premises_at-loop-after l =
    record {
      run : IsRun l.forest l.i l.end;
      from : l.first ≤ l.i;
      source : IsSource l.steps.base l.lexicon l.assertions;
      keeps : Keeps l.fn.steps.base l.steps.base;
      steps : AreSteps l.steps.base l.assertions 0 l.steps.nodes.items;
      below : All (λ j. j < length l.steps.nodes.items) l.premises.items;
      grows : length l.fn.steps.nodes.items ≤ length l.steps.nodes.items;
      read : option_map (premises_with (nodes_in l.steps.base l.steps.nodes.items) l.premises.items) (premises_of (source_in l.fn.steps.base l.lexicon l.assertions) (trees_at l.forest l.i l.end))
          ≡ option_map (premises_with (nodes_in l.fn.steps.base l.fn.steps.nodes.items) []) (premises_of (source_in l.fn.steps.base l.lexicon l.assertions) (trees_at l.forest l.first l.end));
    }

abbrev pub decreases-premises_at-loop-after : goal.decreases-premises_at-loop-after
decreases-premises_at-loop-after l = l.end - l.i
