use Rattle.std.proofs.Common.{◌≡◌, ◌∙◌, ◌++◌, ◌∷◌, ◌<◌, ◌-◌, ◌+◌, ℕ, [], Some, None, true, false, length, refl, sym, ap, subst, rules, arith}
use Rattle.std.specs.Prelude.{option_map}
use Rattle.std.proofs.lemmas.Result.{err_from_is_err_and}
use Rattle.std.proofs.lemmas.List.Elements.{All-push}
use Rattle.hol_terms.specs.TermStore.{term_tree}
use Rattle.hol_terms.proofs.KeepsLemmas.{keeps_trans}
use Rattle.sexp.specs.Tree.{place, no_trees}
use Rattle.sexp.specs.Forest.{tree_at, trees_at}
use Rattle.first_form.specs.Read.{Fails}
use Rattle.first_form.specs.Trees.{is_empty, text_of}
use Rattle.goal_text.specs.Scope.{terms_at}
use Rattle.proof_plan.specs.Rules.{TakesPremises}
use Rattle.first_form.specs.ProofForm.{proof_of, rule_of, fits}
use Rattle.first_form.specs.Source.{Source}
use Rattle.first_form.specs.ProofNodes.{node}
use Rattle.first_form.specs.Steps.{IsStep, nodes_in, nodes_with, plan_node, source_in}
use Rattle.first_form.proofs.ProofLemmas.{premises_step, premises_fail, premises_last, premises_none, proof-other, proof-empty, proof-no_rule, proof-premises, proof-claim, proof-unfit, proof-step}
use Rattle.first_form.proofs.LexiconLemmas.{terms_kept}
use Rattle.first_form.proofs.StepLemmas.{source_kept, source_same, nodes_length, all_below, steps_kept, steps_pushed, nodes_kept, nodes_pushed}
use Rattle.first_form.proofs.proof_form.+steps.Goals as goal

pub premises_at-returns-then-is_empty-clause-read : goal.premises_at-returns-then-is_empty-clause-read
premises_at-returns-then-is_empty-clause-read t c =
    let src = source_in c.args.steps.now.base c.args.lexicon.now c.args.assertions.now in
    let none : is_empty (trees_at c.args.forest.now c.in-Some.after c.args.end) ≡ true = search rules in
    premises_last src _ _ _ _ c.loop-after.invariant.read _ _ c.in-Some.ensures.0 none

pub premises_at-returns-in_err-step_at-clause-read : goal.premises_at-returns-in_err-step_at-clause-read
premises_at-returns-in_err-step_at-clause-read t c =
    let p = err_from_is_err_and c.from_residual.result c.from_residual.ensures.1 in
    let old = c.args.steps.now.base in
    let now = c.loop-after.steps.base in
    let l = c.args.lexicon.now in
    let given = c.args.assertions.now in
    let inv = c.loop-after.invariant in
    let same = source_same old now l given inv.keeps c.requires.source.assertions_are in
    let tree = tree_at c.args.forest.now c.loop-after.i in
    let P : Source → Type 0 = λ src. Fails c.in_err-step_at.field-0.0 (option_map (nodes_with (nodes_in now c.loop-after.steps.nodes.items)) (proof_of src tree)) in
    let some : is_empty (trees_at c.args.forest.now c.in-Some.after c.args.end) ≡ false = search rules in
    rw (p.1, p.2) (premises_fail (source_in old l given) _ _ _ _ inv.read c.in_err-step_at.field-0.0 tree _ c.in-Some.ensures.0 some (subst P same c.in_err-step_at.ensures.read))

pub premises_at-loop-after-preserved : goal.premises_at-loop-after-preserved
premises_at-loop-after-preserved t c =
    let old = c.args.steps.now.base in
    let now = c.loop-after.steps.base in
    let new = c.step_at.new.steps.base in
    let nodes = c.step_at.new.steps.nodes.items in
    let l = c.args.lexicon.now in
    let given = c.args.assertions.now in
    let inv = c.loop-after.invariant in
    let k = c.in_ok-step_at.ensures.keeps in
    let same = source_same old now l given inv.keeps c.requires.source.assertions_are in
    let tree = tree_at c.args.forest.now c.loop-after.i in
    let P : Source → Type 0 = λ src. option_map (nodes_with (nodes_in now c.loop-after.steps.nodes.items)) (proof_of src tree) ≡ Some (nodes_in new nodes) in
    let some : is_empty (trees_at c.args.forest.now c.in-Some.after c.args.end) ≡ false = search rules in
    let step = premises_step (source_in old l given) _ _ _ _ inv.read tree _ (nodes_in new nodes) c.in-Some.ensures.0 some (subst P same c.in_ok-step_at.ensures.read) in
    let number : length (nodes_in new nodes) ≡ c.len.result = nodes_length new nodes ∙ sym (c.len.ensures ∙ c.step_at.new.steps.nodes.ok.0) in
    let pushed : c.push.new.self.items ≡ c.loop-after.premises.items ++ (length (nodes_in new nodes) - 1) ∷ [] = rw number c.in_ok-push.ensures.items in
    record {
      run = search rules;
      from = search rules;
      source = source_kept k inv.source;
      keeps = keeps_trans inv.keeps k;
      steps = c.in_ok-step_at.ensures.steps;
      below = rw c.in_ok-push.ensures.items (All-push (λ j. j < length nodes) c.loop-after.premises.items _ (all_below _ _ c.loop-after.premises.items (omega (arith, c.in_ok-step_at.ensures.grows)) inv.below) (omega (arith, c.in_ok-step_at.ensures.some, c.len.ensures)));
      grows = omega (arith, c.in_ok-step_at.ensures.grows, inv.grows);
      read = rw pushed step;
    }

pub premises_at-returns-clause-read : goal.premises_at-returns-clause-read
premises_at-returns-clause-read t c =
    let src = source_in c.args.steps.now.base c.args.lexicon.now c.args.assertions.now in
    premises_none src _ _ _ _ c.loop-after.invariant.read c.in_default.ensures

pub step_at-returns-in_default-clause-read : goal.step_at-returns-in_default-clause-read
step_at-returns-in_default-clause-read t c =
    let src = source_in c.args.steps.now.base c.args.lexicon.now c.args.assertions.now in
    ap (option_map (nodes_with (nodes_in c.args.steps.now.base c.args.steps.now.nodes.items))) (proof-other src (tree_at c.args.forest.now c.args.i) c.in_default.ensures)

pub step_at-returns-in_default-next-clause-read : goal.step_at-returns-in_default-next-clause-read
step_at-returns-in_default-next-clause-read t c =
    let src = source_in c.args.steps.now.base c.args.lexicon.now c.args.assertions.now in
    let before = nodes_in c.args.steps.now.base c.args.steps.now.nodes.items in
    let tree = tree_at c.args.forest.now c.args.i in
    ap (option_map (nodes_with before)) (proof-empty src before tree tree _ no_trees _ c.in-Some.ensures.0 c.in_default-next.ensures)

pub step_at-returns-in_default-rule_of-clause-read : goal.step_at-returns-in_default-rule_of-clause-read
step_at-returns-in_default-rule_of-clause-read t c =
    let src = source_in c.args.steps.now.base c.args.lexicon.now c.args.assertions.now in
    let before = nodes_in c.args.steps.now.base c.args.steps.now.nodes.items in
    let none : rule_of c.text_at.result.now ≡ None = search rules in
    let named : rule_of (text_of (tree_at c.args.forest.now c.in-Some.first)) ≡ None = rw (← c.text_at.ensures) none in
    proof-no_rule src before _ _ _ _ _ c.in-Some.ensures.0 c.in-Some-next.ensures.0 named

pub step_at-returns-in_err-premises-clause-read : goal.step_at-returns-in_err-premises-clause-read
step_at-returns-in_err-premises-clause-read t c =
    let p = err_from_is_err_and c.from_residual.result c.from_residual.ensures.1 in
    let src = source_in c.args.steps.now.base c.args.lexicon.now c.args.assertions.now in
    let before = nodes_in c.args.steps.now.base c.args.steps.now.nodes.items in
    rw (p.1, p.2) (proof-premises src before _ _ _ _ _ c.in-Some.ensures.0 c.in-Some-next.ensures.0 c.in_err-premises.field-0.0 c.in_err-premises.ensures.read)

pub step_at-returns-in_err-claim-clause-read : goal.step_at-returns-in_err-claim-clause-read
step_at-returns-in_err-claim-clause-read t c =
    let p = err_from_is_err_and c.from_residual-in_err-claim.result c.from_residual-in_err-claim.ensures.1 in
    let src = source_in c.args.steps.now.base c.args.lexicon.now c.args.assertions.now in
    let before = nodes_in c.args.steps.now.base c.args.steps.now.nodes.items in
    let nodes = nodes_in c.premises_at.new.steps.base c.premises_at.new.steps.nodes.items in
    let last = tree_at c.args.forest.now c.in_ok-premises.last in
    let found : rule_of c.text_at.result.now ≡ Some c.in-Some-rule_of.rule = search rules in
    let named : rule_of (text_of (tree_at c.args.forest.now c.in-Some.first)) ≡ Some c.in-Some-rule_of.rule = rw (← c.text_at.ensures) found in
    let h = c.in_err-claim.ensures.read in
    rw (p.1, p.2) (proof-claim src before _ _ _ _ _ c.in-Some.ensures.0 c.in-Some-next.ensures.0 c.in-Some-rule_of.rule nodes c.in_ok-premises.premises.items last named c.in_ok-premises.ensures.read c.in_err-claim.field-0.0 h)

pub step_at-returns-then-not-fits-clause-read : goal.step_at-returns-then-not-fits-clause-read
step_at-returns-then-not-fits-clause-read t c =
    let old = c.args.steps.now.base in
    let u = c.formula_at.new.base in
    let given = c.args.assertions.now in
    let src = source_in old c.args.lexicon.now given in
    let before = nodes_in old c.args.steps.now.nodes.items in
    let nodes = nodes_in c.premises_at.new.steps.base c.premises_at.new.steps.nodes.items in
    let last = tree_at c.args.forest.now c.in_ok-premises.last in
    let rule = c.in-Some-rule_of.rule in
    let claim = term_tree u c.in_ok-claim.claim in
    let found : rule_of c.text_at.result.now ≡ Some rule = search rules in
    let named : rule_of (text_of (tree_at c.args.forest.now c.in-Some.first)) ≡ Some rule = rw (← c.text_at.ensures) found in
    let h = c.in_ok-claim.ensures.read in
    let same = terms_kept old u (keeps_trans c.in_ok-premises.ensures.keeps c.in_ok-claim.ensures.keeps) given c.requires.source.assertions_are in
    let answer : c.fits.result ≡ false = search rules in
    let counted : c.len.result ≡ length c.in_ok-premises.premises.items = c.len.ensures ∙ c.in_ok-premises.premises.ok.0 in
    let unfit : fits (terms_at old given) rule (length c.in_ok-premises.premises.items) claim ≡ false = rw (← same, ← counted) (sym c.fits.ensures.tree ∙ answer) in
    proof-unfit src before _ _ _ _ _ c.in-Some.ensures.0 c.in-Some-next.ensures.0 rule nodes c.in_ok-premises.premises.items last named c.in_ok-premises.ensures.read claim h unfit

pub step_at-returns-clause-read : goal.step_at-returns-clause-read
step_at-returns-clause-read t c =
    let old = c.args.steps.now.base in
    let mid = c.premises_at.new.steps.base in
    let u = c.formula_at.new.base in
    let given = c.args.assertions.now in
    let src = source_in old c.args.lexicon.now given in
    let before = nodes_in old c.args.steps.now.nodes.items in
    let ns = c.premises_at.new.steps.nodes.items in
    let numbers = c.in_ok-premises.premises.items in
    let last = tree_at c.args.forest.now c.in_ok-premises.last in
    let rule = c.in-Some-rule_of.rule in
    let claim = term_tree u c.in_ok-claim.claim in
    let found : rule_of c.text_at.result.now ≡ Some rule = search rules in
    let named : rule_of (text_of (tree_at c.args.forest.now c.in-Some.first)) ≡ Some rule = rw (← c.text_at.ensures) found in
    let h = c.in_ok-claim.ensures.read in
    let same = terms_kept old u (keeps_trans c.in_ok-premises.ensures.keeps c.in_ok-claim.ensures.keeps) given c.requires.source.assertions_are in
    let answer : c.fits.result ≡ true = search rules in
    let counted : c.len.result ≡ length numbers = c.len.ensures ∙ c.in_ok-premises.premises.ok.0 in
    let fit : fits (terms_at old given) rule (length numbers) claim ≡ true = rw (← same, ← counted) (sym c.fits.ensures.tree ∙ answer) in
    let step = proof-step src before _ _ _ _ _ c.in-Some.ensures.0 c.in-Some-next.ensures.0 rule (nodes_in mid ns) numbers last named c.in_ok-premises.ensures.read claim h fit in
    let pushed : nodes_in u (ns ++ plan_node (place (tree_at c.args.forest.now c.args.i)) rule numbers c.in_ok-claim.claim ∷ []) ≡ nodes_in mid ns ++ node (place (tree_at c.args.forest.now c.args.i)) rule numbers claim ∷ [] =
    nodes_pushed u ns _ ∙ ap (λ l. l ++ node (place (tree_at c.args.forest.now c.args.i)) rule numbers claim ∷ []) (nodes_kept mid u c.in_ok-claim.ensures.keeps given 0 ns c.in_ok-premises.ensures.steps) in
    rw (c.in_ok-add.ensures.base, c.in_ok-add.ensures.nodes, c.start-place.ensures) (step ∙ ap Some (sym pushed))

pub step_at-returns-clause-steps : goal.step_at-returns-clause-steps
step_at-returns-clause-steps t c =
    let mid = c.premises_at.new.steps.base in
    let u = c.formula_at.new.base in
    let given = c.args.assertions.now in
    let ns = c.premises_at.new.steps.nodes.items in
    let numbers = c.in_ok-premises.premises.items in
    let rule = c.in-Some-rule_of.rule in
    let answer : c.fits.result ≡ true = search rules in
    let T : ℕ → Type 0 = TakesPremises rule in
    let kept = steps_kept mid u c.in_ok-claim.ensures.keeps given 0 ns c.in_ok-premises.ensures.steps in
    let is : IsStep u given (0 + length ns) (plan_node c.start-place.result rule numbers c.in_ok-claim.claim) = record {
      claim = c.in_ok-claim.ensures.formula;
      weights = refl;
      vars = refl;
      hyps = refl;
      rule = c.fits.ensures.first answer;
      count = subst T (c.len.ensures ∙ c.in_ok-premises.premises.ok.0) (c.fits.ensures.count answer);
      below = all_below (length ns) (0 + length ns) numbers (omega arith) c.in_ok-premises.ensures.below;
      asserted = c.fits.ensures.asserted answer;
    } in
    rw (c.in_ok-add.ensures.base, c.in_ok-add.ensures.nodes) (steps_pushed u given 0 ns _ kept is)
