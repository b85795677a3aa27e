use Rattle.std.proofs.Common.{◌∙◌, sym, subst, Option, List}
use Rattle.std.proofs.lemmas.Result.{err_from_is_err_and}
use Rattle.hol_terms.proofs.KeepsLemmas.{keeps_trans}
use Rattle.first_form.specs.Source.{source_at}
use Rattle.first_form.specs.ProofNodes.{ProofNode}
use Rattle.first_form.specs.Read.{Fails}
use Rattle.first_form.specs.Steps.{source_in}
use Rattle.first_form.proofs.RefutationLemmas.{proof_from_tree, proof_without_tree, proof_without_trees}
use Rattle.first_form.proofs.proof_file.read_proof.Goals as goal

pub returns-in_err-forest-clause-read : goal.returns-in_err-forest-clause-read
returns-in_err-forest-clause-read c =
    let p = err_from_is_err_and c.from_residual.result c.from_residual.ensures.1 in
    rw (p.1, p.2) (proof_without_trees (source_at c.args.problem) c.args.text.now c.in_err-forest.field-0.0 c.in_err-forest.ensures)

pub returns-in_default-clause-read : goal.returns-in_default-clause-read
returns-in_default-clause-read c = proof_without_tree (source_at c.args.problem) c.args.text.now _ c.in_ok-forest.ensures c.in_default.ensures.tree

pub returns-in_err-plan-clause-read : goal.returns-in_err-plan-clause-read
returns-in_err-plan-clause-read c =
    let p = err_from_is_err_and c.from_residual-in_err-plan.result c.from_residual-in_err-plan.ensures.1 in
    let is = proof_from_tree (source_at c.args.problem) c.args.text.now _ c.in_ok-forest.ensures (source_in c.in_ok-setting.setting.base c.in_ok-setting.setting.lexicon c.in_ok-setting.setting.assertions) _ c.in_ok-setting.ensures.problem.source c.in-Some.ensures.tree in
    let P : Option (List ProofNode) → Type 0 = Fails c.in_err-plan.field-0.0 in
    rw (p.1, p.2) (subst P (sym is) c.in_err-plan.ensures.read)

pub returns-clause-read : goal.returns-clause-read
returns-clause-read c =
    proof_from_tree (source_at c.args.problem) c.args.text.now _ c.in_ok-forest.ensures (source_in c.in_ok-setting.setting.base c.in_ok-setting.setting.lexicon c.in_ok-setting.setting.assertions) _ c.in_ok-setting.ensures.problem.source c.in-Some.ensures.tree
    ∙ c.in_ok-plan.ensures.read

pub returns-clause-keeps : goal.returns-clause-keeps
returns-clause-keeps c = keeps_trans c.in_ok-setting.ensures.problem.keeps c.in_ok-plan.ensures.keeps
