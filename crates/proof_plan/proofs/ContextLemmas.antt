-- What a plan's nodes may use are formulas.
use Rattle.std.proofs.Common.{◌≡◌, ℕ, ◌<◌, List, [], ◌∷◌, length, map}
use Rattle.std.specs.List.{All}
use Rattle.std.proofs.lemmas.List.Elements.{All-head, All-tail}
use Rattle.hol_terms.specs.Formula.{AllFormulas}
use Rattle.hol_terms.proofs.SetLemmas.{no_formulas, one_more, formulas_both}
use Rattle.hol_terms.specs.declared.parts.Def.{Def}
use Rattle.proof_plan.specs.PlanValue.{PlanValue, node_at, trees_in}
use Rattle.proof_plan.specs.Claims.{Facts, definition, Context, Hyps}
use Rattle.proof_plan.specs.IsPlan.{IsPlan, IsFormulaIn, IsAssertionIn, IsDefinitionIn}

-- the trees of formulas of the plan are formulas
formulas_in : (p : PlanValue) (ts : List ℕ) → All (IsFormulaIn p) ts → AllFormulas (trees_in p ts)
formulas_in p [] all = no_formulas
formulas_in p (t ∷ ts) all = one_more (All-head (IsFormulaIn p) t ts all).formula (formulas_in p ts (All-tail (IsFormulaIn p) t ts all))

assertions_in : (p : PlanValue) (ts : List ℕ) → All (IsAssertionIn p) ts → AllFormulas (trees_in p ts)
assertions_in p [] all = no_formulas
assertions_in p (t ∷ ts) all = one_more (All-head (IsAssertionIn p) t ts all).context.formula (assertions_in p ts (All-tail (IsAssertionIn p) t ts all))

definitions_in : (p : PlanValue) (ds : List Def) → All (IsDefinitionIn p) ds → AllFormulas (map (λ d. definition p d) ds)
definitions_in p [] all = no_formulas
definitions_in p (d ∷ ds) all = one_more (All-head (IsDefinitionIn p) d ds all).context.formula (definitions_in p ds (All-tail (IsDefinitionIn p) d ds all))

pub facts_formulas : (p : PlanValue) → IsPlan p → AllFormulas (Facts p)
facts_formulas p plan = formulas_in p p.parts.facts plan.facts

pub context_formulas : (p : PlanValue) → IsPlan p → AllFormulas (Context p)
context_formulas p plan = formulas_both (assertions_in p p.parts.assertions plan.assertions) (definitions_in p p.definitions plan.definitions)

pub hyps_formulas : (p : PlanValue) → IsPlan p → (k : ℕ) → k < length p.nodes → AllFormulas (Hyps p k)
hyps_formulas p plan k there = formulas_both (context_formulas p plan) (formulas_in p (node_at p k).hyps (plan.nodes k there).hyps_there)

-- the same for a plan that was opened
pub opened_facts : (p v : PlanValue) → v ≡ p → IsPlan v → AllFormulas (Facts p)
opened_facts p v same plan = facts_formulas p (rw (← same) plan)

pub opened_context : (p v : PlanValue) → v ≡ p → IsPlan v → AllFormulas (Context p)
opened_context p v same plan = context_formulas p (rw (← same) plan)

pub opened_hyps : (p v : PlanValue) (k : ℕ) → v ≡ p → IsPlan v → k < length p.nodes → AllFormulas (Hyps p k)
opened_hyps p v k same plan there = hyps_formulas p (rw (← same) plan) k there
