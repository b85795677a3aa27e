-- What every plan is.
use Rattle.std.specs.Prelude.{◌≡◌, ◌⊎◌, ℕ, ◌<◌, ◌-◌, List, [], length, All}
use Rattle.hol_types.specs.Ty.{Ty}
use Rattle.hol_terms.specs.Term.{Term, FreeTm}
use Rattle.hol_terms.specs.TermStore.{HasTerm}
use Rattle.hol_terms.specs.Substitution.{free_variables}
use Rattle.hol_terms.specs.Formula.{IsFormula, In, SameMembers}
use Rattle.hol_terms.specs.Constants.{false_tm}
use Rattle.hol_terms.specs.declared.node.FreeKind.{FreeKind}
use Rattle.hol_terms.specs.declared.node.FreeKind.TheVariants.{Open, Symbol, Lifted}
use Rattle.proof_plan.specs.declared.rule.Rule.{Rule}
use Rattle.proof_plan.specs.declared.rule.Rule.TheVariants.{Asserted, Goal, QuantIntro, NnfPos, NnfNeg}
use Rattle.proof_plan.specs.declared.node.PlanNode.{PlanNode}
use Rattle.hol_terms.specs.declared.parts.Def.{Def}
use Rattle.proof_plan.specs.Rules.{TakesPremises}
use Rattle.proof_plan.specs.PlanValue.{PlanValue, node_at, tree_in, trees_in, claim_of}
use Rattle.proof_plan.specs.Claims.{definition}
use Rattle.proof_plan.specs.OpenHypotheses.{hyps_of}

-- a term of the plan that is a formula
pub record IsFormulaIn (p : PlanValue) (t : ℕ) : Type 0 where
  pub there : HasTerm p.store t
  pub formula : IsFormula (tree_in p t)

-- the kind of a variable that every node may use
abbrev pub IsGivenKind : FreeKind → Type 0
IsGivenKind k = (k ≡ Symbol) ⊎ (k ≡ Lifted)

-- each free variable is a symbol or a lifted lambda
abbrev pub HasGivenOnly : Term → Type 0
HasGivenOnly f = (k : FreeKind) (n : List ℕ) (ty : Ty) → In (FreeTm k n ty) (free_variables f) → IsGivenKind k

-- a formula that every node may use
pub record IsContextFormula (f : Term) : Type 0 where
  pub formula : IsFormula f
  pub given : HasGivenOnly f

-- the term is in the plan and is such a formula
pub record IsAssertionIn (p : PlanValue) (t : ℕ) : Type 0 where
  pub there : HasTerm p.store t
  pub context : IsContextFormula (tree_in p t)

-- the symbol and what it stands for are in the plan, and so is their equation, which is such a formula
pub record IsDefinitionIn (p : PlanValue) (d : Def) : Type 0 where
  pub symbol : HasTerm p.store d.symbol
  pub body : HasTerm p.store d.body
  pub equation : ℕ
  pub there : HasTerm p.store equation
  pub is : tree_in p equation ≡ definition p d
  pub context : IsContextFormula (definition p d)

-- a variable of the plan that stands for one of a quantifier
pub record IsVariableIn (p : PlanValue) (t : ℕ) : Type 0 where
  pub there : HasTerm p.store t
  pub name : List ℕ
  pub type : Ty
  pub is : tree_in p t ≡ FreeTm Open name type

-- the rule states an assertion
abbrev pub StatesAssertion : Rule → Type 0
StatesAssertion r = (r ≡ Asserted) ⊎ (r ≡ Goal)

-- the rule may add variables to the environment of its premises
abbrev pub MayAddVariables : Rule → Type 0
MayAddVariables r = (r ≡ QuantIntro) ⊎ (r ≡ NnfPos) ⊎ (r ≡ NnfNeg)

-- what node k of a plan is
pub record IsNode (p : PlanValue) (k : ℕ) (n : PlanNode) : Type 0 where
  pub count : TakesPremises n.rule (length n.premises)
  pub below : All (λ j. j < k) n.premises
  pub claim : IsFormulaIn p n.claim
  pub variables : All (IsVariableIn p) n.vars
  pub adds : (n.vars ≡ []) ⊎ MayAddVariables n.rule
  pub hyps_there : All (IsFormulaIn p) n.hyps
  pub hyps : SameMembers (trees_in p n.hyps) (hyps_of p n)
  pub asserted : StatesAssertion n.rule → In n.claim p.parts.assertions

-- what every plan is; `sk` and `intro-def` nodes define nothing as long as their rows aren't read, so that the
-- definitions are those of the lifted lambdas
pub record IsPlan (p : PlanValue) : Type 0 where
  pub some : 0 < length p.nodes
  pub few : length p.nodes < 400001
  pub facts : All (IsFormulaIn p) p.parts.facts
  pub goal : IsFormulaIn p p.parts.goal
  pub assertions : All (IsAssertionIn p) p.parts.assertions
  pub lifted : p.definitions ≡ p.parts.defs
  pub definitions : All (IsDefinitionIn p) p.definitions
  pub nodes : (k : ℕ) → k < length p.nodes → IsNode p k (node_at p k)
  pub root : claim_of p (length p.nodes - 1) ≡ false_tm
  pub closed : (node_at p (length p.nodes - 1)).hyps ≡ []
