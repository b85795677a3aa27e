-- What the rule applications that are read stand for.
use Rattle.std.specs.Prelude.{◌≡◌, ◌⊎◌, ℕ, suc, ◌<◌, List, [], ◌∷◌, ◌++◌, length, map, codes, decimal, All}
use Rattle.hol_terms.specs.TermStore.{TermStore, term_tree}
use Rattle.hol_terms.specs.Formula.{In}
use Rattle.proof_plan.specs.Rules.{TakesPremises}
use Rattle.proof_plan.specs.declared.node.PlanNode.{PlanNode}
use Rattle.proof_plan.specs.declared.rule.Rule.{Rule}
use Rattle.proof_plan.specs.declared.rule.Rule.TheVariants.{Asserted, Mp, UnitResolution}
use Rattle.sexp.specs.Tree.{Tree}
use Rattle.first_form.specs.declared.lexicon.Lexicon.{Lexicon}
use Rattle.goal_text.specs.Scope.{terms_at}
use Rattle.goal_text.specs.Sentences.{HasSentence, HaveSentences}
use Rattle.first_form.specs.Lexicon.{IsLexicon, names_of}
use Rattle.first_form.specs.ProofForm.{Proof, Proofs}
use Rattle.first_form.specs.Source.{Source}
use Rattle.first_form.specs.ProofNodes.{ProofNode, nodes_from, nodes_from_all, roots}

-- a rule application, its conclusion as a tree
abbrev pub node_in : TermStore → PlanNode → ProofNode
node_in s n = record { name = n.name; place = n.place; rule = n.rule; premises = n.premises; claim = term_tree s n.claim }

abbrev pub nodes_in : TermStore → List PlanNode → List ProofNode
nodes_in s nodes = map (node_in s) nodes

-- a rule application as a plan keeps it
abbrev pub plan_node : ℕ → Rule → List ℕ → ℕ → PlanNode
plan_node place rule premises claim = record { name = codes "#" ++ decimal place; place = place; rule = rule; weights = []; premises = premises; vars = []; claim = claim; hyps = [] }

-- one of the rules of the first proof form
abbrev pub IsFirstRule : Rule → Type 0
IsFirstRule r = (r ≡ Asserted) ⊎ (r ≡ Mp) ⊎ (r ≡ UnitResolution)

-- rule application k
pub record IsStep (s : TermStore) (assertions : List ℕ) (k : ℕ) (n : PlanNode) : Type 0 where
  pub claim : HasSentence s n.claim
  pub weights : n.weights ≡ []
  pub vars : n.vars ≡ []
  pub hyps : n.hyps ≡ []
  pub rule : IsFirstRule n.rule
  pub count : TakesPremises n.rule (length n.premises)
  pub below : All (λ j. j < k) n.premises
  pub asserted : n.rule ≡ Asserted → In n.claim assertions

-- rule applications numbered from k on
abbrev pub AreSteps : TermStore → List ℕ → ℕ → List PlanNode → Type 0
AreSteps s assertions k [] = Unit {0}
AreSteps s assertions k (n ∷ ns) = IsStep s assertions k n × AreSteps s assertions (suc k) ns

-- the nodes so far, and those of a proof behind them
abbrev pub nodes_with : List ProofNode → Proof → List ProofNode
nodes_with before proof = before ++ nodes_from (length before) proof

-- the nodes so far and those of premises behind them, the numbers of the premises so far and of these, and the last tree
abbrev pub premises_with : List ProofNode → List ℕ → Proofs × Tree → (List ProofNode × List ℕ) × Tree
premises_with before numbers both = ((before ++ nodes_from_all (length before) both.0, numbers ++ roots (length before) both.0), both.1)

-- what the lexicon and the assertions stand for
abbrev pub source_in : TermStore → Lexicon → List ℕ → Source
source_in s lexicon assertions = record { consts = names_of lexicon.constants; assertions = terms_at s assertions }

-- their numbers are those of constants and sentences
pub record IsSource (s : TermStore) (lexicon : Lexicon) (assertions : List ℕ) : Type 0 where
  pub lexicon_is : IsLexicon s lexicon
  pub assertions_are : HaveSentences s assertions
