-- The rule applications of a proof by number.
use Rattle.std.specs.Prelude.{ℕ, ◌+◌, ◌-◌, List, [], ◌∷◌, ◌++◌, codes, decimal}
use Rattle.hol_terms.specs.Term.{Term}
use Rattle.proof_plan.specs.declared.rule.Rule.{Rule}
use Rattle.first_form.specs.ProofForm.{Proof, Proofs, Step, no_proofs, more_proofs, size}

-- a rule application, its premises by number
pub record ProofNode : Type 0 where
  pub name : List ℕ
  pub place : ℕ
  pub rule : Rule
  pub premises : List ℕ
  pub claim : Term

-- a rule application is named by `#` and the byte of its opening parenthesis
abbrev pub node : ℕ → Rule → List ℕ → Term → ProofNode
node at rule premises claim = record { name = codes "#" ++ decimal at; place = at; rule = rule; premises = premises; claim = claim }

-- the numbers of the proofs' last nodes, the first proof's nodes being numbered from n on
unfoldable pub roots : ℕ → Proofs → List ℕ
roots n no_proofs = []
roots n (more_proofs first rest) = (n + size first - 1) ∷ roots (n + size first) rest

unfoldable mutual
  -- the nodes of a proof, numbered from n on: those of the premises from left to right, and then its own
  pub nodes_from : ℕ → Proof → List ProofNode
  nodes_from n (Step at rule premises claim) = nodes_from_all n premises ++ node at rule (roots n premises) claim ∷ []

  pub nodes_from_all : ℕ → Proofs → List ProofNode
  nodes_from_all n no_proofs = []
  nodes_from_all n (more_proofs first rest) = nodes_from n first ++ nodes_from_all (n + size first) rest

-- the nodes of a proof in the order of their numbers
unfoldable pub nodes_of : Proof → List ProofNode
nodes_of proof = nodes_from 0 proof
