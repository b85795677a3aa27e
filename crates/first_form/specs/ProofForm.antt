-- The first proof form: `asserted`, `mp` and `unit-resolution`, down to `false`.
use Rattle.std.specs.Prelude.{ℕ, ◌+◌, List, Option, Some, None, Bool, false, ◌&&◌, if◌then◌else◌, nat_eq, nat_lt, bytes_eq, codes}
use Rattle.std.specs.List.{list_any}
use Rattle.hol_terms.specs.Term.{Term}
use Rattle.hol_terms.specs.TermEq.{term_eq}
use Rattle.hol_terms.specs.Constants.{false_tm}
use Rattle.sexp.specs.Tree.{Tree, Trees, AtomTree, QuotedTree, ListTree, no_trees, more_trees}
use Rattle.proof_plan.specs.declared.rule.Rule.{Rule}
use Rattle.proof_plan.specs.declared.rule.Rule.TheVariants.{Asserted, Mp, UnitResolution}
use Rattle.first_form.specs.Read.{◌>>=◌}
use Rattle.first_form.specs.Trees.{text_of, one_of, is_empty}
use Rattle.first_form.specs.Formulas.{formula_of}
use Rattle.first_form.specs.Forest.{trees_of}
use Rattle.first_form.specs.Source.{Source}

mutual
  -- a rule application: the byte of its opening parenthesis, its rule, its premises and its conclusion
  pub data Proof : Type 0 where
    Step : (at : ℕ) → (rule : Rule) → (premises : Proofs) → (claim : Term) → Proof

  pub data Proofs : Type 0 where
    no_proofs : Proofs
    more_proofs : (first : Proof) → (rest : Proofs) → Proofs

-- how many proofs there are
abbrev pub count : Proofs → ℕ
count no_proofs = 0
count (more_proofs first rest) = count rest + 1

-- what a proof shows
abbrev pub claim_of : Proof → Term
claim_of (Step at rule premises claim) = claim

-- the rule of a name
abbrev pub rule_of : List ℕ → Option Rule
rule_of word =
    if bytes_eq word (codes "asserted") then Some Asserted else
    if bytes_eq word (codes "mp") then Some Mp else
    if bytes_eq word (codes "unit-resolution") then Some UnitResolution else None

-- the rule takes so many premises, and `asserted` states an assertion
unfoldable pub fits : List Term → Rule → ℕ → Term → Bool
fits assertions Asserted n claim = nat_eq n 0 && list_any (term_eq claim) assertions
fits assertions Mp n claim = nat_eq n 2
fits assertions UnitResolution n claim = nat_lt 0 n
fits assertions rule n claim = false

-- a rule's application to premises with a conclusion
abbrev pub step : Source → ℕ → Rule → Proofs → Term → Option Proof
step source at rule premises claim = if fits source.assertions rule (count premises) claim then Some (Step at rule premises claim) else None

unfoldable mutual
  -- (rule P .. F)
  pub proof_of : Source → Tree → Option Proof
  proof_of source (AtomTree at text) = None
  proof_of source (QuotedTree at text) = None
  proof_of source (ListTree at no_trees) = None
  proof_of source (ListTree at (more_trees head parts)) = do
    rule ← rule_of (text_of head)
    both ← premises_of source parts
    claim ← formula_of source.consts both.1
    step source at rule both.0 claim

  -- the premises, and the last tree
  pub premises_of : Source → Trees → Option (Proofs × Tree)
  premises_of source no_trees = None
  premises_of source (more_trees tree trees) = if is_empty trees then Some (no_proofs, tree) else (do
    first ← proof_of source tree
    others ← premises_of source trees
    Some (more_proofs first others.0, others.1))

-- (proof P)
unfoldable pub wrapped : Tree → Option Tree
wrapped (AtomTree at text) = None
wrapped (QuotedTree at text) = None
wrapped (ListTree at no_trees) = None
wrapped (ListTree at (more_trees head parts)) = if bytes_eq (text_of head) (codes "proof") then one_of parts else None

unfoldable mutual
  -- how many rule applications a proof has
  pub size : Proof → ℕ
  size (Step at rule premises claim) = sizes premises + 1

  pub sizes : Proofs → ℕ
  sizes no_proofs = 0
  sizes (more_proofs first rest) = size first + sizes rest

-- the tree of the proof, where the trees are just (proof P)
abbrev pub proof_tree : Trees → Option Tree
proof_tree trees = do
  tree ← one_of trees
  wrapped tree

-- a proof of `false` with at most 400,000 rule applications
abbrev pub refuting : Proof → Option Proof
refuting proof = if term_eq (claim_of proof) false_tm && nat_lt (size proof) 400001 then Some proof else None

-- the proof of `false` that a tree is read as
abbrev pub refutation_of : Source → Tree → Option Proof
refutation_of source tree = do
  proof ← proof_of source tree
  refuting proof

-- the proof of `false` that a text of the first proof form says
unfoldable pub proof_form : Source → List ℕ → Option Proof
proof_form source text = do
  trees ← trees_of text
  tree ← proof_tree trees
  refutation_of source tree
