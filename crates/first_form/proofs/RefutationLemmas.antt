-- A proof of `false` and its nodes.
use Rattle.std.proofs.Common.{◌≡◌, ℕ, ◌+◌, ◌-◌, ◌<◌, List, [], ◌∷◌, ◌++◌, Option, Some, None, Bool, true, false, ◌&&◌, length, length-append, get_or, refl, sym, ap, ◌∙◌, arith}
use Rattle.std.specs.Prelude.{option_map, nat_lt}
use Rattle.std.proofs.lemmas.List.{get_or-map, get_or_push}
use Rattle.std.proofs.lemmas.Option.{none-some, same_Some}
use Rattle.hol_terms.specs.Constants.{false_tm}
use Rattle.hol_terms.specs.TermEq.{term_eq}
use Rattle.hol_terms.specs.TermStore.{TermStore, term_tree}
use Rattle.proof_plan.specs.declared.node.PlanNode.{PlanNode}
use Rattle.proof_plan.specs.PlanValue.{no_node}
use Rattle.sexp.specs.Tree.{Tree, Trees}
use Rattle.first_form.specs.declared.failure.FormFailure.{FormFailure}
use Rattle.first_form.specs.declared.failure.FormFailure.TheVariants as failures
use Rattle.first_form.specs.Forest.{trees_of}
use Rattle.first_form.specs.Read.{Fails, ◌>>=◌}
use Rattle.first_form.specs.ProofForm.{Proof, Step, claim_of, proof_form, proof_of, proof_tree, refutation_of, refuting, size}
use Rattle.first_form.specs.Source.{Source}
use Rattle.first_form.specs.ProofNodes.{ProofNode, node, nodes_from, nodes_from_all, nodes_of, roots}
use Rattle.first_form.specs.ProofPlan.{last_claim}
use Rattle.first_form.specs.Steps.{node_in, nodes_in, nodes_with}
use Rattle.first_form.proofs.ProofLemmas.{nodes_long}
use Rattle.first_form.proofs.StepLemmas.{nodes_length}

-- the conclusion of the last node
last_read : (s : TermStore) (nodes : List PlanNode) (before : List ProofNode) (x : ProofNode) → nodes_in s nodes ≡ before ++ x ∷ [] → term_tree s (last_claim nodes) ≡ x.claim
last_read s nodes before x e =
    let n = length nodes - 1 in
    let long : length nodes ≡ length before + 1 = omega (arith, nodes_length s nodes, ap length e, length-append before (x ∷ [])) in
    let there : n < length nodes = omega (arith, long) in
    let at : length before ≡ n = omega (arith, long) in
    let here : get_or (nodes_in s nodes) n x ≡ node_in s (get_or nodes n no_node) = get_or-map (node_in s) nodes n no_node x there in
    let last : get_or (nodes_in s nodes) n x ≡ x = ap (λ ns. get_or ns n x) e ∙ get_or_push before x x n at in
    ap (λ (m : ProofNode). m.claim) (sym here ∙ last)

-- the test of the nodes is that of the proof
test_same : (s : TermStore) (nodes : List PlanNode) (p : Proof) → nodes_in s nodes ≡ nodes_from 0 p
    → (term_eq (term_tree s (last_claim nodes)) false_tm && nat_lt (length nodes) 400001) ≡ (term_eq (claim_of p) false_tm && nat_lt (size p) 400001)
unfolding nodes_from
test_same s nodes (Step at rule premises claim) e =
    let c : term_tree s (last_claim nodes) ≡ claim = last_read s nodes (nodes_from_all 0 premises) (node at rule (roots 0 premises) claim) e in
    let l : length nodes ≡ size (Step at rule premises claim) = sym (nodes_length s nodes) ∙ ap length e ∙ nodes_long 0 (Step at rule premises claim) in
    ap (λ t. term_eq t false_tm && nat_lt (length nodes) 400001) c ∙ ap (λ n. term_eq claim false_tm && nat_lt n 400001) l

module _ (source : Source) (tree : Tree) where
  pub refutation_fails : (x : FormFailure) → Fails x (option_map nodes_of (proof_of source tree)) → Fails x (option_map nodes_of (refutation_of source tree))
  refutation_fails failures.Memory h = tt
  refutation_fails failures.Refused h = by (proof_of source tree) refl
    where
      by : (o : Option Proof) → proof_of source tree ≡ o → option_map nodes_of (refutation_of source tree) ≡ None
      by None i = rw i refl
      by (Some p) i = absurd (none-some (nodes_of p) (sym h ∙ ap (option_map nodes_of) i))

  module _ (s : TermStore) (nodes : List PlanNode) (read : option_map nodes_of (proof_of source tree) ≡ Some (nodes_in s nodes)) where
    proof_is : (p : Proof) × (proof_of source tree ≡ Some p) × (nodes_in s nodes ≡ nodes_from 0 p)
    unfolding nodes_of
    proof_is = by (proof_of source tree) refl
      where
        by : (o : Option Proof) → proof_of source tree ≡ o → (p : Proof) × (proof_of source tree ≡ Some p) × (nodes_in s nodes ≡ nodes_from 0 p)
        by None i = absurd (none-some _ (sym (ap (option_map nodes_of) i) ∙ read))
        by (Some p) i = (p, i, same_Some _ _ (sym read ∙ ap (option_map nodes_of) i))

    abbrev tested : Bool
    tested = term_eq (term_tree s (last_claim nodes)) false_tm && nat_lt (length nodes) 400001

    pub refutation_is : tested ≡ true → option_map nodes_of (refutation_of source tree) ≡ Some (nodes_in s nodes)
    unfolding nodes_of
    refutation_is h =
        let is = proof_is in
        let i = is.1 in
        let test : (term_eq (claim_of is.0) false_tm && nat_lt (size is.0) 400001) ≡ true = sym (test_same s nodes is.0 is.2) ∙ h in
        let one : refutation_of source tree ≡ Some is.0 = ap (λ (o : Option Proof). o >>= λ p. refuting p) i ∙ rw test refl in
        ap (option_map nodes_of) one ∙ ap Some (sym is.2)

    pub refutation_not : tested ≡ false → option_map nodes_of (refutation_of source tree) ≡ None
    refutation_not h =
        let is = proof_is in
        let i = is.1 in
        let test : (term_eq (claim_of is.0) false_tm && nat_lt (size is.0) 400001) ≡ false = sym (test_same s nodes is.0 is.2) ∙ h in
        let none : refutation_of source tree ≡ None = ap (λ (o : Option Proof). o >>= λ p. refuting p) i ∙ rw test refl in
        ap (option_map nodes_of) none

-- behind no nodes
pub read_from_none : (s : TermStore) (old : List PlanNode) (given source : Source) (tree : Tree) → old ≡ [] → given ≡ source
    → option_map (nodes_with (nodes_in s old)) (proof_of given tree) ≡ option_map nodes_of (proof_of source tree)
unfolding nodes_of
read_from_none s old given source tree none same =
    ap (λ ns. option_map (nodes_with (nodes_in s ns)) (proof_of given tree)) none ∙ ap (λ (g : Source). option_map (nodes_with []) (proof_of g tree)) same

-- the proof of a text, step by step
module _ (source : Source) (text : List ℕ) where
  pub proof_without_trees : (x : FormFailure) → Fails x (trees_of text) → Fails x (option_map nodes_of (proof_form source text))
  unfolding proof_form
  proof_without_trees failures.Memory h = tt
  proof_without_trees failures.Refused h = rw h refl

  module _ (trees : Trees) (is : trees_of text ≡ Some trees) where
    pub proof_without_tree : proof_tree trees ≡ None → option_map nodes_of (proof_form source text) ≡ None
    unfolding proof_form
    proof_without_tree h = rw (is, h) refl

    pub proof_from_tree : (stated : Source) (tree : Tree) → stated ≡ source → proof_tree trees ≡ Some tree → option_map nodes_of (proof_form source text) ≡ option_map nodes_of (refutation_of stated tree)
    unfolding proof_form
    proof_from_tree stated tree same inner = rw (is, inner) (ap (λ (g : Source). option_map nodes_of (refutation_of g tree)) (sym same))
