-- Proofs read one premise after the other, and their nodes by number.
use Rattle.std.proofs.Common.{◌≡◌, ℕ, ◌+◌, ◌-◌, List, [], ◌∷◌, ◌++◌, Option, Some, None, true, false, length, length-append, refl, sym, ap, ◌∙◌, append_assoc, arith}
use Rattle.std.specs.Prelude.{option_map}
use Rattle.std.proofs.lemmas.List.{append-nil}
use Rattle.std.proofs.lemmas.Option.{none-some, same_Some}
use Rattle.hol_terms.specs.Term.{Term}
use Rattle.sexp.specs.Tree.{Tree, Trees, AtomTree, QuotedTree, ListTree, no_trees, more_trees}
use Rattle.proof_plan.specs.declared.rule.Rule.{Rule}
use Rattle.first_form.specs.declared.failure.FormFailure.{FormFailure}
use Rattle.first_form.specs.declared.failure.FormFailure.TheVariants as failures
use Rattle.first_form.specs.Read.{◌>>=◌, Fails}
use Rattle.first_form.specs.Trees.{is_empty, parts_of, text_of}
use Rattle.first_form.specs.Formulas.{formula_of}
use Rattle.first_form.specs.ProofForm.{Proof, Proofs, Step, no_proofs, more_proofs, count, fits, step, rule_of, proof_of, premises_of, size, sizes}
use Rattle.first_form.specs.Source.{Source}
use Rattle.first_form.specs.ProofNodes.{ProofNode, node, roots, nodes_from, nodes_from_all}
use Rattle.first_form.specs.Steps.{nodes_with, premises_with}

mutual
  unfolding size sizes nodes_from nodes_from_all

  pub nodes_long : (n : ℕ) (p : Proof) → length (nodes_from n p) ≡ size p
  nodes_long n (Step at rule premises claim) =
      let e = length-append (nodes_from_all n premises) (node at rule (roots n premises) claim ∷ []) in
      let f = all_long n premises in
      omega arith

  all_long : (n : ℕ) (ps : Proofs) → length (nodes_from_all n ps) ≡ sizes ps
  all_long n no_proofs = refl
  all_long n (more_proofs p ps) =
      let e = length-append (nodes_from n p) (nodes_from_all (n + size p) ps) in
      let f = nodes_long n p in
      let g = all_long (n + size p) ps in
      omega arith

pub roots_long : (n : ℕ) (ps : Proofs) → length (roots n ps) ≡ count ps
unfolding roots
roots_long n no_proofs = refl
roots_long n (more_proofs p ps) = let r = roots_long (n + size p) ps in omega arith

-- one premise more
premises_more : (before : List ProofNode) (numbers : List ℕ) (p : Proof) (both : Proofs × Tree) (more : List ProofNode) → more ≡ nodes_with before p
    → premises_with more (numbers ++ (length more - 1) ∷ []) both ≡ premises_with before numbers (more_proofs p both.0, both.1)
unfolding nodes_from_all roots
premises_more before numbers p both more e =
    let l : length more ≡ length before + size p = omega (arith, ap length e, length-append before (nodes_from (length before) p), nodes_long (length before) p) in
    let nodes : more ++ nodes_from_all (length before + size p) both.0 ≡ before ++ (nodes_from (length before) p ++ nodes_from_all (length before + size p) both.0) = ap (λ m. m ++ nodes_from_all (length before + size p) both.0) e ∙ assoc before (nodes_from (length before) p) (nodes_from_all (length before + size p) both.0) in
    let numbers_are : (numbers ++ (length before + size p - 1) ∷ []) ++ roots (length before + size p) both.0 ≡ numbers ++ ((length before + size p - 1) ∷ roots (length before + size p) both.0) = simp append_assoc in
    rw (l, nodes, numbers_are) refl
  where
    assoc : {A : Type 0} (x y z : List A) → (x ++ y) ++ z ≡ x ++ (y ++ z)
    assoc x y z = simp append_assoc

module _ (source : Source) (before : List ProofNode) (numbers : List ℕ) (trees : Trees) (total : Option ((List ProofNode × List ℕ) × Tree)) (so_far : option_map (premises_with before numbers) (premises_of source trees) ≡ total) where
  pub premises_step : (tree : Tree) (rest : Trees) (more : List ProofNode) → trees ≡ more_trees tree rest → is_empty rest ≡ false → option_map (nodes_with before) (proof_of source tree) ≡ Some more
      → option_map (premises_with more (numbers ++ (length more - 1) ∷ [])) (premises_of source rest) ≡ total
  unfolding premises_of
  premises_step tree rest more e some h = by (proof_of source tree) refl (premises_of source rest) refl
    where
      by : (o : Option Proof) → proof_of source tree ≡ o → (q : Option (Proofs × Tree)) → premises_of source rest ≡ q → option_map (premises_with more (numbers ++ (length more - 1) ∷ [])) (premises_of source rest) ≡ total
      by None i q j = absurd (none-some more (sym (ap (option_map (nodes_with before)) i) ∙ h))
      by (Some p) i None j =
          let none : option_map (premises_with before numbers) (premises_of source (more_trees tree rest)) ≡ None = rw (some, i, j) refl in
          rw j (sym none ∙ ap (λ ts. option_map (premises_with before numbers) (premises_of source ts)) (sym e) ∙ so_far)
      by (Some p) i (Some both) j =
          let is : more ≡ nodes_with before p = sym (same_Some _ _ (sym (ap (option_map (nodes_with before)) i) ∙ h)) in
          let one : option_map (premises_with before numbers) (premises_of source (more_trees tree rest)) ≡ Some (premises_with before numbers (more_proofs p both.0, both.1)) = rw (some, i, j) refl in
          rw j (ap Some (premises_more before numbers p both more is) ∙ sym one ∙ ap (λ ts. option_map (premises_with before numbers) (premises_of source ts)) (sym e) ∙ so_far)

  pub premises_fail : (x : FormFailure) (tree : Tree) (rest : Trees) → trees ≡ more_trees tree rest → is_empty rest ≡ false → Fails x (option_map (nodes_with before) (proof_of source tree)) → Fails x total
  unfolding premises_of
  premises_fail failures.Memory tree rest e some h = tt
  premises_fail failures.Refused tree rest e some h = by (proof_of source tree) refl
    where
      by : (o : Option Proof) → proof_of source tree ≡ o → total ≡ None
      by None i =
          let none : option_map (premises_with before numbers) (premises_of source (more_trees tree rest)) ≡ None = rw (some, i) refl in
          sym so_far ∙ ap (λ ts. option_map (premises_with before numbers) (premises_of source ts)) e ∙ none
      by (Some p) i = absurd (none-some (nodes_with before p) (sym h ∙ ap (option_map (nodes_with before)) i))

  pub premises_last : (tree : Tree) (rest : Trees) → trees ≡ more_trees tree rest → is_empty rest ≡ true → total ≡ Some ((before, numbers), tree)
  unfolding premises_of nodes_from_all roots
  premises_last tree rest e none =
      let one : option_map (premises_with before numbers) (premises_of source (more_trees tree rest)) ≡ Some ((before, numbers), tree) = rw (none, append-nil before, append-nil numbers) refl in
      sym so_far ∙ ap (λ ts. option_map (premises_with before numbers) (premises_of source ts)) e ∙ one

  pub premises_none : trees ≡ no_trees → total ≡ None
  unfolding premises_of
  premises_none e = sym so_far ∙ ap (λ ts. option_map (premises_with before numbers) (premises_of source ts)) e

-- a tree that is no list of parts is no proof
pub proof-other : (source : Source) (tree : Tree) → parts_of tree ≡ None → proof_of source tree ≡ None
unfolding proof_of
proof-other source (AtomTree at text) h = refl
proof-other source (QuotedTree at text) h = refl
proof-other source (ListTree at parts) h = absurd (none-some parts (sym h))

module _ (source : Source) (before : List ProofNode) (tree head : Tree) (trees rest : Trees) (at : ℕ) (is : tree ≡ ListTree at trees) where
  pub proof-empty : trees ≡ no_trees → proof_of source tree ≡ None
  unfolding proof_of
  proof-empty e = rw (is, e) refl

  proof-list : trees ≡ more_trees head rest → proof_of source tree ≡ (rule_of (text_of head) >>= λ rule. premises_of source rest >>= λ both. formula_of source.consts both.1 >>= λ claim. step source at rule both.0 claim)
  unfolding proof_of
  proof-list e = rw (is, e) refl

  module _ (whole : trees ≡ more_trees head rest) where
    pub proof-no_rule : rule_of (text_of head) ≡ None → option_map (nodes_with before) (proof_of source tree) ≡ None
    proof-no_rule h = let e = proof-list whole in rw (e, h) refl

    pub proof-premises : (x : FormFailure) → Fails x (option_map (premises_with before []) (premises_of source rest)) → Fails x (option_map (nodes_with before) (proof_of source tree))
    proof-premises failures.Memory h = tt
    proof-premises failures.Refused h = by (rule_of (text_of head)) refl (premises_of source rest) refl
      where
        by : (r : Option Rule) → rule_of (text_of head) ≡ r → (o : Option (Proofs × Tree)) → premises_of source rest ≡ o → option_map (nodes_with before) (proof_of source tree) ≡ None
        by None k o i = proof-no_rule k
        by (Some rule) k None i = let e = proof-list whole in rw (e, k, i) refl
        by (Some rule) k (Some both) i = absurd (none-some (premises_with before [] both) (sym h ∙ ap (option_map (premises_with before [])) i))

    module _ (rule : Rule) (nodes : List ProofNode) (numbers : List ℕ) (last : Tree) (named : rule_of (text_of head) ≡ Some rule) (read : option_map (premises_with before []) (premises_of source rest) ≡ Some ((nodes, numbers), last)) where
      both_of : (both : Proofs × Tree) × (premises_of source rest ≡ Some both) × (premises_with before [] both ≡ ((nodes, numbers), last))
      both_of = by (premises_of source rest) refl
        where
          by : (o : Option (Proofs × Tree)) → premises_of source rest ≡ o → (both : Proofs × Tree) × (premises_of source rest ≡ Some both) × (premises_with before [] both ≡ ((nodes, numbers), last))
          by None i = absurd (none-some _ (sym (ap (option_map (premises_with before [])) i) ∙ read))
          by (Some both) i = (both, i, same_Some _ _ (sym (ap (option_map (premises_with before [])) i) ∙ read))

      pub proof-claim : (x : FormFailure) → Fails x (formula_of source.consts last) → Fails x (option_map (nodes_with before) (proof_of source tree))
      proof-claim failures.Memory h = tt
      proof-claim failures.Refused h =
          let b = both_of in
          let e = proof-list whole in
          let none : formula_of source.consts b.0.1 ≡ None = ap (λ t. formula_of source.consts t.1) b.2 ∙ h in
          let i = b.1 in
          rw (e, named, i, none) refl

      fits_same : (claim : Term) → fits source.assertions rule (count both_of.0.0) claim ≡ fits source.assertions rule (length numbers) claim
      fits_same claim = ap (λ n. fits source.assertions rule n claim) (sym (roots_long (length before) both_of.0.0) ∙ ap (λ t. length t.0.1) both_of.2)

      pub proof-unfit : (claim : Term) → formula_of source.consts last ≡ Some claim → fits source.assertions rule (length numbers) claim ≡ false → option_map (nodes_with before) (proof_of source tree) ≡ None
      proof-unfit claim f h =
          let b = both_of in
          let e = proof-list whole in
          let g : formula_of source.consts b.0.1 ≡ Some claim = ap (λ t. formula_of source.consts t.1) b.2 ∙ f in
          let unfit = fits_same claim ∙ h in
          let i = b.1 in
          rw (e, named, i, g, unfit) refl

      pub proof-step : (claim : Term) → formula_of source.consts last ≡ Some claim → fits source.assertions rule (length numbers) claim ≡ true → option_map (nodes_with before) (proof_of source tree) ≡ Some (nodes ++ node at rule numbers claim ∷ [])
      unfolding nodes_from
      proof-step claim f h =
          let b = both_of in
          let e = proof-list whole in
          let g : formula_of source.consts b.0.1 ≡ Some claim = ap (λ t. formula_of source.consts t.1) b.2 ∙ f in
          let fit = fits_same claim ∙ h in
          let i = b.1 in
          let nodes_are : before ++ nodes_from_all (length before) b.0.0 ≡ nodes = ap (λ t. t.0.0) b.2 in
          let numbers_are : roots (length before) b.0.0 ≡ numbers = ap (λ t. t.0.1) b.2 in
          let grouped : before ++ (nodes_from_all (length before) b.0.0 ++ node at rule (roots (length before) b.0.0) claim ∷ []) ≡ (before ++ nodes_from_all (length before) b.0.0) ++ node at rule (roots (length before) b.0.0) claim ∷ [] = simp append_assoc in
          let read_as : option_map (nodes_with before) (proof_of source tree) ≡ Some (before ++ (nodes_from_all (length before) b.0.0 ++ node at rule (roots (length before) b.0.0) claim ∷ [])) = rw (e, named, i, g, fit) refl in
          read_as ∙ ap Some (grouped ∙ rw (nodes_are, numbers_are) refl)
