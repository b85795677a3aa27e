-- Reading the parts of a list of terms one after the other.
use Rattle.std.proofs.Common.{◌≡◌, ℕ, zero, suc, ◌+◌, List, [], ◌∷◌, ◌++◌, Ok, Err, Bool, true, false, ◌&&◌, drop, take, refl, sym, ap, subst, ◌∙◌, append_assoc, arith}
use Rattle.std.specs.Prelude.{nat_eq}
use Rattle.std.specs.List.{AllByRecursion}
use Rattle.std.proofs.lemmas.List.{append-nil}
use Rattle.hol_types.specs.TypeStore.{HasType}
use Rattle.hol_types.proofs.TypeLemmas.{eqb_sound}
use Rattle.hol_terms.specs.Term.{Term}
use Rattle.hol_terms.specs.TermStore.{TermStore, HasTerm, Keeps, term_tree}
use Rattle.sexp.specs.Tree.{Tree, Trees, ListTree, no_trees, more_trees}
use Rattle.goal_text.specs.declared.fault.GoalFailure.{GoalFailure}
use Rattle.goal_text.specs.declared.fault.GoalFailure.TheVariants as failures
use Rattle.goal_text.specs.declared.scope.Scope.{Scope}
use Rattle.goal_text.specs.declared.form.Head.{Head}
use Rattle.goal_text.specs.declared.form.Head.TheVariants as heads
use Rattle.goal_text.specs.Read.{Read, ◌>>=◌, Fails}
use Rattle.goal_text.specs.Names.{Env}
use Rattle.goal_text.specs.Forms.{Form, Binding, Part, operands, form_of, inside, parts_of}
use Rattle.goal_text.specs.Terms.{built, divisor_of, term_of, terms_of}
use Rattle.goal_text.specs.Scope.{AreTerms, HasHead, IsScope, binders_in, form_at, terms_at}
use Rattle.goal_text.proofs.ScopeLemmas.{terms_same}
use Rattle.goal_text.proofs.OperationLemmas.{terms_pushed}

-- the terms read so far, and those still to read
abbrev pub with_terms : List Term → Read (List Term) → Read (List Term)
with_terms front read = read >>= λ ts. Ok (front ++ ts)

regroup : (front : List Term) (t : Term) (read : Read (List Term)) → with_terms front (read >>= λ ts. Ok (t ∷ ts)) ≡ with_terms (front ++ t ∷ []) read
regroup front t (Ok ts) = ap Ok (sym (append_assoc front (t ∷ []) ts))
regroup front t (Err f) = refl

drop_none : (k : ℕ) → drop k (operands false) ≡ []
drop_none zero = refl
drop_none (suc k) = refl

drop_both : (k : ℕ) → drop (k + 2) (operands true) ≡ []
drop_both k = let e : k + 2 ≡ suc (suc k) = omega arith in rw e (drop_none k)

-- the part of that number is a number from 1
abbrev pub is_divisor : Bool → ℕ → Bool
is_divisor divides k = divides && nat_eq k 1

-- the first of the parts that are left
abbrev first_part : Read Term → Env → List Part → Trees → Read (List Term)
first_part read env kinds trees = read >>= λ first. (terms_of env kinds trees >>= λ others. Ok (first ∷ others))

next_divisor : (env : Env) (divides : Bool) (k : ℕ) (tree : Tree) (trees : Trees) → is_divisor divides k ≡ true → terms_of env (drop k (operands divides)) (more_trees tree trees) ≡ first_part (divisor_of tree) env (drop (k + 1) (operands divides)) trees
unfolding terms_of
next_divisor env false k tree trees h = absurd (no h)
  where
    no : false ≡ true → ⊥
    no e = cc
next_divisor env true k tree trees h = let one : k ≡ 1 = eqb_sound k 1 h in rw one refl

next_term : (env : Env) (divides : Bool) (k : ℕ) (tree : Tree) (trees : Trees) → is_divisor divides k ≡ false → terms_of env (drop k (operands divides)) (more_trees tree trees) ≡ first_part (term_of env tree) env (drop (k + 1) (operands divides)) trees
unfolding terms_of
next_term env false k tree trees h = rw (drop_none k, drop_none (k + 1)) refl
next_term env true zero tree trees h = refl
next_term env true (suc zero) tree trees h = absurd (no h)
  where
    no : true ≡ false → ⊥
    no e = cc
next_term env true (suc (suc k)) tree trees h =
    let now : suc (suc k) ≡ k + 2 = omega arith in
    let next : suc (suc k) + 1 ≡ k + 1 + 2 = omega arith in
    let P : List Part → List Part → Type 0 = λ a b. terms_of env a (more_trees tree trees) ≡ first_part (term_of env tree) env b trees in
    let here : drop (suc (suc k)) (operands true) ≡ [] = ap (λ n. drop n (operands true)) now ∙ drop_both k in
    let there : drop (suc (suc k) + 1) (operands true) ≡ [] = ap (λ n. drop n (operands true)) next ∙ drop_both (k + 1) in
    subst (λ a. P a (drop (suc (suc k) + 1) (operands true))) (sym here) (subst (λ b. P [] b) (sym there) refl)

module _ (front : List Term) (env inner : Env) (divides : Bool) (k : ℕ) (trees : Trees) (total : Read (List Term)) (same : inner ≡ env) (so_far : with_terms front (terms_of env (drop k (operands divides)) trees) ≡ total) where
  part_read : (read : Read Term) (tree : Tree) (rest : Trees) (t : Term) → trees ≡ more_trees tree rest → terms_of env (drop k (operands divides)) (more_trees tree rest) ≡ first_part read env (drop (k + 1) (operands divides)) rest → read ≡ Ok t
      → with_terms (front ++ t ∷ []) (terms_of env (drop (k + 1) (operands divides)) rest) ≡ total
  part_read read tree rest t e step h =
      let others = terms_of env (drop (k + 1) (operands divides)) rest in
      let one : first_part read env (drop (k + 1) (operands divides)) rest ≡ (others >>= λ ts. Ok (t ∷ ts)) = rw h refl in
      sym (regroup front t others) ∙ ap (with_terms front) (sym one ∙ sym step ∙ ap (terms_of env (drop k (operands divides))) (sym e)) ∙ so_far

  part_fails : (x : GoalFailure) (read : Read Term) (tree : Tree) (rest : Trees) → trees ≡ more_trees tree rest → terms_of env (drop k (operands divides)) (more_trees tree rest) ≡ first_part read env (drop (k + 1) (operands divides)) rest → Fails x read
      → Fails x total
  part_fails failures.Memory read tree rest e step h = tt
  part_fails (failures.Refused f) read tree rest e step h =
      let none : first_part read env (drop (k + 1) (operands divides)) rest ≡ Err f = rw h refl in
      sym so_far ∙ ap (λ ts. with_terms front (terms_of env (drop k (operands divides)) ts)) e ∙ ap (with_terms front) (step ∙ none)

  pub divisor_read : (tree : Tree) (rest : Trees) (t : Term) → trees ≡ more_trees tree rest → is_divisor divides k ≡ true → divisor_of tree ≡ Ok t → with_terms (front ++ t ∷ []) (terms_of env (drop (k + 1) (operands divides)) rest) ≡ total
  divisor_read tree rest t e here h = part_read (divisor_of tree) tree rest t e (next_divisor env divides k tree rest here) h

  pub divisor_fails : (x : GoalFailure) (tree : Tree) (rest : Trees) → trees ≡ more_trees tree rest → is_divisor divides k ≡ true → Fails x (divisor_of tree) → Fails x total
  divisor_fails x tree rest e here h = part_fails x (divisor_of tree) tree rest e (next_divisor env divides k tree rest here) h

  pub term_read : (tree : Tree) (rest : Trees) (t : Term) → trees ≡ more_trees tree rest → is_divisor divides k ≡ false → term_of inner tree ≡ Ok t → with_terms (front ++ t ∷ []) (terms_of env (drop (k + 1) (operands divides)) rest) ≡ total
  term_read tree rest t e here h = part_read (term_of env tree) tree rest t e (next_term env divides k tree rest here) (ap (λ n. term_of n tree) (sym same) ∙ h)

  pub term_fails : (x : GoalFailure) (tree : Tree) (rest : Trees) → trees ≡ more_trees tree rest → is_divisor divides k ≡ false → Fails x (term_of inner tree) → Fails x total
  term_fails x tree rest e here h =
      let P : Read Term → Type 0 = λ r. Fails x r in
      part_fails x (term_of env tree) tree rest e (next_term env divides k tree rest here) (subst P (ap (λ n. term_of n tree) same) h)

  pub terms_done : trees ≡ no_trees → total ≡ Ok front
  unfolding terms_of
  terms_done e = sym so_far ∙ ap (λ ts. with_terms front (terms_of env (drop k (operands divides)) ts)) e ∙ ap Ok (append-nil front)

-- one more term
pub term_pushed : (s u : TermStore) (ts : List ℕ) (t : ℕ) → Keeps s u → AreTerms s ts → terms_at u (ts ++ t ∷ []) ≡ terms_at s ts ++ term_tree u t ∷ []
term_pushed s u ts t k all = terms_pushed u ts t ∙ ap (λ l. l ++ term_tree u t ∷ []) (terms_same ts k all)

pub there_pushed : (s u : TermStore) (ts : List ℕ) (t : ℕ) → Keeps s u → AreTerms s ts → HasTerm u t → AreTerms u (ts ++ t ∷ [])
there_pushed s u [] t k all h = (h, tt)
there_pushed s u (x ∷ ts) t k all h = (k.terms x all.0, there_pushed s u ts t k all.1 h)

-- a list, once its form is known
module _ (env : Env) (tree : Tree) (at : ℕ) (parts : Trees) (is : tree ≡ ListTree at parts) where
  pub list_refused : (x : GoalFailure) → Fails x (form_of env at parts) → Fails x (term_of env tree)
  unfolding term_of
  list_refused failures.Memory h = tt
  list_refused (failures.Refused f) h = rw (is, h) refl

  module _ (inner : Env) (rest : Trees) (kinds : List Part) (form : Form) (entered : form_of env at parts ≡ Ok form) (within : inner ≡ inside env form)
      (skips : (names : Env) → terms_of names (parts_of form) parts ≡ terms_of names kinds rest) where
    pub parts_refused : (x : GoalFailure) → Fails x (terms_of inner kinds rest) → Fails x (term_of env tree)
    unfolding term_of
    parts_refused failures.Memory h = tt
    parts_refused (failures.Refused f) h =
        let parts_are : terms_of (inside env form) (parts_of form) parts ≡ Err f = skips (inside env form) ∙ ap (λ n. terms_of n kinds rest) (sym within) ∙ h in
        rw (is, entered, parts_are) refl

    pub list_read : (late : Form) (ts : List Term) → terms_of inner kinds rest ≡ Ok ts → late ≡ form → term_of env tree ≡ built at late ts
    unfolding term_of
    list_read late ts h same =
        let parts_are : terms_of (inside env form) (parts_of form) parts ≡ Ok ts = skips (inside env form) ∙ ap (λ n. terms_of n kinds rest) (sym within) ∙ h in
        rw (is, entered, parts_are, same) refl

-- the form of a head stays what it is
pub binders_taken : (s u : TermStore) → Keeps s u → (bs : List (List ℕ × ℕ)) → AllByRecursion (λ b. HasType s.types b.1) bs → (n : ℕ) → binders_in u (take n bs) ≡ binders_in s (take n bs)
binders_taken s u k [] all zero = refl
binders_taken s u k [] all (suc n) = refl
binders_taken s u k (b ∷ bs) all zero = refl
binders_taken s u k (b ∷ bs) all (suc n) = let e = k.type_trees b.1 all.0 in let f = binders_taken s u k bs all.1 n in rw (e, f) refl

pub form_kept : (s u : TermStore) (scope : Scope) (head : Head) → Keeps s u → IsScope s scope → HasHead s head → form_at u scope head ≡ form_at s scope head
form_kept s u scope heads.Applied k is there = refl
form_kept s u scope (heads.Instance at name ty) k is there = let e = k.texts name there.0 in let f = k.type_trees ty there.1 in rw (e, f) refl
form_kept s u scope heads.Negative k is there = refl
form_kept s u scope (heads.Operation operator) k is there = refl
form_kept s u scope (heads.Binding binder n) k is there = ap (Binding binder) (binders_taken s u k scope.binders is.binders n)
form_kept s u scope (heads.Ascription name declared ty) k is there = let e = k.texts name there.0 in let f = k.type_trees declared there.1 in let g = k.type_trees ty there.2 in rw (e, f, g) refl

pub head_kept : (s u : TermStore) (head : Head) → Keeps s u → HasHead s head → HasHead u head
head_kept s u heads.Applied k there = tt
head_kept s u (heads.Instance at name ty) k there = (k.names name there.0, k.types ty there.1)
head_kept s u heads.Negative k there = tt
head_kept s u (heads.Operation operator) k there = tt
head_kept s u (heads.Binding binder n) k there = tt
head_kept s u (heads.Ascription name declared ty) k there = (k.names name there.0, k.types declared there.1, k.types ty there.2)
