-- Binding the variables of a binder list.
use Rattle.std.proofs.Common.{◌≡◌, ℕ, zero, suc, ◌+◌, ◌-◌, List, [], ◌∷◌, ◌++◌, Some, Ok, Err, drop, take, refl, sym, ap, ◌∙◌, arith}
use Rattle.hol_types.specs.Ty.{Ty}
use Rattle.hol_types.specs.TypeStore.{type_tree}
use Rattle.hol_terms.specs.TermStore.{TermStore, Keeps}
use Rattle.sexp.specs.Tree.{Tree, Trees, no_trees, more_trees}
use Rattle.goal_text.specs.declared.fault.GoalFailure.{GoalFailure}
use Rattle.goal_text.specs.declared.fault.GoalFailure.TheVariants as failures
use Rattle.goal_text.specs.Read.{Read, Fails}
use Rattle.goal_text.specs.Names.{Binders, Constructors, Env}
use Rattle.goal_text.specs.Lexicon.{two_of}
use Rattle.goal_text.specs.Forms.{Part, Skipped, binder_of, binders_of, binding, form_of, head_word, inside, parts_of}
use Rattle.goal_text.specs.Terms.{terms_of}
use Rattle.goal_text.specs.declared.form.Head.{Head}
use Rattle.goal_text.specs.declared.form.Head.TheVariants as heads
use Rattle.goal_text.specs.declared.scope.Scope.{Scope}
use Rattle.goal_text.specs.declared.word.Operator.{Operator}
use Rattle.goal_text.specs.declared.word.Binder.{Binder}
use Rattle.goal_text.specs.declared.word.Word.TheVariants as words
use Rattle.goal_text.specs.Scope.{Applies, AreBound, Ascribes, Binds, IsOperation, IsScope, KeepsDeclared, binders_in, bound_by, consts_in, env_of, form_at, one_binder, rest_of, types_in}
use Rattle.sexp.specs.Forest.{Kept, tree_at, trees_at, trees_within}
use Rattle.goal_text.proofs.KeptLemmas.{same_Ok}
use Rattle.goal_text.proofs.ScopeLemmas.{binders_same, constants_same}
use Rattle.goal_text.proofs.PartLemmas.{binders_taken}

-- the variable of an entry, and what is bound with it
pub record IsEntry (s u : TermStore) (bs cs : List (List ℕ × ℕ)) (n : ℕ) (read : Read (List ℕ × Ty)) : Type 0 where
  pub entry : List ℕ × Ty
  pub is : read ≡ Ok entry
  pub bound : binders_in u (take (n + 1) cs) ≡ entry ∷ binders_in s (take n bs)
  pub outer : drop (n + 1) cs ≡ drop n bs

no_entry : (read : Read (List ℕ × Ty)) → one_binder read ≡ Ok [] → ⊥
no_entry (Ok b) h = cc
no_entry (Err e) h = cc

one_entry : (read : Read (List ℕ × Ty)) (b : List ℕ × Ty) → one_binder read ≡ Ok (b ∷ []) → read ≡ Ok b
one_entry (Ok c) b h = let e : c ≡ b = cc in ap Ok e
one_entry (Err e) b h = absurd (bad h)
  where
    bad : ◌≡◌ {A = Read Binders} (Err e) (Ok (b ∷ [])) → ⊥
    bad k = cc

pub one_more : (s u : TermStore) (bs cs : List (List ℕ × ℕ)) (n : ℕ) (read : Read (List ℕ × Ty)) → Keeps s u → AreBound s bs → drop 1 cs ≡ bs → one_binder read ≡ Ok (binders_in u (take 1 cs)) → IsEntry s u bs cs n read
one_more s u bs [] n read k all outer h = absurd (no_entry read h)
one_more s u bs (c ∷ cs) n read k all outer h =
    let more : n + 1 ≡ suc n = omega arith in
    let rest : cs ≡ bs = outer in
    record {
      entry = (c.0, type_tree u.types c.1);
      is = one_entry read (c.0, type_tree u.types c.1) h;
      bound = rw more (ap (λ l. (c.0, type_tree u.types c.1) ∷ l) (ap (λ l. binders_in u (take n l)) rest ∙ binders_taken s u k bs all n));
      outer = rw more (ap (drop n) rest);
    }

module _ (types : Constructors) (total : Read Binders) (front : Binders) (trees : Trees) (so_far : binders_of types front trees ≡ total) where
  pub entry_bound : (tree : Tree) (rest : Trees) (b : List ℕ × Ty) → trees ≡ more_trees tree rest → binder_of types tree ≡ Ok b → binders_of types (b ∷ front) rest ≡ total
  unfolding binders_of
  entry_bound tree rest b e h =
      let one : binders_of types front (more_trees tree rest) ≡ binders_of types (b ∷ front) rest = rw h refl in
      sym one ∙ ap (binders_of types front) (sym e) ∙ so_far

  pub entry_fails : (x : GoalFailure) (tree : Tree) (rest : Trees) → trees ≡ more_trees tree rest → Fails x (one_binder (binder_of types tree)) → Fails x total
  unfolding binders_of
  entry_fails failures.Memory tree rest e h = tt
  entry_fails (failures.Refused f) tree rest e h = by (binder_of types tree) refl h
    where
      by : (r : Read (List ℕ × Ty)) → binder_of types tree ≡ r → one_binder r ≡ Err f → total ≡ Err f
      by (Ok b) k m = absurd (bad m)
        where
          bad : ◌≡◌ {A = Read Binders} (Ok (b ∷ [])) (Err f) → ⊥
          bad n = cc
      by (Err g) k m =
          let none : binders_of types front (more_trees tree rest) ≡ Err g = rw k refl in
          let same : ◌≡◌ {A = Read Binders} (Err g) (Err f) = m in
          sym so_far ∙ ap (binders_of types front) e ∙ none ∙ same

  pub entries_done : trees ≡ no_trees → total ≡ Ok front
  unfolding binders_of
  entries_done e = sym so_far ∙ ap (binders_of types front) e

-- ---- what follows for the parts

pub two_trees : (at : ℕ) (trees : Trees) (a b : Tree) → two_of at trees ≡ Ok (a, b) → trees ≡ more_trees a (more_trees b no_trees)
unfolding two_of
two_trees at no_trees a b h = absurd (bad h)
  where
    bad : ◌≡◌ {A = Read (Tree × Tree)} (two_of at no_trees) (Ok (a, b)) → ⊥
    bad k = cc
two_trees at (more_trees t no_trees) a b h = absurd (bad h)
  where
    bad : ◌≡◌ {A = Read (Tree × Tree)} (two_of at (more_trees t no_trees)) (Ok (a, b)) → ⊥
    bad k = cc
two_trees at (more_trees t (more_trees u no_trees)) a b h =
    let both = same_Ok (t, u) (a, b) h in
    ap (λ p. more_trees p.0 (more_trees p.1 no_trees)) both
two_trees at (more_trees t (more_trees u (more_trees v vs))) a b h = absurd (bad h)
  where
    bad : ◌≡◌ {A = Read (Tree × Tree)} (two_of at (more_trees t (more_trees u (more_trees v vs)))) (Ok (a, b)) → ⊥
    bad k = cc

pub skip_one : (names : Env) (kinds : List Part) (trees : Trees) (t : Tree) (rest : Trees) → trees ≡ more_trees t rest → terms_of names (Skipped ∷ kinds) trees ≡ terms_of names kinds rest
unfolding terms_of
skip_one names kinds trees t rest e = rw e refl

pub skip_both : (names : Env) (kinds : List Part) (trees : Trees) (t u : Tree) → trees ≡ more_trees t (more_trees u no_trees) → terms_of names (Skipped ∷ Skipped ∷ kinds) trees ≡ Ok []
unfolding terms_of
skip_both names kinds trees t u e = rw e refl

pub no_terms : (names : Env) (kinds : List Part) (trees : Trees) → trees ≡ no_trees → terms_of names kinds trees ≡ Ok []
unfolding terms_of
no_terms names kinds trees e = rw e refl

-- an operation's parts stand behind its word
pub operation_parts : (s : TermStore) (scope : Scope) (operator : Operator) (head : Head) → IsOperation operator head → parts_of (form_at s scope head) ≡ Skipped ∷ rest_of head
operation_parts s scope operator heads.Applied h = absurd h
operation_parts s scope operator (heads.Instance at name ty) h = absurd h
operation_parts s scope operator heads.Negative h = refl
operation_parts s scope operator (heads.Operation other) h = refl
operation_parts s scope operator (heads.Binding binder n) h = absurd h
operation_parts s scope operator (heads.Ascription name declared ty) h = absurd h

-- an application's terms are all parts, or those behind the constant
pub applied_parts : (names : Env) (s : TermStore) (scope : Scope) (head : Head) (forest : List Kept) (first second from end : ℕ) → Applies head first second from → trees_at forest first end ≡ more_trees (tree_at forest first) (trees_at forest second end)
    → terms_of names (parts_of (form_at s scope head)) (trees_at forest first end) ≡ terms_of names (rest_of head) (trees_at forest from end)
applied_parts names s scope heads.Applied forest first second from end h e = ap (λ i. terms_of names [] (trees_at forest i end)) (sym h)
applied_parts names s scope (heads.Instance at name ty) forest first second from end h e = skip_one names [] (trees_at forest first end) (tree_at forest first) (trees_at forest second end) e ∙ ap (λ i. terms_of names [] (trees_at forest i end)) (sym h)
applied_parts names s scope heads.Negative forest first second from end h e = absurd h
applied_parts names s scope (heads.Operation operator) forest first second from end h e = absurd h
applied_parts names s scope (heads.Binding binder n) forest first second from end h e = absurd h
applied_parts names s scope (heads.Ascription name declared ty) forest first second from end h e = absurd h

-- a binder's list and its body stand behind its word
pub binding_parts : (names : Env) (s : TermStore) (scope : Scope) (head : Head) (trees : Trees) (t : Tree) (rest body : Trees) → Binds head → trees ≡ more_trees t rest → terms_of names (Skipped ∷ []) rest ≡ terms_of names [] body
    → terms_of names (parts_of (form_at s scope head)) trees ≡ terms_of names (rest_of head) body
binding_parts names s scope heads.Applied trees t rest body h e k = absurd h
binding_parts names s scope (heads.Instance at name ty) trees t rest body h e k = absurd h
binding_parts names s scope heads.Negative trees t rest body h e k = absurd h
binding_parts names s scope (heads.Operation operator) trees t rest body h e k = absurd h
binding_parts names s scope (heads.Binding binder n) trees t rest body h e k = skip_one names (Skipped ∷ []) trees t rest e ∙ k
binding_parts names s scope (heads.Ascription name declared ty) trees t rest body h e k = absurd h

-- the innermost so many, and those around them
pub split_binders : (u : TermStore) (bs : List (List ℕ × ℕ)) (n : ℕ) → binders_in u bs ≡ binders_in u (take n bs) ++ binders_in u (drop n bs)
split_binders u [] zero = refl
split_binders u [] (suc n) = refl
split_binders u (b ∷ bs) zero = refl
split_binders u (b ∷ bs) (suc n) = ap (λ l. (b.0, type_tree u.types b.1) ∷ l) (split_binders u bs n)

-- what names stand for within a binder
pub binding_inside : (s u : TermStore) (old new : Scope) (head : Head) → Binds head → Keeps s u → IsScope s old → KeepsDeclared old new → drop (bound_by head) new.binders ≡ old.binders → env_of u new ≡ inside (env_of s old) (form_at u new head)
unfolding env_of
binding_inside s u old new heads.Applied h k is others outer = absurd h
binding_inside s u old new (heads.Instance at name ty) h k is others outer = absurd h
binding_inside s u old new heads.Negative h k is others outer = absurd h
binding_inside s u old new (heads.Operation operator) h k is others outer = absurd h
binding_inside s u old new (heads.Binding binder n) h k is others outer =
    let types : types_in new.types ≡ types_in old.types = ap (λ l. types_in l) others.types in
    let consts : consts_in u new.consts ≡ consts_in s old.consts = ap (λ l. consts_in u l) others.consts ∙ constants_same old.consts k is.consts in
    let binders : binders_in u new.binders ≡ binders_in u (take n new.binders) ++ binders_in s old.binders =
    split_binders u new.binders n ∙ ap (λ l. binders_in u (take n new.binders) ++ binders_in u l) outer ∙ ap (λ l. binders_in u (take n new.binders) ++ l) (binders_same old.binders k is.binders) in
    λ i. record { types = types i; consts = consts i; binders = binders i }
binding_inside s u old new (heads.Ascription name declared ty) h k is others outer = absurd h

pub ascribed_inside : (env : Env) (s : TermStore) (scope : Scope) (head : Head) → Ascribes head → inside env (form_at s scope head) ≡ env
ascribed_inside env s scope heads.Applied h = absurd h
ascribed_inside env s scope (heads.Instance at name ty) h = absurd h
ascribed_inside env s scope heads.Negative h = absurd h
ascribed_inside env s scope (heads.Operation operator) h = absurd h
ascribed_inside env s scope (heads.Binding binder n) h = absurd h
ascribed_inside env s scope (heads.Ascription name declared ty) h = refl

pub ascribed_parts : (names : Env) (s : TermStore) (scope : Scope) (head : Head) (trees : Trees) (t : Tree) (rest none : Trees) → Ascribes head → trees ≡ more_trees t rest → terms_of names (Skipped ∷ Skipped ∷ []) rest ≡ Ok [] → none ≡ no_trees
    → terms_of names (parts_of (form_at s scope head)) trees ≡ terms_of names (rest_of head) none
ascribed_parts names s scope heads.Applied trees t rest none h e k n = absurd h
ascribed_parts names s scope (heads.Instance at name ty) trees t rest none h e k n = absurd h
ascribed_parts names s scope heads.Negative trees t rest none h e k n = absurd h
ascribed_parts names s scope (heads.Operation operator) trees t rest none h e k n = absurd h
ascribed_parts names s scope (heads.Binding binder m) trees t rest none h e k n = absurd h
ascribed_parts names s scope (heads.Ascription name declared ty) trees t rest none h e k n = skip_one names (Skipped ∷ Skipped ∷ []) trees t rest e ∙ k ∙ sym (no_terms names [] none n)

-- no trees stand from a number up to itself
pub no_run : (forest : List Kept) (i : ℕ) → trees_at forest i i ≡ no_trees
unfolding trees_at trees_within
no_run forest i = let none : i - i ≡ 0 = omega arith in rw none refl

-- a binder's form is what is read of its list
pub bound_form : (s : TermStore) (scope : Scope) (at : ℕ) (binder : Binder) (trees : Trees) (head : Tree) (parts : Trees) → trees ≡ more_trees head parts → head_word head ≡ Some (words.Binds binder) → form_of (env_of s scope) at trees ≡ binding (types_in scope.types) at binder parts
unfolding form_of env_of
bound_form s scope at binder trees head parts e w = rw (e, w) refl

pub bound_form_fails : (s : TermStore) (scope : Scope) (at : ℕ) (binder : Binder) (trees : Trees) (head : Tree) (parts : Trees) → trees ≡ more_trees head parts → head_word head ≡ Some (words.Binds binder) → (x : GoalFailure) → Fails x (binding (types_in scope.types) at binder parts)
    → Fails x (form_of (env_of s scope) at trees)
bound_form_fails s scope at binder trees head parts e w failures.Memory h = tt
bound_form_fails s scope at binder trees head parts e w (failures.Refused f) h = bound_form s scope at binder trees head parts e w ∙ h
