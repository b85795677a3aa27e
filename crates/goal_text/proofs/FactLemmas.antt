-- The formula of a fact or of the goal.
use Rattle.std.proofs.Common.{◌≡◌, ℕ, [], Ok, Err, true, false, refl, sym, ap, subst, ◌∙◌}
use Rattle.hol_types.specs.Ty.{BoolTy}
use Rattle.hol_types.specs.TyEq.{ty_eq}
use Rattle.hol_types.proofs.TyEqLemmas.{ty_eq_sound}
use Rattle.hol_terms.specs.Term.{Term, Typed, ty_of}
use Rattle.hol_terms.specs.TermStore.{TermStore, Keeps}
use Rattle.sexp.specs.Tree.{Tree}
use Rattle.goal_text.specs.declared.fault.GoalFailure.{GoalFailure}
use Rattle.goal_text.specs.declared.fault.GoalFailure.TheVariants as failures
use Rattle.goal_text.specs.declared.fault.GoalKind.TheVariants.{NotBool}
use Rattle.goal_text.specs.declared.items.Items.{Items as Made}
use Rattle.goal_text.specs.declared.scope.Scope.{Scope}
use Rattle.goal_text.specs.Read.{Read, Fails, faulty}
use Rattle.goal_text.specs.Items.{env_behind, formula_of}
use Rattle.goal_text.specs.ItemsIn.{AreItems, items_in}
use Rattle.goal_text.specs.Scope.{binders_in, consts_in, env_of, types_in}
use Rattle.goal_text.specs.Sentences.{IsSentence}
use Rattle.goal_text.specs.Terms.{term_of}
use Rattle.goal_text.proofs.ClosedLemmas.{sentence_read}
use Rattle.goal_text.proofs.ItemLemmas.{items_kept, items_same}

-- what names stand for in the next item
env_outermost : (made : Made) → made.scope.binders ≡ [] → env_of made.base made.scope ≡ env_behind (items_in made)
unfolding env_of
env_outermost made e =
    let none : binders_in made.base made.scope.binders ≡ [] = ap (λ l. binders_in made.base l) e in
    λ i. record { types = types_in made.scope.types; consts = consts_in made.base made.scope.consts; binders = none i }

-- the items are the same in a store that has gone on
module _ (made : Made) (u : TermStore) (scope : Scope) (k : Keeps made.base u) (same : scope ≡ made.scope) (is : AreItems made) where
  pub items_on : AreItems (record made { base = u; scope = scope })
  items_on = let P : Scope → Type 0 = λ s. AreItems (record made { base = u; scope = s }) in subst P (sym same) (items_kept made u k is)

  pub items_as_before : items_in (record made { base = u; scope = scope }) ≡ items_in made
  items_as_before = ap (λ (s : Scope). items_in (record made { base = u; scope = s })) same ∙ items_same made u k is

module _ (made : Made) (at : ℕ) (tree : Tree) (outermost : made.scope.binders ≡ []) where
  behind : (r : Read Term) → term_of (env_of made.base made.scope) tree ≡ r → term_of (env_behind (items_in made)) tree ≡ r
  behind r h = ap (λ e. term_of e tree) (sym (env_outermost made outermost)) ∙ h

  pub formula_fails : (x : GoalFailure) → Fails x (term_of (env_of made.base made.scope) tree) → Fails x (formula_of (items_in made) at tree)
  unfolding formula_of
  formula_fails failures.Memory h = tt
  formula_fails (failures.Refused f) h = let none = behind (Err f) h in rw none refl

  pub formula_read : (t : Term) (test : ty_eq BoolTy (ty_of t) ≡ true) → term_of (env_of made.base made.scope) tree ≡ Ok t → formula_of (items_in made) at tree ≡ Ok t
  unfolding formula_of
  formula_read t test h = let one = behind (Ok t) h in rw (one, test) refl

  pub formula_sentence : (t : Term) → Typed t → ty_eq BoolTy (ty_of t) ≡ true → term_of (env_of made.base made.scope) tree ≡ Ok t → IsSentence t
  formula_sentence t typed test h = sentence_read (env_behind (items_in made)) tree t refl typed (sym (ty_eq_sound BoolTy (ty_of t) test)) (behind (Ok t) h)

  pub formula_refused : (t : Term) (test : ty_eq BoolTy (ty_of t) ≡ false) → term_of (env_of made.base made.scope) tree ≡ Ok t → formula_of (items_in made) at tree ≡ faulty NotBool at
  unfolding formula_of
  formula_refused t test h = let one = behind (Ok t) h in rw (one, test) refl
