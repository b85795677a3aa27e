-- The problem that all items say.
use Rattle.std.proofs.Common.{◌≡◌, ℕ, List, [], ◌∷◌, Option, Some, None, Ok, Err, length, refl, sym, ap, ap₂, subst, ◌∙◌}
use Rattle.std.specs.Prelude.{IfSome, option_map}
use Rattle.std.specs.List.{AllByRecursion}
use Rattle.hol_terms.specs.Term.{Term}
use Rattle.hol_terms.specs.TermStore.{TermStore, term_tree}
use Rattle.sexp.specs.Forest.{Kept, trees_at}
use Rattle.goal_text.specs.declared.fault.GoalFailure.{GoalFailure}
use Rattle.goal_text.specs.declared.fault.GoalFailure.TheVariants as failures
use Rattle.goal_text.specs.declared.fault.GoalKind.TheVariants.{NoGoal}
use Rattle.goal_text.specs.declared.items.Items.{Items as Made}
use Rattle.goal_text.specs.declared.problem.Problem.{Problem}
use Rattle.goal_text.specs.declared.problem.Declared.{Declared}
use Rattle.goal_text.specs.declared.scope.Constructor.{Constructor}
use Rattle.goal_text.specs.Read.{Read, Fails}
use Rattle.goal_text.specs.Items.{Items, no_items, items_of}
use Rattle.goal_text.specs.GoalRead.{GoalProblem, problem_by}
use Rattle.goal_text.specs.Names.{Constants}
use Rattle.goal_text.specs.Given.{AreGivenItems, IsGivenFormula, IsGivenProblem}
use Rattle.goal_text.specs.ItemsIn.{AreItems, HasConstructor, HasDeclared, IsFinished, IsProblem, declared_in, items_in, said_under}
use Rattle.goal_text.specs.Scope.{AreConstructors, terms_at, types_in}
use Rattle.goal_text.specs.Sentences.{HasSentence, HaveSentences}
use Rattle.goal_text.proofs.FoundLemmas.{constructor_said}

-- the constructors of a scope are declared in the store
constructors_there : (s : TermStore) (cs : List (List ℕ × Constructor)) → AreConstructors s cs → AllByRecursion (λ c. HasConstructor s c) (types_in cs)
constructors_there s [] all = tt
constructors_there s (c ∷ cs) all = ((c.1.name, all.0.name_is, all.0.declared), constructors_there s cs all.1)

module _ (made : Made) (n : ℕ) (is : AreItems made) (consts : List Declared) (facts : List ℕ) (t : ℕ) (listed : consts ≡ made.consts.items) (given : facts ≡ made.facts.items) (goal : made.goal ≡ Some t) where
  abbrev problem : Problem
  problem = record { base = made.base; consts = consts; facts = facts; goal = t }

  pub finished : IsFinished made n (Ok problem)
  finished =
      let said : GoalProblem = record { types = (items_in made).types; consts = (items_in made).consts; facts = (items_in made).facts; goal = term_tree made.base t } in (
        said,
        ap (λ g. problem_by (option_map (λ u. term_tree made.base u) g) (items_in made) n) goal,
        record {
          types = λ name arity h. constructor_said made.base made.scope.types name arity is.scope.types h;
          consts = ap (λ l. declared_in made.base l) listed ∙ is.consts;
          facts = ap (λ l. terms_at made.base l) given;
          goal = refl;
        },
      )

  problem_given : AreGivenItems (items_in made) → IsGivenProblem (said_under (items_in made).types problem)
  problem_given g =
      let types = (items_in made).types in
      let formula : IsGivenFormula types (items_in made).consts (term_tree made.base t) =
      let P : Option ℕ → Type 0 = λ o. IfSome (option_map (λ u. term_tree made.base u) o) (IsGivenFormula types (items_in made).consts) in subst P goal g.goal in
      let P : Constants → Type 0 = λ c. IsGivenProblem (record { types = types; consts = c; facts = terms_at made.base facts; goal = term_tree made.base t }) in
      let Q : List Term → Type 0 = λ f. IsGivenProblem (record { types = types; consts = (items_in made).consts; facts = f; goal = term_tree made.base t }) in
      subst P (sym (ap (λ l. declared_in made.base l) listed ∙ is.consts))
      (subst Q (sym (ap (λ l. terms_at made.base l) given)) (record { types = g.types; consts = g.consts; facts = g.facts; goal = formula }))

  pub is_problem : AreGivenItems (items_in made) → IsProblem problem
  is_problem g = record {
    declared = let P : List Declared → Type 0 = λ l. AllByRecursion (λ d. HasDeclared made.base d) l in subst P (sym listed) is.declared;
    facts = let P : List ℕ → Type 0 = λ l. HaveSentences made.base l in subst P (sym given) is.facts;
    goal = let P : Option ℕ → Type 0 = λ o. IfSome o (λ u. HasSentence made.base u) in subst P goal is.goal;
    types = (items_in made).types;
    constructors = constructors_there made.base made.scope.types is.scope.types;
    given = problem_given g;
  }

pub without_goal : (made : Made) (n : ℕ) → made.goal ≡ None → IsFinished made n (Err (failures.Refused (record { at = n; kind = NoGoal })))
without_goal made n goal = ap (λ g. problem_by (option_map (λ u. term_tree made.base u) g) (items_in made) n) goal

-- ---- from no items on

module _ (items : Items) (forest : List Kept) (end : ℕ) (none : items ≡ no_items) (all : end ≡ length forest) where
  pub from_none : items_of items (trees_at forest 0 end) ≡ items_of no_items (trees_at forest 0 (length forest))
  from_none = ap₂ (λ i e. items_of i (trees_at forest 0 e)) none all

  pub fails_from_none : (x : GoalFailure) → Fails x (items_of items (trees_at forest 0 end)) → Fails x (items_of no_items (trees_at forest 0 (length forest)))
  fails_from_none x h = let P : Read Items → Type 0 = λ r. Fails x r in subst P from_none h
