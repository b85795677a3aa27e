-- A problem in a store that has gone on.
use Rattle.std.proofs.Common.{◌≡◌, ℕ, List, [], ◌∷◌, refl, sym, ap, subst, ◌∙◌}
use Rattle.std.specs.List.{AllByRecursion}
use Rattle.hol_terms.specs.TermStore.{TermStore, Keeps, term_tree}
use Rattle.goal_text.specs.declared.problem.Declared.{Declared}
use Rattle.goal_text.specs.declared.problem.Problem.{Problem}
use Rattle.goal_text.specs.Names.{Constructors}
use Rattle.goal_text.specs.GoalRead.{GoalProblem}
use Rattle.goal_text.specs.Given.{IsGivenProblem}
use Rattle.goal_text.specs.ItemsIn.{HasConstructor, HasDeclared, IsProblem, declared_in, said_under}
use Rattle.goal_text.specs.Scope.{terms_at}
use Rattle.goal_text.specs.Sentences.{HasSentence, HaveSentences}
use Rattle.goal_text.proofs.ItemLemmas.{declared_kept, declared_same, sentence_kept, sentences_kept}

constructors_kept : {s u : TermStore} (types : Constructors) → Keeps s u → AllByRecursion (λ c. HasConstructor s c) types → AllByRecursion (λ c. HasConstructor u c) types
constructors_kept [] k all = tt
constructors_kept (c ∷ types) k all =
    let n = all.0.0 in
    ((n, record { there = k.names n all.0.1.there; text = k.texts n all.0.1.there ∙ all.0.1.text }, k.arities n c.1 all.0.2), constructors_kept types k all.1)

sentences_same : {s u : TermStore} (ts : List ℕ) → Keeps s u → HaveSentences s ts → terms_at u ts ≡ terms_at s ts
sentences_same [] k all = refl
sentences_same (t ∷ ts) k all = let e = k.trees t all.0.there in let f = sentences_same ts k all.1 in rw (e, f) refl

module _ (problem : Problem) (u : TermStore) (consts : List Declared) (k : Keeps problem.base u) (is : IsProblem problem) (same : consts ≡ problem.consts) where
  pub constants_same : declared_in u consts ≡ declared_in problem.base problem.consts
  constants_same = ap (λ l. declared_in u l) same ∙ declared_same problem.consts k is.declared

  module _ (facts : List ℕ) (goal : ℕ) (given : facts ≡ problem.facts) (asked : goal ≡ problem.goal) where
    abbrev kept : Problem
    kept = record { base = u; consts = consts; facts = facts; goal = goal }

    said_same : (types : Constructors) → said_under types kept ≡ said_under types problem
    said_same types =
        let terms : terms_at u facts ≡ terms_at problem.base problem.facts = ap (λ l. terms_at u l) given ∙ sentences_same problem.facts k is.facts in
        let tree : term_tree u goal ≡ term_tree problem.base problem.goal = ap (λ t. term_tree u t) asked ∙ k.trees problem.goal is.goal.there in
        λ i. record { types = types; consts = constants_same i; facts = terms i; goal = tree i }

    pub problem_kept : IsProblem kept
    problem_kept = record {
      declared = let P : List Declared → Type 0 = λ l. AllByRecursion (λ d. HasDeclared u d) l in subst P (sym same) (declared_kept problem.consts k is.declared);
      facts = let P : List ℕ → Type 0 = λ l. HaveSentences u l in subst P (sym given) (sentences_kept problem.base u problem.facts k is.facts);
      goal = let P : ℕ → Type 0 = λ t. HasSentence u t in subst P (sym asked) (sentence_kept problem.base u problem.goal k is.goal);
      types = is.types;
      constructors = constructors_kept is.types k is.constructors;
      given = let P : GoalProblem → Type 0 = λ s. IsGivenProblem s in subst P (sym (said_same is.types)) is.given;
    }
