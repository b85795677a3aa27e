-- The facts and the goal of a text that is read are given.
use Rattle.std.proofs.Common.{◌≡◌, ℕ, ◌<◌, List, [], ◌∷◌, ◌++◌, length, Option, Some, None, Ok, true, true≢false, refl, sym, subst}
use Rattle.std.specs.Prelude.{bytes_eq, codes, nat_lt, IfSome, ◌&&◌}
use Rattle.std.specs.Map.{lookup}
use Rattle.std.proofs.lemmas.Bool.{ltb-true}
use Rattle.hol_types.specs.Exact.{both_true}
use Rattle.hol_types.specs.Ty.{Ty, BoolTy}
use Rattle.hol_types.specs.TyEq.{ty_eq}
use Rattle.hol_types.proofs.TyEqLemmas.{ty_eq_sound}
use Rattle.hol_types.proofs.TypeLemmas.{lookup-left}
use Rattle.hol_terms.specs.Term.{Term, ty_of}
use Rattle.sexp.specs.Tree.{Tree, Trees, AtomTree, QuotedTree, ListTree, no_trees, more_trees}
use Rattle.goal_text.specs.declared.fault.GoalKind.TheVariants.{DeclaredTwice, NotBool, TwoGoals}
use Rattle.goal_text.specs.Read.{◌>>=◌, wanting}
use Rattle.goal_text.specs.Lexicon.{is_name, is_number, value_of, one_of, two_of, name_of}
use Rattle.goal_text.specs.Names.{Constructors, Constants, is_nothing}
use Rattle.goal_text.specs.Types.{type_of}
use Rattle.goal_text.specs.Terms.{term_of}
use Rattle.goal_text.specs.Items.{Items, no_items, env_behind, arity_of, with_type, type_item, const_item, formula_of, fact_item, goal_item, item_of, items_of}
use Rattle.goal_text.specs.GoalRead.{GoalProblem, GoalRead, problem_by, problem_of, trees_of, goal_read}
use Rattle.goal_text.proofs.KeptLemmas.{bind_ok, no_fault, same_Ok, wanting_ok}
use Rattle.goal_text.specs.Given.{AreDeclared, AreGivenFormulas, AreGivenItems, IsGivenFormula, IsGivenProblem, IsGivenType}
use Rattle.goal_text.proofs.ReadingLemmas.{if_read, test_passed}
use Rattle.goal_text.proofs.GivenTypeLemmas.{given_type}
use Rattle.goal_text.proofs.DeclaredLemmas.{declared_more, declared_type_more}
use Rattle.goal_text.proofs.GivenTermLemmas.{IsGivenEnv}
use Rattle.goal_text.proofs.GivenReadLemmas.{given_term}
use Rattle.goal_text.proofs.GivenKeptLemmas.{Declares, declares_same, type_kept, term_kept}

-- ---- declarations

declares_more : {X : Type 0} (old : List (List ℕ × X)) (name : List ℕ) (x : X) → Declares old (old ++ (name, x) ∷ [])
declares_more old name x = record { kept = λ n y h. lookup-left (bytes_eq n) old ((name, x) ∷ []) y h }

declared_kept : (old new : Constructors) (consts : Constants) → Declares old new → AreDeclared old consts → AreDeclared new consts
declared_kept old new [] more all = tt
declared_kept old new (c ∷ consts) more all = (all.0, all.1, type_kept old new more c.1 all.2, declared_kept old new consts more all.3)

given_env : (items : Items) → AreGivenItems items → IsGivenEnv (env_behind items)
given_env items g = record { declared = g.consts; binders = tt }

-- ---- formulas

module _ (old new : Constructors) (older newer : Constants) (more : Declares old new) (further : Declares older newer) where
  formula_kept : (t : Term) → IsGivenFormula old older t → IsGivenFormula new newer t
  formula_kept t h = record { given = term_kept old new more older newer further [] t h.given; formula = h.formula }

  formulas_kept : (ts : List Term) → AreGivenFormulas old older ts → AreGivenFormulas new newer ts
  formulas_kept [] all = tt
  formulas_kept (t ∷ ts) all = (formula_kept t all.0, formulas_kept ts all.1)

  goal_kept : (goal : Option Term) → IfSome goal (IsGivenFormula old older) → IfSome goal (IsGivenFormula new newer)
  goal_kept None h = tt
  goal_kept (Some t) h = formula_kept t h

formulas_more : (types : Constructors) (consts : Constants) (ts : List Term) (t : Term) → AreGivenFormulas types consts ts → IsGivenFormula types consts t → AreGivenFormulas types consts (ts ++ t ∷ [])
formulas_more types consts [] t all h = (h, tt)
formulas_more types consts (u ∷ ts) t all h = (all.0, formulas_more types consts ts t all.1 h)

-- ---- each item

name_read : (tree : Tree) (name : List ℕ) → name_of tree ≡ Ok name → is_name name ≡ true
unfolding name_of
name_read (AtomTree at text) name h = if_read (is_name text) _ _ name (λ n e. subst (λ x. is_name x ≡ true) (same_Ok text name e) n) (λ n e. no_fault _ at name e) h
name_read (QuotedTree at text) name h = no_fault _ at name h
name_read (ListTree at parts) name h = no_fault _ at name h

arity_read : (tree : Tree) (n : ℕ) → arity_of tree ≡ Ok n → n < 9
unfolding arity_of
arity_read (AtomTree at text) n h =
    if_read (is_number text && nat_lt (value_of text) 9) _ _ n (λ b e. subst (λ x. x < 9) (same_Ok (value_of text) n e) (ltb-true (value_of text) 9 (both_true (is_number text) (nat_lt (value_of text) 9) b).1)) (λ b e. no_fault _ at n e) h
arity_read (QuotedTree at text) n h = no_fault _ at n h
arity_read (ListTree at parts) n h = no_fault _ at n h

nothing_there : {X : Type 0} (o : Option X) → is_nothing o ≡ true → o ≡ None
nothing_there None h = refl
nothing_there (Some x) h = absurd (true≢false (sym h))

type_item_kept : (items : Items) → AreGivenItems items → (at : ℕ) (parts : Trees) (next : Items) → type_item items at parts ≡ Ok next → AreGivenItems next
unfolding type_item
type_item_kept items g at parts next h =
    let both = bind_ok (two_of at parts) (λ both. name_of both.0 >>= λ s. wanting (is_nothing (lookup (bytes_eq s) items.types)) DeclaredTwice at (arity_of both.1) >>= λ n. Ok (with_type items s n)) next h in
    let s = bind_ok (name_of both.0.0) (λ s. wanting (is_nothing (lookup (bytes_eq s) items.types)) DeclaredTwice at (arity_of both.0.1) >>= λ n. Ok (with_type items s n)) next both.2 in
    let n = bind_ok (wanting (is_nothing (lookup (bytes_eq s.0) items.types)) DeclaredTwice at (arity_of both.0.1)) (λ n. Ok (with_type items s.0 n)) next s.2 in
    let new = nothing_there (lookup (bytes_eq s.0) items.types) (test_passed (is_nothing (lookup (bytes_eq s.0) items.types)) DeclaredTwice at (arity_of both.0.1) n.0 n.1) in
    let few = arity_read both.0.1 n.0 (wanting_ok (is_nothing (lookup (bytes_eq s.0) items.types)) DeclaredTwice at (arity_of both.0.1) n.0 n.1) in
    subst (λ i. AreGivenItems i) {x = with_type items s.0 n.0} (same_Ok (with_type items s.0 n.0) next n.2) (made s.0 n.0 (name_read both.0.0 s.0 s.1) new few)
  where
    made : (s : List ℕ) (n : ℕ) → is_name s ≡ true → lookup (bytes_eq s) items.types ≡ None → n < 9 → AreGivenItems (with_type items s n)
    made s n named new few =
        let more : Declares items.types (items.types ++ (s, n) ∷ []) = declares_more items.types s n in
        let same : Declares items.consts items.consts = declares_same items.consts in
        record {
          types = declared_type_more items.types s n g.types named new few;
          consts = declared_kept items.types (items.types ++ (s, n) ∷ []) items.consts more g.consts;
          facts = formulas_kept items.types (items.types ++ (s, n) ∷ []) items.consts items.consts more same items.facts g.facts;
          goal = goal_kept items.types (items.types ++ (s, n) ∷ []) items.consts items.consts more same items.goal g.goal;
        }

const_item_kept : (items : Items) → AreGivenItems items → (at : ℕ) (parts : Trees) (next : Items) → const_item items at parts ≡ Ok next → AreGivenItems next
unfolding const_item
const_item_kept items g at parts next h =
    let both = bind_ok (two_of at parts) (λ both. name_of both.0 >>= λ c. wanting (is_nothing (lookup (bytes_eq c) items.consts)) DeclaredTwice at (type_of items.types both.1) >>= λ t. Ok (with_one c t)) next h in
    let c = bind_ok (name_of both.0.0) (λ c. wanting (is_nothing (lookup (bytes_eq c) items.consts)) DeclaredTwice at (type_of items.types both.0.1) >>= λ t. Ok (with_one c t)) next both.2 in
    let t = bind_ok (wanting (is_nothing (lookup (bytes_eq c.0) items.consts)) DeclaredTwice at (type_of items.types both.0.1)) (λ t. Ok (with_one c.0 t)) next c.2 in
    let new = nothing_there (lookup (bytes_eq c.0) items.consts) (test_passed (is_nothing (lookup (bytes_eq c.0) items.consts)) DeclaredTwice at (type_of items.types both.0.1) t.0 t.1) in
    let type = given_type items.types both.0.1 t.0 (wanting_ok (is_nothing (lookup (bytes_eq c.0) items.consts)) DeclaredTwice at (type_of items.types both.0.1) t.0 t.1) in
    subst (λ i. AreGivenItems i) {x = with_one c.0 t.0} (same_Ok (with_one c.0 t.0) next t.2) (made c.0 t.0 (name_read both.0.0 c.0 c.1) new type)
  where
    with_one : List ℕ → Ty → Items
    with_one c t = record items { consts = items.consts ++ (c, t) ∷ [] }

    made : (c : List ℕ) (t : Ty) → is_name c ≡ true → lookup (bytes_eq c) items.consts ≡ None → IsGivenType items.types t → AreGivenItems (with_one c t)
    made c t named new type =
        let same : Declares items.types items.types = declares_same items.types in
        let more : Declares items.consts (items.consts ++ (c, t) ∷ []) = declares_more items.consts c t in
        record {
          types = g.types;
          consts = declared_more items.types items.consts c t g.consts named new type;
          facts = formulas_kept items.types items.types items.consts (items.consts ++ (c, t) ∷ []) same more items.facts g.facts;
          goal = goal_kept items.types items.types items.consts (items.consts ++ (c, t) ∷ []) same more items.goal g.goal;
        }

formula_given : (items : Items) → AreGivenItems items → (at : ℕ) (tree : Tree) (f : Term) → formula_of items at tree ≡ Ok f → IsGivenFormula items.types items.consts f
unfolding formula_of
formula_given items g at tree f h =
    let t = bind_ok (term_of (env_behind items) tree) (λ t. wanting (ty_eq BoolTy (ty_of t)) NotBool at (Ok t)) f h in
    let is = ty_eq_sound BoolTy (ty_of t.0) (test_passed (ty_eq BoolTy (ty_of t.0)) NotBool at (Ok t.0) f t.2) in
    subst (λ u. IsGivenFormula items.types items.consts u) (same_Ok t.0 f (wanting_ok (ty_eq BoolTy (ty_of t.0)) NotBool at (Ok t.0) f t.2))
    (record { given = given_term (env_behind items) (given_env items g) tree t.0 t.1; formula = sym is })

fact_item_kept : (items : Items) → AreGivenItems items → (at : ℕ) (parts : Trees) (next : Items) → fact_item items at parts ≡ Ok next → AreGivenItems next
unfolding fact_item
fact_item_kept items g at parts next h =
    let tree = bind_ok (one_of at parts) (λ tree. formula_of items at tree >>= λ f. Ok (with_one f)) next h in
    let f = bind_ok (formula_of items at tree.0) (λ f. Ok (with_one f)) next tree.2 in
    let all = formulas_more items.types items.consts items.facts f.0 g.facts (formula_given items g at tree.0 f.0 f.1) in
    subst (λ i. AreGivenItems i) {x = with_one f.0} (same_Ok (with_one f.0) next f.2) (record { types = g.types; consts = g.consts; facts = all; goal = g.goal })
  where
    with_one : Term → Items
    with_one f = record items { facts = items.facts ++ f ∷ [] }

goal_item_kept : (items : Items) → AreGivenItems items → (at : ℕ) (parts : Trees) (next : Items) → goal_item items at parts ≡ Ok next → AreGivenItems next
unfolding goal_item
goal_item_kept items g at parts next h =
    let tree = bind_ok (one_of at parts) (λ tree. wanting (is_nothing items.goal) TwoGoals at (formula_of items at tree) >>= λ f. Ok (with_one f)) next h in
    let f = bind_ok (wanting (is_nothing items.goal) TwoGoals at (formula_of items at tree.0)) (λ f. Ok (with_one f)) next tree.2 in
    let formula = formula_given items g at tree.0 f.0 (wanting_ok (is_nothing items.goal) TwoGoals at (formula_of items at tree.0) f.0 f.1) in
    subst (λ i. AreGivenItems i) {x = with_one f.0} (same_Ok (with_one f.0) next f.2) (record { types = g.types; consts = g.consts; facts = g.facts; goal = formula })
  where
    with_one : Term → Items
    with_one f = record items { goal = Some f }

item_kept : (items : Items) → AreGivenItems items → (tree : Tree) (next : Items) → item_of items tree ≡ Ok next → AreGivenItems next
unfolding item_of
item_kept items g (AtomTree at text) next h = no_fault _ at next h
item_kept items g (QuotedTree at text) next h = no_fault _ at next h
item_kept items g (ListTree at no_trees) next h = no_fault _ at next h
item_kept items g (ListTree at (more_trees (QuotedTree head text) parts)) next h = no_fault _ at next h
item_kept items g (ListTree at (more_trees (ListTree head others) parts)) next h = no_fault _ at next h
item_kept items g (ListTree at (more_trees (AtomTree head word) parts)) next h =
    if_read (bytes_eq word (codes "type")) _ _ next (λ b e. type_item_kept items g at parts next e)
    (λ b e. if_read (bytes_eq word (codes "const")) _ _ next (λ c f. const_item_kept items g at parts next f)
    (λ c f. if_read (bytes_eq word (codes "fact")) _ _ next (λ d k. fact_item_kept items g at parts next k)
    (λ d k. if_read (bytes_eq word (codes "goal")) _ _ next (λ x l. goal_item_kept items g at parts next l) (λ x l. no_fault _ at next l) k) f) e) h

pub items_given : (items : Items) → AreGivenItems items → (trees : Trees) (last : Items) → items_of items trees ≡ Ok last → AreGivenItems last
unfolding items_of
items_given items g no_trees last h = subst (λ i. AreGivenItems i) (same_Ok items last h) g
items_given items g (more_trees tree trees) last h =
    let next = bind_ok (item_of items tree) (λ next. items_of next trees) last h in
    items_given next.0 (item_kept items g tree next.0 next.1) trees last next.2

pub no_items_given : AreGivenItems no_items
no_items_given = record { types = tt; consts = tt; facts = tt; goal = tt }

-- ---- the whole text

problem_given : (items : Items) → AreGivenItems items → (o : Option Term) → items.goal ≡ o → (n : ℕ) (said : GoalProblem) → problem_by o items n ≡ Ok said → IsGivenProblem said
problem_given items g None e n said h = no_fault _ n said h
problem_given items g (Some goal) e n said h =
    let formula : IsGivenFormula items.types items.consts goal = subst (λ o. IfSome o (IsGivenFormula items.types items.consts)) e g.goal in
    let made : GoalProblem = record { types = items.types; consts = items.consts; facts = items.facts; goal = goal } in
    subst (λ s. IsGivenProblem s) {x = made} (same_Ok made said h) (record { types = g.types; consts = g.consts; facts = g.facts; goal = formula })

-- what a text says is given
pub read_goal_given : (text : List ℕ) (said : GoalProblem) → GoalRead text said → IsGivenProblem said
unfolding goal_read
read_goal_given text said h =
    let trees = bind_ok (trees_of text) (λ trees. items_of no_items trees >>= λ items. problem_of items (length text)) said h in
    let items = bind_ok (items_of no_items trees.0) (λ items. problem_of items (length text)) said trees.2 in
    problem_given items.0 (items_given no_items no_items_given trees.0 items.0 items.1) items.0.goal refl (length text) said items.2
