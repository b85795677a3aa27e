-- What is known of a list of a term by its form.
use Rattle.std.proofs.Common.{◌≡◌, ℕ, ◌+◌, ◌<◌, List, [], ◌∷◌, length, Option, Some, None, Ok, Bool, true, false, if◌then◌else◌, ◌&&◌, map, refl, ap, subst, ◌∙◌, arith}
use Rattle.std.specs.Prelude.{bytes_eq, nat_lt}
use Rattle.std.specs.Map.{lookup}
use Rattle.std.proofs.lemmas.Bool.{ltb-true}
use Rattle.hol_types.specs.Ty.{Ty}
use Rattle.sexp.specs.Tree.{Tree, Trees, AtomTree, QuotedTree, ListTree, no_trees, more_trees, count, place}
use Rattle.goal_text.specs.declared.fault.GoalKind.TheVariants.{Syntax, UnknownName}
use Rattle.goal_text.specs.declared.word.Word.{Word}
use Rattle.goal_text.specs.declared.word.Word.TheVariants.{Applies, Binds, Ascribes}
use Rattle.goal_text.specs.declared.word.Operator.{Operator}
use Rattle.goal_text.specs.declared.word.Binder.{Binder}
use Rattle.goal_text.specs.Read.{◌>>=◌, wanting}
use Rattle.goal_text.specs.Lexicon.{two_of, name_of, variable_of}
use Rattle.goal_text.specs.Names.{Env, Constructors, Binders, bound_to, is_nothing}
use Rattle.goal_text.specs.Types.{type_of}
use Rattle.goal_text.specs.Matching.{is_ground}
use Rattle.goal_text.specs.Operations.{takes}
use Rattle.goal_text.specs.Forms.{Form, Applied, Instance, Negative, Operation, Binding, Ascription, instanced, application, is_minus, is_literal, operation, binder_of, binders_of, binder_list, binding, declared_by, constant_of, ascription, head_word, headed, form_of}
use Rattle.goal_text.proofs.KeptLemmas.{bind_ok, no_fault, same_Ok, wanting_ok}
use Rattle.goal_text.specs.Given.{IsGivenType}
use Rattle.goal_text.proofs.ReadingLemmas.{test_passed}
use Rattle.goal_text.proofs.GivenTypeLemmas.{given_type}

-- the types of binders
abbrev pub binder_types : Binders → List Ty
binder_types binders = map (λ b. b.1) binders

-- each type is given
abbrev pub TypesGiven : Constructors → List Ty → Type 0
TypesGiven types [] = Unit {0}
TypesGiven types (t ∷ ts) = IsGivenType types t × TypesGiven types ts

-- what the form says of the trees behind the head
abbrev pub FormSays : Env → Trees → Form → Type 0
FormSays env behind Applied = 0 < count behind
FormSays env behind (Instance head name type) = (0 < count behind) × (lookup (bytes_eq name) env.consts ≡ Some type) × (is_ground type ≡ false)
FormSays env behind Negative = is_literal behind ≡ true
FormSays env behind (Operation operator) = (takes operator (count behind) ≡ true) × ((is_minus operator && is_literal behind) ≡ false)
FormSays env behind (Binding binder binders) = (0 < length binders) × TypesGiven env.types (binder_types binders)
FormSays env behind (Ascription name declared type) = (lookup (bytes_eq name) env.consts ≡ Some declared) × IsGivenType env.types type

-- ---- applications

instanced_says : (env : Env) (behind : Trees) (o : Option Ty) (at : ℕ) (name : List ℕ) → 0 < count behind → lookup (bytes_eq name) env.consts ≡ o → FormSays env behind (instanced o at name)
instanced_says env behind None at name some e = some
instanced_says env behind (Some type) at name some e = by (is_ground type) refl
  where
    by : (b : Bool) → is_ground type ≡ b → FormSays env behind (if b then Applied else Instance at name type)
    by true h = some
    by false h = (some, e, h)

application_says : (env : Env) (behind : Trees) (head : Tree) → 0 < count behind → FormSays env behind (application env head)
unfolding application
application_says env behind (AtomTree at text) some = by (is_nothing (bound_to env.binders text))
  where
    by : (b : Bool) → FormSays env behind (if b then instanced (lookup (bytes_eq text) env.consts) at text else Applied)
    by true = instanced_says env behind (lookup (bytes_eq text) env.consts) at text some refl
    by false = some
application_says env behind (QuotedTree at text) some = some
application_says env behind (ListTree at parts) some = some

-- ---- operations

operation_says : (env : Env) (at : ℕ) (operator : Operator) (behind : Trees) (form : Form) → operation at operator behind ≡ Ok form → FormSays env behind form
unfolding operation
operation_says env at operator behind form h =
    let enough = test_passed (takes operator (count behind)) Syntax at (Ok (if is_minus operator && is_literal behind then Negative else Operation operator)) form h in
    let same = same_Ok (if is_minus operator && is_literal behind then Negative else Operation operator) form (wanting_ok (takes operator (count behind)) Syntax at (Ok (if is_minus operator && is_literal behind then Negative else Operation operator)) form h) in
    subst (λ f. FormSays env behind f) same (by (is_minus operator) (is_literal behind) refl refl enough)
  where
    by : (b c : Bool) → is_minus operator ≡ b → is_literal behind ≡ c → takes operator (count behind) ≡ true → FormSays env behind (if b && c then Negative else Operation operator)
    by true true m l t = l
    by true false m l t = (t, ap (λ x. x && is_literal behind) m ∙ l)
    by false c m l t = (t, ap (λ x. x && is_literal behind) m)

-- ---- binders

binder_given : (types : Constructors) (tree : Tree) (b : List ℕ × Ty) → binder_of types tree ≡ Ok b → IsGivenType types b.1
unfolding binder_of
binder_given types (AtomTree at text) b h = no_fault _ at b h
binder_given types (QuotedTree at text) b h = no_fault _ at b h
binder_given types (ListTree at parts) b h =
    let both = bind_ok (two_of at parts) (λ both. variable_of both.0 >>= λ x. type_of types both.1 >>= λ t. Ok (x, t)) b h in
    let x = bind_ok (variable_of both.0.0) (λ x. type_of types both.0.1 >>= λ t. Ok (x, t)) b both.2 in
    let t = bind_ok (type_of types both.0.1) (λ t. Ok (x.0, t)) b x.2 in
    let P : List ℕ × Ty → Type 0 = λ c. IsGivenType types c.1 in
    subst P {x = (x.0, t.0)} (same_Ok (x.0, t.0) b t.2) (given_type types both.0.1 t.0 t.1)

binders_given : (types : Constructors) (outer : Binders) (entries : Trees) (bs : Binders) → 0 < count entries + length outer → TypesGiven types (binder_types outer) → binders_of types outer entries ≡ Ok bs → (0 < length bs) × TypesGiven types (binder_types bs)
unfolding binders_of
binders_given types outer no_trees bs some all h =
    let P : Binders → Type 0 = λ cs. (0 < length cs) × TypesGiven types (binder_types cs) in
    let there : 0 < length outer = omega arith in
    subst P (same_Ok outer bs h) (there, all)
binders_given types outer (more_trees entry entries) bs some all h =
    let b = bind_ok (binder_of types entry) (λ b. binders_of types (b ∷ outer) entries) bs h in
    binders_given types (b.0 ∷ outer) entries bs (omega arith) (binder_given types entry b.0 b.1, all) b.2

binder_list_given : (types : Constructors) (tree : Tree) (bs : Binders) → binder_list types tree ≡ Ok bs → (0 < length bs) × TypesGiven types (binder_types bs)
unfolding binder_list
binder_list_given types (AtomTree at text) bs h = no_fault _ at bs h
binder_list_given types (QuotedTree at text) bs h = no_fault _ at bs h
binder_list_given types (ListTree at no_trees) bs h = no_fault _ at bs h
binder_list_given types (ListTree at (more_trees entry entries)) bs h = binders_given types [] (more_trees entry entries) bs (omega arith) tt h

binding_says : (env : Env) (at : ℕ) (binder : Binder) (behind : Trees) (form : Form) → binding env.types at binder behind ≡ Ok form → FormSays env behind form
unfolding binding
binding_says env at binder behind form h =
    let both = bind_ok (two_of at behind) (λ both. binder_list env.types both.0 >>= λ binders. Ok (Binding binder binders)) form h in
    let binders = bind_ok (binder_list env.types both.0.0) (λ binders. Ok (Binding binder binders)) form both.2 in
    subst (λ f. FormSays env behind f) (same_Ok (Binding binder binders.0) form binders.2) (binder_list_given env.types both.0.0 binders.0 binders.1)

-- ---- ascriptions

declared_says : (env : Env) (o : Option Ty) (at : ℕ) (name : List ℕ) (c : List ℕ × Ty) → lookup (bytes_eq name) env.consts ≡ o → declared_by o at name ≡ Ok c → lookup (bytes_eq c.0) env.consts ≡ Some c.1
declared_says env None at name c e h = no_fault _ at c h
declared_says env (Some type) at name c e h = let P : List ℕ × Ty → Type 0 = λ d. lookup (bytes_eq d.0) env.consts ≡ Some d.1 in subst P (same_Ok (name, type) c h) e

constant_declared : (env : Env) (tree : Tree) (c : List ℕ × Ty) → constant_of env tree ≡ Ok c → lookup (bytes_eq c.0) env.consts ≡ Some c.1
unfolding constant_of
constant_declared env tree c h =
    let name = bind_ok (name_of tree) (λ name. wanting (is_nothing (bound_to env.binders name)) UnknownName (place tree) (declared_by (lookup (bytes_eq name) env.consts) (place tree) name)) c h in
    declared_says env (lookup (bytes_eq name.0) env.consts) (place tree) name.0 c refl
    (wanting_ok (is_nothing (bound_to env.binders name.0)) UnknownName (place tree) (declared_by (lookup (bytes_eq name.0) env.consts) (place tree) name.0) c name.2)

ascription_says : (env : Env) (at : ℕ) (behind : Trees) (form : Form) → ascription env at behind ≡ Ok form → FormSays env behind form
unfolding ascription
ascription_says env at behind form h =
    let both = bind_ok (two_of at behind) (λ both. constant_of env both.0 >>= λ c. type_of env.types both.1 >>= λ t. Ok (Ascription c.0 c.1 t)) form h in
    let c = bind_ok (constant_of env both.0.0) (λ c. type_of env.types both.0.1 >>= λ t. Ok (Ascription c.0 c.1 t)) form both.2 in
    let t = bind_ok (type_of env.types both.0.1) (λ t. Ok (Ascription c.0.0 c.0.1 t)) form c.2 in
    subst (λ f. FormSays env behind f) {x = Ascription c.0.0 c.0.1 t.0} (same_Ok (Ascription c.0.0 c.0.1 t.0) form t.2) (constant_declared env both.0.0 c.0 c.1, given_type env.types both.0.1 t.0 t.1)

-- ---- each form

headed_says : (env : Env) (at : ℕ) (word : Option Word) (head : Tree) (behind : Trees) (form : Form) → headed env at word head behind ≡ Ok form → FormSays env behind form
headed_says env at None head behind form h =
    let some : 0 < count behind = ltb-true 0 (count behind) (test_passed (nat_lt 0 (count behind)) Syntax at (Ok (application env head)) form h) in
    subst (λ f. FormSays env behind f) (same_Ok (application env head) form (wanting_ok (nat_lt 0 (count behind)) Syntax at (Ok (application env head)) form h)) (application_says env behind head some)
headed_says env at (Some (Applies operator)) head behind form h = operation_says env at operator behind form h
headed_says env at (Some (Binds binder)) head behind form h = binding_says env at binder behind form h
headed_says env at (Some Ascribes) head behind form h = ascription_says env at behind form h

pub form_says : (env : Env) (at : ℕ) (head : Tree) (behind : Trees) (form : Form) → form_of env at (more_trees head behind) ≡ Ok form → FormSays env behind form
unfolding form_of
form_says env at head behind form h = headed_says env at (head_word head) head behind form h
