-- Names that are declared, and one more.
use Rattle.std.proofs.Common.{◌≡◌, ℕ, ◌<◌, List, [], ◌∷◌, ◌++◌, Some, None, Bool, true, false, true≢false, cond, refl, sym, ap, subst, ◌∙◌}
use Rattle.std.specs.Prelude.{bytes_eq}
use Rattle.std.specs.Map.{lookup}
use Rattle.std.proofs.lemmas.Option.{none-some, same_Some}
use Rattle.hol_types.specs.Ty.{Ty}
use Rattle.hol_types.proofs.TyEqLemmas.{text_eq_sound, text_eq_refl}
use Rattle.goal_text.specs.Lexicon.{is_name}
use Rattle.goal_text.specs.Names.{Constructors, Constants}
use Rattle.goal_text.specs.Given.{AreDeclared, AreDeclaredTypes, IsGivenType}

-- a constant is declared under a name
pub declared_named : (types : Constructors) (consts : Constants) (name : List ℕ) (type : Ty) → AreDeclared types consts → lookup (bytes_eq name) consts ≡ Some type → is_name name ≡ true
declared_named types [] name type all h = absurd (none-some type h)
declared_named types (c ∷ consts) name type all h = by (bytes_eq name c.0) refl h (λ k. declared_named types consts name type all.3 k)
  where
    by : (b : Bool) → bytes_eq name c.0 ≡ b → cond b (Some c.1) (lookup (bytes_eq name) consts) ≡ Some type → (lookup (bytes_eq name) consts ≡ Some type → is_name name ≡ true) → is_name name ≡ true
    by true e k more = subst (λ n. is_name n ≡ true) (sym (text_eq_sound name c.0 e)) all.0
    by false e k more = more k

-- with a given type
pub declared_given : (types : Constructors) (consts : Constants) (name : List ℕ) (type : Ty) → AreDeclared types consts → lookup (bytes_eq name) consts ≡ Some type → IsGivenType types type
declared_given types [] name type all h = absurd (none-some type h)
declared_given types (c ∷ consts) name type all h = by (bytes_eq name c.0) h (λ k. declared_given types consts name type all.3 k)
  where
    by : (b : Bool) → cond b (Some c.1) (lookup (bytes_eq name) consts) ≡ Some type → (lookup (bytes_eq name) consts ≡ Some type → IsGivenType types type) → IsGivenType types type
    by true k more = subst (λ t. IsGivenType types t) (same_Some c.1 type k) all.2
    by false k more = more k

-- ---- one more

module _ {X : Type 0} where
  lookup_last_other : (old : List (List ℕ × X)) (name other : List ℕ) (x : X) → bytes_eq other name ≡ false → lookup (bytes_eq other) old ≡ None → lookup (bytes_eq other) (old ++ (name, x) ∷ []) ≡ None
  lookup_last_other [] name other x differ h = ap (λ b. cond b (Some x) None) differ
  lookup_last_other (c ∷ old) name other x differ h = by (bytes_eq other c.0) h (λ k. lookup_last_other old name other x differ k)
    where
      by : (b : Bool) → cond b (Some c.1) (lookup (bytes_eq other) old) ≡ None → (lookup (bytes_eq other) old ≡ None → lookup (bytes_eq other) (old ++ (name, x) ∷ []) ≡ None)
          → cond b (Some c.1) (lookup (bytes_eq other) (old ++ (name, x) ∷ [])) ≡ None
      by true k more = absurd (none-some c.1 (sym k))
      by false k more = more k

  -- a new name is none of those before
  new_differs : (c : List ℕ × X) (old : List (List ℕ × X)) (name : List ℕ) → lookup (bytes_eq name) (c ∷ old) ≡ None → (bytes_eq c.0 name ≡ false) × (lookup (bytes_eq name) old ≡ None)
  new_differs c old name h = by (bytes_eq c.0 name) (bytes_eq name c.0) refl refl h
    where
      by : (b d : Bool) → bytes_eq c.0 name ≡ b → bytes_eq name c.0 ≡ d → cond d (Some c.1) (lookup (bytes_eq name) old) ≡ None → (bytes_eq c.0 name ≡ false) × (lookup (bytes_eq name) old ≡ None)
      by b true e f k = absurd (none-some c.1 (sym k))
      by false false e f k = (e, k)
      by true false e f k = absurd (true≢false (sym (text_eq_refl name) ∙ ap (bytes_eq name) (sym (text_eq_sound c.0 name e)) ∙ f))

pub declared_more : (types : Constructors) (consts : Constants) (name : List ℕ) (type : Ty) → AreDeclared types consts → is_name name ≡ true → lookup (bytes_eq name) consts ≡ None → IsGivenType types type → AreDeclared types (consts ++ (name, type) ∷ [])
declared_more types [] name type all named new given = (named, refl, given, tt)
declared_more types (c ∷ consts) name type all named new given =
    let differ = new_differs c consts name new in
    (all.0, lookup_last_other consts name c.0 type differ.0 all.1, all.2, declared_more types consts name type all.3 named differ.1 given)

pub declared_type_more : (types : Constructors) (name : List ℕ) (n : ℕ) → AreDeclaredTypes types → is_name name ≡ true → lookup (bytes_eq name) types ≡ None → n < 9 → AreDeclaredTypes (types ++ (name, n) ∷ [])
declared_type_more [] name n all named new few = (named, refl, few, tt)
declared_type_more (c ∷ types) name n all named new few =
    let differ = new_differs c types name new in
    (all.0, lookup_last_other types name c.0 n differ.0 all.1, all.2, declared_type_more types name n all.3 named differ.1 few)
