-- Constants that are declared are schematic by their types.
use Rattle.std.proofs.Common.{◌≡◌, ℕ, List, [], ◌∷◌, Option, Some, None, Bool, true, false, true≢false, ◌&&◌, ◌||◌, not, cond, refl, sym, ap, ◌∙◌}
use Rattle.std.specs.Prelude.{bytes_eq}
use Rattle.std.specs.Map.{lookup}
use Rattle.std.specs.List.{list_any}
use Rattle.std.proofs.lemmas.Option.{none-some, same_Some}
use Rattle.hol_types.specs.Ty.{Ty}
use Rattle.hol_types.proofs.TyEqLemmas.{text_eq_sound}
use Rattle.goal_text.specs.Lexicon.{is_name}
use Rattle.goal_text.specs.Names.{Constructors, Constants}
use Rattle.goal_text.specs.Matching.{is_ground}
use Rattle.goal_text.specs.Given.{AreDeclared}
use Rattle.goal_text.proofs.DeclaredLemmas.{declared_named}
use Rattle.goal_print.specs.TermText.{is_schematic}
use Rattle.goal_print.specs.Under.{IsOnce}

-- a text that isn't one of a constant
undeclared_closed : (consts : Constants) (name : List ℕ) → lookup (bytes_eq name) consts ≡ None → list_any (λ c. bytes_eq name c.0 && not (is_ground c.1)) consts ≡ false
undeclared_closed [] name h = refl
undeclared_closed (c ∷ consts) name h = by (bytes_eq name c.0) h (λ k. undeclared_closed consts name k)
  where
    by : (b : Bool) → cond b (Some c.1) (lookup (bytes_eq name) consts) ≡ None → (lookup (bytes_eq name) consts ≡ None → list_any (λ d. bytes_eq name d.0 && not (is_ground d.1)) consts ≡ false)
        → ((b && not (is_ground c.1)) || list_any (λ d. bytes_eq name d.0 && not (is_ground d.1)) consts) ≡ false
    by true k more = absurd (none-some c.1 (sym k))
    by false k more = more k

unnamed_undeclared : (types : Constructors) (consts : Constants) (name : List ℕ) → AreDeclared types consts → is_name name ≡ false → lookup (bytes_eq name) consts ≡ None
unnamed_undeclared types consts name all h = by (lookup (bytes_eq name) consts) refl
  where
    by : (o : Option Ty) → lookup (bytes_eq name) consts ≡ o → lookup (bytes_eq name) consts ≡ None
    by None e = e
    by (Some type) e = absurd (true≢false (sym (declared_named types consts name type all e) ∙ h))

declared_schematic : (types : Constructors) (consts : Constants) (name : List ℕ) (declared : Ty) → AreDeclared types consts → lookup (bytes_eq name) consts ≡ Some declared → list_any (λ c. bytes_eq name c.0 && not (is_ground c.1)) consts ≡ not (is_ground declared)
declared_schematic types [] name declared all h = absurd (none-some declared h)
declared_schematic types (c ∷ consts) name declared all h = by (bytes_eq name c.0) refl h (λ k. declared_schematic types consts name declared all.3 k)
  where
    or_none : (a b : Bool) → b ≡ false → (a || b) ≡ a
    or_none true b e = refl
    or_none false b e = e

    by : (b : Bool) → bytes_eq name c.0 ≡ b → cond b (Some c.1) (lookup (bytes_eq name) consts) ≡ Some declared
        → (lookup (bytes_eq name) consts ≡ Some declared → list_any (λ d. bytes_eq name d.0 && not (is_ground d.1)) consts ≡ not (is_ground declared))
        → ((b && not (is_ground c.1)) || list_any (λ d. bytes_eq name d.0 && not (is_ground d.1)) consts) ≡ not (is_ground declared)
    by true e k more =
        let none : lookup (bytes_eq name) consts ≡ None = ap (λ n. lookup (bytes_eq n) consts) (text_eq_sound name c.0 e) ∙ all.1 in
        or_none (not (is_ground c.1)) (list_any (λ d. bytes_eq name d.0 && not (is_ground d.1)) consts) (undeclared_closed consts name none) ∙ ap (λ t. not (is_ground t)) (same_Some c.1 declared k)
    by false e k more = more k

-- a name is schematic exactly where its type has type variables, and nothing else is
pub once_declared : (types : Constructors) (consts : Constants) → AreDeclared types consts → IsOnce consts
unfolding is_schematic
once_declared types consts all = record {
  only_names = λ name h. undeclared_closed consts name (unnamed_undeclared types consts name all h);
  once = λ name declared h. declared_schematic types consts name declared all h;
}
