-- Terms under binders, and constants that are declared once.
use Rattle.std.specs.Prelude.{◌≡◌, ℕ, ◌+◌, List, [], ◌∷◌, length, max, Some, false, not, bytes_eq}
use Rattle.std.specs.Map.{lookup}
use Rattle.hol_types.specs.Ty.{Ty}
use Rattle.hol_terms.specs.Term.{Term, FreeTm, BoundTm, ConstTm, NumTm, AppTm, LamTm}
use Rattle.goal_text.specs.Lexicon.{is_name}
use Rattle.goal_text.specs.Names.{Constructors, Constants, Binders, Env}
use Rattle.goal_text.specs.Matching.{is_ground}
use Rattle.goal_print.specs.TermText.{variable_text, is_schematic}

-- binders of these types, the innermost first, with the variables that they are written with
abbrev pub named : List Ty → Binders
named [] = []
named (t ∷ ts) = (variable_text (length ts), t) ∷ named ts

-- what names stand for under binders of these types
abbrev pub under_binders : Constructors → Constants → List Ty → Env
under_binders types consts bs = record { types = types; consts = consts; binders = named bs }

-- only names are declared, and none once with type variables and once without
pub record IsOnce (consts : Constants) : Type 0 where
  pub only_names : (name : List ℕ) → is_name name ≡ false → is_schematic consts name ≡ false
  pub once : (name : List ℕ) (declared : Ty) → lookup (bytes_eq name) consts ≡ Some declared → is_schematic consts name ≡ not (is_ground declared)

-- how many binders stand within one another
abbrev pub nested : Term → ℕ
nested (FreeTm kind name type) = 0
nested (BoundTm index type) = 0
nested (ConstTm name type) = 0
nested (NumTm value) = 0
nested (AppTm f x) = max (nested f) (nested x)
nested (LamTm type body) = nested body + 1
