-- Problems that aren't taken yet: those with schematic facts, and those with lambdas.
use Rattle.std.specs.Prelude.{List, [], ◌∷◌, Bool, true, false, ◌||◌, if◌then◌else◌, bytes_eq, codes}
use Rattle.std.specs.List.{list_any}
use Rattle.hol_terms.specs.Term.{Term, FreeTm, BoundTm, ConstTm, NumTm, AppTm, LamTm}
use Rattle.hol_formulas.specs.FoundTypes.{type_variables_in}

-- there is something
abbrev pub is_some_of : {A : Type 0} → List A → Bool
is_some_of [] = false
is_some_of (x ∷ xs) = true

-- the term is a quantifier
abbrev pub is_quantifier : Term → Bool
is_quantifier (ConstTm name type) = bytes_eq name (codes "all") || bytes_eq name (codes "ex")
is_quantifier (FreeTm kind name type) = false
is_quantifier (BoundTm index type) = false
is_quantifier (NumTm value) = false
is_quantifier (AppTm f x) = false
is_quantifier (LamTm type body) = false

-- a lambda stands in the term that isn't a quantifier's argument, where `argument` says whether the term itself is one
unfoldable pub holds_lambda : Bool → Term → Bool
holds_lambda argument (LamTm type body) = if argument then holds_lambda false body else true
holds_lambda argument (AppTm f x) = holds_lambda false f || holds_lambda (is_quantifier f) x
holds_lambda argument (FreeTm kind name type) = false
holds_lambda argument (BoundTm index type) = false
holds_lambda argument (ConstTm name type) = false
holds_lambda argument (NumTm value) = false

-- a fact holds a type variable, or a fact or the goal a lambda that isn't a quantifier's argument
abbrev pub is_unbuilt : List Term → Term → Bool
is_unbuilt facts goal = is_some_of (type_variables_in facts) || (list_any (holds_lambda false) facts || holds_lambda false goal)
