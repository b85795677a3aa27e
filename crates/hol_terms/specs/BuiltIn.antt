-- The names that no declaration may take: those of HOL's constants, and the words kept for the reals.
use Rattle.std.specs.Prelude.{ℕ, List, [], ◌∷◌, Bool, ◌||◌, bytes_eq, codes}
use Rattle.std.specs.List.{list_any}

-- truth and falsity, connectives, equality, conditionals, quantifiers and choice
abbrev pub logic_names : List (List ℕ)
logic_names = codes "true" ∷ codes "false" ∷ codes "not" ∷ codes "and" ∷ codes "or" ∷ codes "=>" ∷ codes "eq" ∷ codes "ite" ∷ codes "all" ∷ codes "ex" ∷ codes "choice" ∷ []

-- the integers
abbrev pub integer_names : List (List ℕ)
integer_names = codes "+" ∷ codes "*" ∷ codes "neg" ∷ codes "sub" ∷ codes "div" ∷ codes "mod" ∷ codes "le" ∷ codes "lt" ∷ []

-- the reals
abbrev pub real_names : List (List ℕ)
real_names = codes "frac" ∷ codes "radd" ∷ codes "rneg" ∷ codes "rsub" ∷ codes "rmul" ∷ codes "rle" ∷ codes "rlt" ∷ []

-- the text is one of the names
abbrev pub is_one_of : List (List ℕ) → List ℕ → Bool
is_one_of names text = list_any (bytes_eq text) names

abbrev pub is_built_in : List ℕ → Bool
is_built_in text = is_one_of logic_names text || is_one_of integer_names text || is_one_of real_names text
