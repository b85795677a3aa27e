-- The distinct parts of terms, numbered from 0 in the order in which they are met: each term before its arguments from
-- left to right, a lambda before its body. The head of an application is no part, unless it is a lambda. A lambda's body
-- is taken as it stands, with its Bounds.
use Rattle.std.specs.Prelude.{List, [], ◌∷◌, ◌++◌, fold, if◌then◌else◌}
use Rattle.std.specs.List.{list_any}
use Rattle.hol_terms.specs.Term.{Term, FreeTm, BoundTm, ConstTm, NumTm, AppTm, LamTm}
use Rattle.hol_terms.specs.TermEq.{term_eq}

abbrev mutual
  -- what is met beneath a term, each as often as it is met
  pub met_beneath : Term → List Term
  met_beneath (FreeTm k n ty) = []
  met_beneath (BoundTm i ty) = []
  met_beneath (ConstTm n ty) = []
  met_beneath (NumTm z) = []
  met_beneath (AppTm f x) = met_at_head f ++ x ∷ met_beneath x
  met_beneath (LamTm ty b) = b ∷ met_beneath b

  -- what is met in a term that is applied
  pub met_at_head : Term → List Term
  met_at_head (FreeTm k n ty) = []
  met_at_head (BoundTm i ty) = []
  met_at_head (ConstTm n ty) = []
  met_at_head (NumTm z) = []
  met_at_head (AppTm f x) = met_at_head f ++ x ∷ met_beneath x
  met_at_head (LamTm ty b) = LamTm ty b ∷ b ∷ met_beneath b

-- what is met in a term: itself, and then what is met beneath
abbrev pub met_in : Term → List Term
met_in t = t ∷ met_beneath t

-- the parts with one more, where it is new
abbrev pub with_part : List Term → Term → List Term
with_part parts t = if list_any (term_eq t) parts then parts else parts ++ t ∷ []

-- the parts with those of one more term
abbrev pub with_parts_of : List Term → Term → List Term
with_parts_of parts t = fold with_part parts (met_in t)

-- the parts of terms, in order
unfoldable pub parts_of : List Term → List Term
parts_of terms = fold with_parts_of [] terms
