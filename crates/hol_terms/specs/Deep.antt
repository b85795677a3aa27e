-- The parts of a term, which a walk goes through first where the term is deep.
use Rattle.std.specs.Prelude.{ℕ, ◌+◌, ◌<◌, ◌^◌}
use Rattle.hol_types.specs.Ty.{Ty}
use Rattle.hol_terms.specs.declared.memo.Part.{Part}
use Rattle.hol_terms.specs.Term.{Term, AppTm, LamTm, BoundsFit}
use Rattle.hol_terms.specs.TermStore.{TermStore, HasTerm, term_tree}

-- a term stands in the whole
pub data IsPartOf (whole : Term) : Term → Type 0 where
  itself : IsPartOf whole whole
  function : {f x : Term} → IsPartOf whole (AppTm f x) → IsPartOf whole f
  argument : {f x : Term} → IsPartOf whole (AppTm f x) → IsPartOf whole x
  body : {ty : Ty} → {b : Term} → IsPartOf whole (LamTm ty b) → IsPartOf whole b

-- a number of the store stands for a part of the whole
pub record IsPart (s : TermStore) (whole : Term) (t : ℕ) : Type 0 where
  pub there : HasTerm s t
  pub part : IsPartOf whole (term_tree s t)

-- so it does below binders, whose number is the index that the whole's loose Bounds of index 0 have there
pub record IsPlace (s : TermStore) (whole : Term) (p : Part) : Type 0 where
  pub there : HasTerm s p.term
  pub room : p.index + p.term < 2 ^ 32
  pub fits : (ty : Ty) → BoundsFit whole 0 ty → BoundsFit (term_tree s p.term) p.index ty
