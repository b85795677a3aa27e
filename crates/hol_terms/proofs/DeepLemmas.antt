-- The parts of a term are parts of what it is a part of.
use Rattle.std.proofs.Common.{◌≡◌, ℕ, ◌+◌, ◌<◌, ◌^◌, subst, arith}
use Rattle.hol_types.specs.Ty.{Ty}
use Rattle.hol_terms.specs.declared.memo.Part.{Part}
use Rattle.hol_terms.specs.Term.{Term, AppTm, LamTm, BoundsFit}
use Rattle.hol_terms.specs.TermStore.{TermStore, HasTerm, term_tree}
use Rattle.hol_terms.specs.Formula.{In}
use Rattle.hol_terms.specs.Substitution.{free_variables}
use Rattle.hol_terms.proofs.SetLemmas.{in_append_left, in_append_right}
use Rattle.hol_terms.specs.Deep.{IsPartOf, itself, function, argument, body, IsPart, IsPlace}

module _ (s : TermStore) (whole : Term) where
  pub part_function : (t f x : ℕ) → IsPart s whole t → term_tree s t ≡ AppTm (term_tree s f) (term_tree s x) → f < t → IsPart s whole f
  part_function t f x is tree below = let there = is.there in record { there = omega arith; part = function (subst (λ u. IsPartOf whole u) tree is.part) }

  pub part_argument : (t f x : ℕ) → IsPart s whole t → term_tree s t ≡ AppTm (term_tree s f) (term_tree s x) → x < t → IsPart s whole x
  part_argument t f x is tree below = let there = is.there in record { there = omega arith; part = argument (subst (λ u. IsPartOf whole u) tree is.part) }

  pub part_body : (t : ℕ) (ty : Ty) (b : ℕ) → IsPart s whole t → term_tree s t ≡ LamTm ty (term_tree s b) → b < t → IsPart s whole b
  part_body t ty b is tree below = let there = is.there in record { there = omega arith; part = body (subst (λ u. IsPartOf whole u) tree is.part) }

  pub place_function : (p : Part) (f x : ℕ) → IsPlace s whole p → term_tree s p.term ≡ AppTm (term_tree s f) (term_tree s x) → f < p.term → IsPlace s whole (record { term = f; index = p.index })
  place_function p f x is tree below = let there = is.there in let room = is.room in record { there = omega arith; room = omega arith; fits = λ ty h. (subst (λ u. BoundsFit u p.index ty) tree (is.fits ty h)).0 }

  pub place_argument : (p : Part) (f x : ℕ) → IsPlace s whole p → term_tree s p.term ≡ AppTm (term_tree s f) (term_tree s x) → x < p.term → IsPlace s whole (record { term = x; index = p.index })
  place_argument p f x is tree below = let there = is.there in let room = is.room in record { there = omega arith; room = omega arith; fits = λ ty h. (subst (λ u. BoundsFit u p.index ty) tree (is.fits ty h)).1 }

  pub place_body : (p : Part) (u : Ty) (b : ℕ) → IsPlace s whole p → term_tree s p.term ≡ LamTm u (term_tree s b) → b < p.term → IsPlace s whole (record { term = b; index = p.index + 1 })
  place_body p u b is tree below = let there = is.there in let room = is.room in record { there = omega arith; room = omega arith; fits = λ ty h. subst (λ v. BoundsFit v p.index ty) tree (is.fits ty h) }

-- the term is a part of itself
pub part_itself : (s : TermStore) (t : ℕ) → HasTerm s t → IsPart s (term_tree s t) t
part_itself s t there = record { there = there; part = itself }

pub place_itself : (s : TermStore) (t : ℕ) → HasTerm s t → t < 2 ^ 32 → IsPlace s (term_tree s t) (record { term = t; index = 0 })
place_itself s t there small = record { there = there; room = omega arith; fits = λ ty h. h }

-- what is free in a part is free in the whole
pub free_in_part : (v whole t : Term) → IsPartOf whole t → In v (free_variables t) → In v (free_variables whole)
free_in_part v whole _ itself h = h
free_in_part v whole _ (function {f} {x} is) h = free_in_part v whole (AppTm f x) is (in_append_left v (free_variables f) (free_variables x) h)
free_in_part v whole _ (argument {f} {x} is) h = free_in_part v whole (AppTm f x) is (in_append_right v (free_variables f) (free_variables x) h)
free_in_part v whole _ (body {ty} {b} is) h = free_in_part v whole (LamTm ty b) is h
