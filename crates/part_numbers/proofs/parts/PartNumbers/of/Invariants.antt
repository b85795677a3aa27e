use Rattle.std.proofs.Common.{◌≡◌, [], drop}
use Rattle.std.specs.Prelude.{fold}
use Rattle.std.specs.List.{AllByRecursion}
use Rattle.hol_terms.specs.TermStore.{HasTerm}
use Rattle.part_numbers.specs.Parts.{with_parts_of}
use Rattle.part_numbers.specs.Walk.{AreCovered, terms_at}
use Rattle.part_numbers.proofs.parts.PartNumbers.of.Given as goal

-- the parts of the terms so far
abbrev pub invariant-loop-t : goal.invariant-loop-t
invariant-loop-t g l =
    let s = g.S.Terms.store l.fn.store in
    record {
      there : AllByRecursion (HasTerm s) l.parts.keys;
      covered : AreCovered s l.parts.keys [];
      read : fold with_parts_of (terms_at s l.parts.keys) (terms_at s (drop l.t-index l.fn.terms)) ≡ fold with_parts_of [] (terms_at s l.fn.terms);
    }
