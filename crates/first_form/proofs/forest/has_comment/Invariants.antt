use Rattle.std.proofs.Common.{◌≡◌, drop, nat_eq}
use Rattle.std.specs.List.{list_any}
use Rattle.first_form.proofs.forest.has_comment.Given as goal

-- the bytes still to come decide
abbrev pub invariant-loop-b : goal.invariant-loop-b
invariant-loop-b l = list_any (nat_eq 59) (drop l.b-index l.bytes) ≡ list_any (nat_eq 59) l.bytes
