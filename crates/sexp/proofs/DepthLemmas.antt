use Rattle.std.proofs.Common.{◌≤◌, List, [], ◌∷◌, length, arith, Bool, true, false, if◌then◌else◌}
use Rattle.sexp.specs.Depth.{depth_of}
use Rattle.sexp.specs.declared.nest.Frame.{Frame}

one_at_most : (b : Bool) → (if b then 1 else 0) ≤ 1
one_at_most true = omega arith
one_at_most false = omega arith

pub depth-le : (lists : List Frame) → depth_of lists ≤ length lists
depth-le [] = omega arith
depth-le (f ∷ lists) = omega (arith, depth-le lists, one_at_most f.counts)
