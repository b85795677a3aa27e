-- Known bytes that grow twice.
use Rattle.std.proofs.Common.{◌≡◌, ℕ, ◌+◌, ◌-◌, ◌≤◌, List, ◌++◌, Option, Some, None, refl, ap, ◌∙◌, sym, take, drop, append_assoc, arith}
use Rattle.std.proofs.Math.Seq.{take-add}
use Rattle.std.specs.Io.KnownBytes.{append_known}

-- a piece and then another
append_known-append : (known : Option (List ℕ)) (xs ys : List ℕ) → append_known (append_known known xs) ys ≡ append_known known (xs ++ ys)
append_known-append None xs ys = refl
append_known-append (Some zs) xs ys = ap Some (append_assoc zs xs ys)

-- the front of a list up to a place, and then the bytes up to another
front_to : (piece : List ℕ) (done end : ℕ) → done ≤ end → take done piece ++ take (end - done) (drop done piece) ≡ take end piece
front_to piece done end within =
    let sum : done + (end - done) ≡ end = omega arith in
    sym (take-add done (end - done) piece) ∙ ap (λ n. take n piece) sum

-- the front of a piece up to a place, and then its bytes up to another
pub append_known-front : (known : Option (List ℕ)) (piece : List ℕ) (done end : ℕ) → done ≤ end → append_known (append_known known (take done piece)) (take (end - done) (drop done piece)) ≡ append_known known (take end piece)
append_known-front known piece done end within = append_known-append known (take done piece) (take (end - done) (drop done piece)) ∙ ap (append_known known) (front_to piece done end within)
