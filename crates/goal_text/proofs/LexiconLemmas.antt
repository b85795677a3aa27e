-- Numbers by their digits.
use Rattle.std.proofs.Common.{◌≡◌, ◌≤◌, ◌<◌, ℕ, suc, ◌+◌, ◌*◌, ◌-◌, List, [], ◌∷◌, length, get_or, drop, drop-cons, ap, sym, ◌∙◌, arith}
use Rattle.goal_text.specs.Lexicon.{value_behind}

-- more digits write no smaller number
pub value_grows : (n : ℕ) (digits : List ℕ) → n ≤ value_behind n digits
value_grows n [] = omega arith
value_grows n (d ∷ digits) = let more = value_grows (10 * n + (d - 48)) digits in omega (arith, more)

-- a number that is too large stays so
pub value_too_large : (most n i : ℕ) (text : List ℕ) → i < length text → most ≤ 10 * n + (get_or text i 0 - 48) → value_behind n (drop i text) ≡ value_behind 0 text
    → most ≤ value_behind 0 text
value_too_large most n i text below large so_far =
    let split : value_behind n (drop i text) ≡ value_behind (10 * n + (get_or text i 0 - 48)) (drop (suc i) text) = ap (value_behind n) (drop-cons text i 0 below) in
    let grows = value_grows (10 * n + (get_or text i 0 - 48)) (drop (suc i) text) in
    let same : value_behind (10 * n + (get_or text i 0 - 48)) (drop (suc i) text) ≡ value_behind 0 text = sym split ∙ so_far in
    omega (arith, grows, same, large)
