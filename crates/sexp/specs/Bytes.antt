-- What a byte is outside tokens and comments, and inside bars.
use Rattle.std.specs.Prelude.{ℕ, ◌+◌, ◌==◌, Bool, ◌||◌, ◌&&◌, not, nat_le, if◌then◌else◌}
use Rattle.sexp.specs.declared.bytes.Class.{Class}
use Rattle.sexp.specs.declared.bytes.Class.TheVariants.{White, Semicolon, Open, Close, Bar, Letter, Bad}

abbrev pub is_white : ℕ → Bool
is_white b = (b == 32) || (b == 9) || (b == 13) || (b == 10)

-- 0x21 to 0x7E, but for the quote
abbrev pub is_letter : ℕ → Bool
is_letter b = nat_le 33 b && nat_le b 126 && not (b == 34)

unfoldable pub class_of : ℕ → Class
class_of b =
    if b == 59 then Semicolon else
    if b == 40 then Open else
    if b == 41 then Close else
    if b == 124 then Bar else
    if is_white b then White else
    if is_letter b then Letter else Bad

-- 0x20 to 0x7E, tab, CR and LF, without the backslash
unfoldable pub stands_in_bars : ℕ → Bool
stands_in_bars b = ((nat_le 32 b && nat_le b 126) || is_white b) && not (b == 92)

-- how many letters an atom has in common with `let` once b is added, or 4 where it is no front of it
unfoldable pub letters_after : ℕ → ℕ → ℕ
letters_after n b = if (n == 0 && b == 108) || (n == 1 && b == 101) || (n == 2 && b == 116) then n + 1 else 4
