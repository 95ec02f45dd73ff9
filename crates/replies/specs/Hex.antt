-- Upper-case hexadecimal: the two digits of a byte, and the eight of four bytes.
use Rattle.std.specs.Prelude.{ℕ, ◌+◌, ◌/◌, ◌%◌, List, [], ◌∷◌, ◌++◌, ltb, if◌then◌else◌}

-- 0 to 9 are the characters from 48 on, ten to fifteen those from 65 on
abbrev pub digit_of : ℕ → ℕ
digit_of n = if ltb n 10 then n + 48 else n + 55

-- high before low
unfoldable pub hex_of : ℕ → List ℕ
hex_of b = digit_of (b / 16) ∷ digit_of (b % 16) ∷ []

-- four bytes of a number, the highest first
abbrev pub long_of : ℕ → List ℕ
long_of n = hex_of (n / 16777216 % 256) ++ hex_of (n / 65536 % 256) ++ hex_of (n / 256 % 256) ++ hex_of (n % 256)
