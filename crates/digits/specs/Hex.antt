-- Upper-case hexadecimal: what a character, a pair of them and four of them are worth.
use Rattle.std.specs.Prelude.{ℕ, ◌+◌, ◌-◌, ◌*◌, Option, None, Some, nat_lt, if◌then◌else◌}

-- 0 to 9 are the characters from 48 on, ten to fifteen those from 65 on; no other is a digit
abbrev pub value_of : ℕ → Option ℕ
value_of c =
    if nat_lt c 48 then None else
    (if nat_lt c 58 then Some (c - 48) else
    (if nat_lt c 65 then None else
    (if nat_lt c 71 then Some (c - 55) else
    None)))

-- two numbers as one, the high one first, the low one being below `base`; none where one of the two is none
abbrev pub joined : ℕ → Option ℕ → Option ℕ → Option ℕ
joined base None low = None
joined base (Some h) None = None
joined base (Some h) (Some l) = Some (h * base + l)

-- the byte of two digits, high before low
unfoldable pub pair_of : ℕ → ℕ → Option ℕ
pair_of h l = joined 16 (value_of h) (value_of l)

-- two bytes as one number
unfoldable pub word_of : ℕ → ℕ → ℕ → ℕ → Option ℕ
word_of a b c d = joined 256 (pair_of a b) (pair_of c d)
