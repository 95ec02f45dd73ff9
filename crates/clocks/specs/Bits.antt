-- The bits of a byte.
use Rattle.std.specs.Prelude.{Bool, false, ◌&&◌, ◌||◌, ℕ, zero, suc, ◌-◌, ◌/◌, ◌%◌, ◌^◌, eqb, if◌then◌else◌}
use Rattle.std.specs.Int.Bits.{bit_and, bit_or}

-- bit k of x
unfoldable pub bit : ℕ → ℕ → Bool
bit k x = eqb (x / 2 ^ k % 2) 1

-- x with the bits of the mask m set, and with them cleared
unfoldable pub with_set : ℕ → ℕ → ℕ
with_set m x = bit_or x m

unfoldable pub with_clear : ℕ → ℕ → ℕ
with_clear m x = x - bit_and x m

-- the bits that are set before and clear after
abbrev pub gone : ℕ → ℕ → ℕ
gone before after = with_clear after before

-- x with bit k as b says
unfoldable pub with_bit : ℕ → Bool → ℕ → ℕ
with_bit k b x = if b then with_set (2 ^ k) x else with_clear (2 ^ k) x

-- the bits of x where the mask m is 1, those of y where it is 0
unfoldable pub merge : ℕ → ℕ → ℕ → ℕ
merge m x y = bit_or (bit_and x m) (bit_and y (255 - m))

-- whether one of the low n bits is set in both x and y
unfoldable pub shares : ℕ → ℕ → ℕ → Bool
shares zero x y = false
shares (suc n) x y = bit n x && bit n y || shares n x y
