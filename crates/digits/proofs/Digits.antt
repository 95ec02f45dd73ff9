-- What digits are worth is in range.
use Rattle.std.proofs.Common.{◌≡◌, ℕ, ◌<◌, refl, arith}
use Rattle.std.proofs.lemmas.Grind.{common_steps}
use Rattle.std.specs.Prelude.{Option, None, Some}
use Rattle.clocks.proofs.Options.{none_some, same_some}
use Rattle.digits.specs.Hex.{value_of, joined, pair_of}

pub value_small : (c v : ℕ) → value_of c ≡ Some v → v < 16
value_small c v e = grind (arith, common_steps)

-- a pair is a byte
pub pair_small : (h l b : ℕ) → pair_of h l ≡ Some b → b < 256
unfolding pair_of
pair_small h l b e = go (value_of h) (value_of l) (value_small h) (value_small l) e
  where
    go : (x y : Option ℕ) → ((v : ℕ) → x ≡ Some v → v < 16) → ((v : ℕ) → y ≡ Some v → v < 16) → joined 16 x y ≡ Some b → b < 256
    go None y p q e = absurd (none_some b e)
    go (Some x) None p q e = absurd (none_some b e)
    go (Some x) (Some y) p q e = omega (arith, p x refl, q y refl, same_some _ _ e)
