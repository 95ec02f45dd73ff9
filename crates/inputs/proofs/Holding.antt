-- The interrupt as the code tests it: by numbers, where the definition goes by the highest in service.
use Rattle.std.specs.Prelude.{if◌then◌else◌}
use mathlib.Core.Path.{◌≡◌}
use mathlib.Core.Bool.{Bool, true, false, not, ◌&&◌}
use Prim.Native.Nat.{ℕ, ◌%◌, ◌<◌}
use native.Mathlib.Omega.{arith}
use lib.Dec.{eqb, ltb, leb}
use lib.Bits.{and_le_l}
use borrow.Author.Tests.{le-ltb}
use Rattle.std.proofs.lemmas.Bool.Decides.{nat_tests}
use Rattle.inputs.specs.Inputs.{interrupts, priority, highest_of, unmasked, shown, asserted}
use Rattle.inputs.specs.declared.Inputs.{Inputs}
use Rattle.inputs.proofs.Top.{below_highest}

module _ (cr mask : ℕ) (v : Inputs) where
  pub with_priority :
      v.latch < 256 → v.service < 256 → priority cr ≡ true → ltb v.service (shown cr mask v) ≡ asserted cr mask v
  unfolding shown asserted
  with_priority l s p = rw p (go (interrupts cr))
    where
      go :
          (t : Bool)
          → ltb v.service (if t then highest_of 8 (unmasked mask v) else 0)
          ≡ (not (eqb (if t then highest_of 8 (unmasked mask v) else 0) 0)
          && not (leb (if t then highest_of 8 (unmasked mask v) else 0) (highest_of 8 v.service)))
      go true = below_highest 8 v.service (unmasked mask v) s (omega (arith, and_le_l v.latch (mask % 32)))
      go false = le-ltb v.service 0 (omega arith)

  pub without_priority :
      priority cr ≡ false → (not (eqb (shown cr mask v) 0) && eqb v.service 0) ≡ asserted cr mask v
  unfolding asserted
  without_priority p = grind (arith, nat_tests)
