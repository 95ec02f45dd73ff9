-- One clock of the timer, case by case.
use Rattle.std.proofs.Common.{◌≡◌, ◌-◌, ◌<◌, ◌≤◌, Bool, true, false, refl, arith}
use Rattle.std.proofs.lemmas.Bool.Decides.{nat_tests}
use native.Mathlib.Decide.{dec_lt}
use Rattle.clocks.specs.Clocks.{lower}
use Rattle.interval.specs.Timer.{moved, clocked}
use Rattle.interval.specs.Closed.{spent}
use Rattle.interval.specs.declared.Timer.{Timer}

module _ (t : Timer) where
  spent_falls : t.expired ≡ true → clocked t ≡ moved (lower 256 t.value) t.prescaler t
  unfolding clocked
  spent_falls e = grind arith

  module _ (e : t.expired ≡ false) where
    waits : 1 < t.prescaler → clocked t ≡ moved t.value (t.prescaler - 1) t
    unfolding clocked
    waits h = grind (arith, nat_tests)

    passes : t.prescaler ≤ 1 → t.value ≡ 0 → clocked t ≡ spent 255 t
    unfolding clocked
    passes h z = grind (arith, nat_tests)

    falls : t.prescaler ≤ 1 → (t.value ≡ 0 → ⊥) → clocked t ≡ moved (t.value - 1) t.divider t
    unfolding clocked
    falls h z = grind (arith, nat_tests)

-- what holds of a timer after each of the four holds after a clock
module _ (P : Timer → Type 0) (t : Timer)
    (on-expired : t.expired ≡ true → P (moved (lower 256 t.value) t.prescaler t))
    (on-wait : t.expired ≡ false → 1 < t.prescaler → P (moved t.value (t.prescaler - 1) t))
    (on-pass : t.expired ≡ false → t.prescaler ≤ 1 → t.value ≡ 0 → P (spent 255 t))
    (on-fall : t.expired ≡ false → t.prescaler ≤ 1 → 0 < t.value → P (moved (t.value - 1) t.divider t)) where
  pub by_case : P (clocked t)
  by_case = go t.expired refl (dec_lt 1 t.prescaler) (dec_lt 0 t.value)
    where
      go : (e : Bool) → t.expired ≡ e → Dec (1 < t.prescaler) → Dec (0 < t.value) → P (clocked t)
      go true e d z = rw (spent_falls t e) (on-expired e)
      go false e (yes h) z = rw (waits t e h) (on-wait e h)
      go false e (no h) (yes z) = rw (falls t e (omega arith) (omega arith)) (on-fall e (omega arith) z)
      go false e (no h) (no z) = rw (passes t e (omega arith) (omega arith)) (on-pass e (omega arith) (omega arith))

-- a clock keeps the enable
pub keeps_enable : (t : Timer) → (clocked t).enable ≡ t.enable
unfolding clocked
keeps_enable t = grind arith
