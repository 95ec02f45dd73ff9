-- What loads, clocks and changes of the flag keep of a timer: that it is well formed, and no higher than a load puts it.
use Rattle.std.proofs.Common.{◌≡◌, ℕ, ◌+◌, ◌*◌, ◌<◌, ◌≤◌, Bool, true, refl, arith, lit<, lit≤}
use Rattle.std.proofs.lemmas.Bool.Decides.{nat_tests}
use Rattle.interval.specs.Timer.{well_timed, loaded, clocked}
use Rattle.interval.specs.Closed.{counts_of}
use Rattle.interval.specs.Demands.{Reached, at_power_up, by_load, by_clock, by_flags}
use Rattle.interval.specs.declared.Timer.{Timer}
use Rattle.interval.proofs.Formed.{formed}
use Rattle.interval.proofs.Clocked.{by_case}

pub clock_well : (t : Timer) → well_timed t ≡ true → well_timed (clocked t) ≡ true
clock_well t w =
    by_case (λ s. well_timed s ≡ true) t
    (λ e. w)
    (λ e b. grind (arith, nat_tests))
    (λ e b z. grind (arith, nat_tests))
    (λ e b z. grind (arith, nat_tests))

pub load_well : (choice x : ℕ) (e : Bool) → well_timed (loaded choice x e) ≡ true
load_well choice x e = grind (arith, nat_tests)

-- a load puts a timer at most 255 values above zero
pub record Sound (t : Timer) : Type 0 where
  pub well : well_timed t ≡ true
  pub byte : t.value < 256
  pub low : t.prescaler + t.divider * t.value ≤ 1 + t.divider * 255

clock_sound : (t : Timer) → Sound t → Sound (clocked t)
clock_sound t s =
    let w = clock_well t s.well in
    let h = formed t s.well in
    let b = s.byte in
    let l = s.low in
    by_case (λ u. well_timed u ≡ true → Sound u) t
    (λ e w. record { well = w; byte = grind (arith, nat_tests); low = grind (arith, nat_tests) })
    (λ e g w. record { well = w; byte = b; low = grind (arith, nat_tests) })
    (λ e g z w. record { well = w; byte = lit< tt; low = grind (arith, nat_tests) })
    (λ e g z w. record { well = w; byte = grind (arith, nat_tests); low = grind (arith, nat_tests) })
    w

pub reached_sound : (t : Timer) → Reached t → Sound t
reached_sound t at_power_up = record { well = refl; byte = lit< tt; low = lit≤ tt }
reached_sound t (by_load choice x e h) = record { well = load_well choice x e; byte = h; low = grind (arith, nat_tests) }
reached_sound t (by_clock u r) = clock_sound u (reached_sound u r)
reached_sound t (by_flags f e u r) = let s = reached_sound u r in record { well = s.well; byte = s.byte; low = s.low }

-- how many counts a timer can be above zero: a reached one, and any well-formed one
pub counts_bound : (t : Timer) → Sound t → counts_of t < 261121
counts_bound t s =
    let h = formed t s.well in
    grind (arith, nat_tests, s.byte, s.low)

pub counts_most : (t : Timer) → t.value < 256 → well_timed t ≡ true → counts_of t < 262144
counts_most t b w = let h = formed t w in grind (arith, nat_tests)
