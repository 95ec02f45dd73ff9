-- The statements of specs/Demands.antt, proved.
use Rattle.std.proofs.Common.{◌≡◌, ℕ, ◌<◌, ◌≤◌, Bool, true, false, sym, refl, ◌∙◌, true≢false, zero-le, arith, lit≤}
use Rattle.clocks.specs.declared.Forecast.{Forecast}
use Rattle.clocks.proofs.Tests.{picked}
use Rattle.clocks.proofs.Forecasts.{comes_one, AtMost, most_in}
use Rattle.interval.specs.Timer.{well_timed, Due}
use Rattle.interval.specs.Closed.{counts_of, due_of}
use Rattle.interval.specs.Demands
use Rattle.interval.specs.Demands.{Reached}
use Rattle.interval.specs.declared.Timer.{Timer}
use Rattle.interval.proofs.Runs.{flag_due}
use Rattle.interval.proofs.Sound as Sound

pub reached_well : Demands.ReachedWell
reached_well t r = (Sound.reached_sound t r).well

pub clock_well : Demands.ClockWell
clock_well = Sound.clock_well

pub due_one : Demands.DueOne
due_one t f g a b = go (well_timed t) refl
  where
    go : (w : Bool) → well_timed t ≡ w → f ≡ g
    go true w = comes_one f g (λ k. sym (a.told w k) ∙ b.told w k)
    go false w = a.ill w ∙ sym (b.ill w)

-- of a well-formed timer the closed form is due
pub due_is : (t : Timer) → well_timed t ≡ true → Due t (due_of t)
due_is t w = record { told = flag_due t; ill = λ e. absurd (true≢false (sym w ∙ e)) }

-- it is at most one more than the counts above zero
most_counts : (n : ℕ) (t : Timer) (f : Forecast) → well_timed t ≡ true → Due t f → counts_of t < n → AtMost n f
most_counts n t f w d h =
    rw (due_one t f (due_of t) d (due_is t w))
    (picked (AtMost n) t.flag zero-le (picked (AtMost n) t.expired tt (omega arith)))

pub most_reached : (n : ℕ) (t : Timer) (f : Forecast) → 261121 ≤ n → Reached t → Due t f → AtMost n f
most_reached n t f h r d =
    let s = Sound.reached_sound t r in
    most_counts n t f s.well d (omega (arith, Sound.counts_bound t s))

pub most_well : (t : Timer) (f : Forecast) → t.value < 256 → well_timed t ≡ true → Due t f → AtMost 262144 f
most_well t f b w d = most_counts 262144 t f w d (Sound.counts_most t b w)

pub due_bound : Demands.DueBound
due_bound t f d r u e = most_in 261121 d f (most_reached 261121 t f (lit≤ tt) r u) e

pub due_most : Demands.DueMost
due_most t f d b w u e = most_in 262144 d f (most_well t f b w u) e
