-- T2 is a counter that passes zero, where clocks count: n of its clocks, and when its flag is set.
use Rattle.std.proofs.Common.{◌≡◌, ℕ, suc, ◌+◌, ◌-◌, ◌%◌, ◌<◌, ◌≤◌, Bool, true, false, not, ◌&&◌, ◌||◌, eqb, refl, ap, ◌∙◌, arith, lit<, if◌then◌else◌}
use mathlib.Core.Bool.{and-true, and-false}
use lib.Dec.{eqb-suc-zero}
use Rattle.clocks.specs.Clocks.{after}
use Rattle.clocks.specs.Forecasts.{comes}
use Rattle.clocks.specs.declared.Forecast.{Forecast}
use Rattle.clocks.specs.declared.Forecast.TheVariants.{Never, In}
use Rattle.clocks.proofs.Turns.{Turns, after_short, after_past, flag_after}
use Rattle.clocks.proofs.Clocks.{after_still, after_agree}
use Rattle.clocks.proofs.Tests.{picked}
use Rattle.clocks.proofs.Forecasts.{stood_comes, AtMost, most_gated}
use Rattle.timers.specs.Second.{counted, clocked, pulsed}
use Rattle.timers.specs.declared.T2.{T2}

-- the timer at k, armed as it was, and at k after it wrapped
abbrev pub fallen : ℕ → T2 → T2
fallen k t = record { counter = k; low = t.low; armed = t.armed; flag = t.flag; pulse = t.pulse }

abbrev pub wrapped : ℕ → T2 → T2
wrapped k t = record { counter = k; low = t.low; armed = false; flag = t.armed || t.flag; pulse = t.pulse }

turns : (t : T2) → Turns counted t t.counter 65535 (λ k. fallen k t) (λ q k. wrapped k t)
unfolding counted
turns t =
    record {
      start = refl;
      counts = λ k l. falls k t.armed t.flag;
      passes = λ i. record { counter = 65535; low = t.low; armed = and-false t.armed i; flag = wraps i; pulse = t.pulse };
      counts_on = λ q k l. falls k false (t.armed || t.flag);
      passes_again = λ q. refl;
    }
  where
    wraps : (t.armed && true || t.flag) ≡ (t.armed || t.flag)
    wraps = ap (λ (b : Bool). b || t.flag) (and-true t.armed)

    falls : (k : ℕ) (a f : Bool) →
        counted (record { counter = suc k; low = t.low; armed = a; flag = f; pulse = t.pulse })
        ≡ record { counter = k; low = t.low; armed = a; flag = f; pulse = t.pulse }
    falls k a f =
        simp (eqb-suc-zero, and-true, and-false)
        (ap (λ (x : ℕ). record { counter = x; low = t.low; armed = a; flag = f; pulse = t.pulse }) (omega arith))

-- pulses count, so clocks do nothing
pub resting : (n : ℕ) (t : T2) → t.pulse ≡ true → after n clocked t ≡ t
unfolding clocked
resting n t p = after_still clocked t (rw p) n

-- clocks count
counting : (n : ℕ) (t : T2) → t.pulse ≡ false → after n clocked t ≡ after n counted t
unfolding clocked counted
counting n t p = after_agree (λ u. u.pulse ≡ false) clocked counted (λ u e. rw e) (λ u e. e) n t p

module _ (t : T2) (p : t.pulse ≡ false) where
  pub ran_short : (n : ℕ) → n ≤ t.counter → after n clocked t ≡ fallen (t.counter - n) t
  ran_short n h = counting n t p ∙ after_short (turns t) n h

  pub ran_past : (n : ℕ) → t.counter < n → after n clocked t ≡ wrapped (65535 - (n - t.counter - 1) % 65536) t
  ran_past n h =
      let e : n - suc t.counter ≡ n - t.counter - 1 = omega arith in
      counting n t p ∙ after_past (turns t) n h ∙ ap (λ (k : ℕ). wrapped (65535 - k % 65536) t) e

-- when the flag is set, with PB6 still
abbrev pub due_of : T2 → Forecast
due_of t = if t.flag then In 0 else (if t.armed && not t.pulse then In (t.counter + 1) else Never)

-- an armed timer's flag is set by clocks only where clocks count
unmoved : (a : Bool) → (f : Forecast) → (if a && false then f else Never) ≡ Never
unmoved true f = refl
unmoved false f = refl

pub flag_due : (t : T2) (k : ℕ) → (after k clocked t).flag ≡ comes (due_of t) k
flag_due t k = go t.pulse refl ∙ stood_comes t.flag (if t.armed && not t.pulse then In (t.counter + 1) else Never) k
  where
    go :
        (b : Bool) → t.pulse ≡ b
        → (after k clocked t).flag ≡ (comes (if t.armed && not t.pulse then In (t.counter + 1) else Never) k || t.flag)
    go true p = ap (λ (u : T2). u.flag) (resting k t p) ∙ rw (p, unmoved t.armed (In (t.counter + 1)))
    go false p =
        ap (λ (u : T2). u.flag) (counting k t p)
        ∙ flag_after (turns t) (λ u. u.flag) t.armed (record { kept = λ k. refl; raised = λ q k. refl }) k
        ∙ rw (p, and-true)

-- a clock keeps the mode
pub keeps_mode : (t : T2) → (clocked t).pulse ≡ t.pulse
unfolding clocked counted
keeps_mode t = picked (λ (u : T2). u.pulse ≡ t.pulse) t.pulse refl refl

-- a count keeps 16 bits, so do a clock and a pulse, and the flag is set after 65,536 clocks at the latest, or never
module _ (t : T2) (h : t.counter < 65536) where
  counted_range : (counted t).counter < 65536
  unfolding counted
  counted_range = picked (λ (x : ℕ). x < 65536) (eqb t.counter 0) (lit< tt) (omega arith)

  pub clock_range : (clocked t).counter < 65536
  unfolding clocked
  clock_range = picked (λ (u : T2). u.counter < 65536) t.pulse h counted_range

  pub pulsed_range : (fall : Bool) → (pulsed fall t).counter < 65536
  unfolding pulsed
  pulsed_range fall = picked (λ (u : T2). u.counter < 65536) (t.pulse && fall) counted_range h

  pub due_most : (n : ℕ) → 65536 ≤ n → AtMost n (due_of t)
  due_most n l =
      picked (AtMost n) t.flag (omega arith) (most_gated n (t.armed && not t.pulse) (In (t.counter + 1)) (omega arith))

-- and it keeps the low latch
pub keeps_low : (t : T2) → (clocked t).low ≡ t.low
unfolding clocked counted
keeps_low t = picked (λ (u : T2). u.low ≡ t.low) t.pulse refl refl
