-- Clocks that shift are a counter that passes zero once and then rests: n of them, and when the flag is set.
use Rattle.std.specs.Int.{from_bool}
use Rattle.std.specs.Prelude.{if◌then◌else◌}
use mathlib.Core.Path.{◌≡◌, refl, sym, ap, ◌∙◌}
use mathlib.Core.Bool.{Bool, true, false, not, ◌&&◌, ◌||◌, and-false, false≢true}
use Prim.Native.Nat.{ℕ, zero, suc, ◌+◌, ◌-◌, ◌*◌, ◌/◌, ◌%◌, ◌<◌, ◌≤◌, zero-le}
use native.Mathlib.Decide.{dec_lt}
use native.Mathlib.Omega.{arith}
use lib.Dec.{eqb, lit≤}
use borrow.Author.Tests.{eq-eqb, ne_eqb}
use Rattle.clocks.specs.Clocks.{after, in_turn}
use Rattle.clocks.specs.Forecasts.{comes}
use Rattle.clocks.specs.declared.Forecast.TheVariants.{Never, In}
use Rattle.clocks.proofs.Clocks.{after_still}
use Rattle.clocks.proofs.Tests.{both, on_false, picked}
use Rattle.clocks.proofs.Turns.{Turns, after_short, after_past, flag_after}
use Rattle.clocks.proofs.Forecasts.{stood_comes, AtMost, most_gated}
use Rattle.shifter.specs.Shifter.{by_clock, by_pulse, shifted, shifts, marked, counting, clocked, pulsed, accessed}
use Rattle.shifter.specs.Closed.{clocks_of, due_of}
use Rattle.shifter.specs.declared.Shifter.{Shifter}
use Rattle.shifter.proofs.Shifts.{mode_kept, left_after, flag_before, flag_at_last}

-- j shifts on end, with CB2 still
abbrev made : Bool → ℕ → Shifter → Shifter
made level j s = shifts j (λ k. level) s

-- ---- clocks

pub still : (level : Bool) (s : Shifter) → counting s ≡ false → clocked level s ≡ s
unfolding clocked
still level s e = on_false (counting s) _ s e

-- a clock that moves it, by the mark
pub second_clock : (level : Bool) (s : Shifter) → counting s ≡ true → s.half ≡ true → clocked level s ≡ marked false (shifted level s)
unfolding clocked
second_clock level s c h = rw (c, h)

pub first_clock : (level : Bool) (s : Shifter) → counting s ≡ true → s.half ≡ false → clocked level s ≡ marked true s
unfolding clocked
first_clock level s c h = rw (c, h)

moving : (s : Shifter) → by_clock s.mode ≡ true → 0 < s.left → counting s ≡ true
moving s m l = rw (m, ne_eqb s.left 0 (omega arith))

by_mark :
    (level h : Bool) (s : Shifter) → by_clock s.mode ≡ true → 0 < s.left
    → clocked level (marked h s) ≡ (if h then marked false (shifted level s) else marked true s)
unfolding shifted
by_mark level true s m l = second_clock level (marked true s) (moving s m l) refl
by_mark level false s m l = first_clock level (marked false s) (moving s m l) refl

-- two clocks from no mark on are a shift
pub two_clocks :
    (level : Bool) (s : Shifter) → by_clock s.mode ≡ true → 0 < s.left → s.half ≡ false → after 2 (clocked level) s ≡ shifted level s
unfolding after shifted
two_clocks level s m l h =
    ap (λ (b : Bool). clocked level (clocked level (marked b s))) h
    ∙ ap (clocked level) (by_mark level false s m l)
    ∙ by_mark level true s m l
    ∙ ap (λ (b : Bool). marked b (shifted level s)) (sym h)

-- k counts above the clock that makes the last shift: two clocks are a shift, and the mark is set between them
abbrev fallen : Bool → ℕ → Shifter → Shifter
fallen level k s = marked (eqb (k % 2) 0) (made level (s.left - suc (k / 2)) s)

-- with all shifts made
abbrev pub spent : Bool → Shifter → Shifter
spent level s = marked false (made level s.left s)

module _ (level : Bool) (s : Shifter) (m : by_clock s.mode ≡ true) (l : 0 < s.left) where
  -- the clock after j shifts
  clock_after :
      (h : Bool) (j : ℕ) → j < s.left
      → clocked level (marked h (made level j s))
      ≡ (if h then marked false (made level (suc j) s) else marked true (made level j s))
  unfolding in_turn
  clock_after h j g =
      by_mark level h (made level j s) (ap by_clock (mode_kept (λ k. level) s j) ∙ m)
      (omega (arith, left_after (λ k. level) s j (omega arith)))

  falls : (k : ℕ) → k < clocks_of s - 1 → clocked level (fallen level (suc k) s) ≡ fallen level k s
  falls k g = go (dec_lt (k % 2) 1) (omega arith)
    where
      go : Dec (k % 2 < 1) → suc k < 2 * s.left → clocked level (fallen level (suc k) s) ≡ fallen level k s
      go (yes e) q =
          let h : s.left - suc (suc k / 2) ≡ s.left - suc (k / 2) = omega arith in
          rw (ne_eqb (suc k % 2) 0 (omega arith), eq-eqb (k % 2) 0 (omega arith), h)
          (clock_after false (s.left - suc (k / 2)) (omega arith))
      go (no e) q =
          let h : suc (s.left - suc (suc k / 2)) ≡ s.left - suc (k / 2) = omega arith in
          rw (eq-eqb (suc k % 2) 0 (omega arith), ne_eqb (k % 2) 0 (omega arith))
          (clock_after true (s.left - suc (suc k / 2)) (omega arith) ∙ ap (λ (j : ℕ). marked false (made level j s)) h)

  passes : clocked level (fallen level 0 s) ≡ spent level s
  passes =
      let h : suc (s.left - 1) ≡ s.left = omega arith in
      clock_after true (s.left - 1) (omega arith) ∙ ap (λ (j : ℕ). marked false (made level j s)) h

  rests : clocked level (spent level s) ≡ spent level s
  rests =
      let u = made level s.left s in
      let e = left_after (λ k. level) s s.left (omega arith) in
      still level (spent level s)
      (ap (λ (b : Bool). by_clock u.mode && not b) (eq-eqb u.left 0 (omega arith)) ∙ and-false (by_clock u.mode))

  turns : Turns (clocked level) s (clocks_of s - 1) 0 (λ k. fallen level k s) (λ q k. spent level s)
  unfolding in_turn
  turns =
      record {
        start = go s.half;
        counts = falls;
        passes = passes;
        counts_on = λ q k h. absurd (omega arith);
        passes_again = λ q. rests;
      }
    where
      -- with the mark h
      go : (h : Bool) → fallen level (2 * s.left - from_bool h - 1) (marked h s) ≡ marked h s
      go true =
          let e : s.left - suc ((2 * s.left - 1 - 1) / 2) ≡ 0 = omega arith in
          rw (eq-eqb ((2 * s.left - 1 - 1) % 2) 0 (omega arith), e)
      go false =
          let e : s.left - suc ((2 * s.left - 0 - 1) / 2) ≡ 0 = omega arith in
          rw (ne_eqb ((2 * s.left - 0 - 1) % 2) 0 (omega arith), e)

  -- n clocks, short of the last shift and past it; with those that the mark stands for they are `clocks`
  pub ran_short :
      (n clocks : ℕ) → clocks ≡ n + from_bool s.half → clocks < 2 * s.left
      → after n (clocked level) s ≡ marked (eqb (clocks % 2) 1) (made level (clocks / 2) s)
  ran_short n clocks e h =
      let j : s.left - suc ((clocks_of s - 1 - n) / 2) ≡ clocks / 2 = omega arith in
      after_short turns n (omega arith) ∙ (λ i. marked (parity (from_bool s.half) e i) (made level (j i) s))
    where
      parity : (b : ℕ) → clocks ≡ n + b → eqb ((2 * s.left - b - 1 - n) % 2) 0 ≡ eqb (clocks % 2) 1
      parity b e = go (dec_lt (clocks % 2) 1)
        where
          go : Dec (clocks % 2 < 1) → eqb ((2 * s.left - b - 1 - n) % 2) 0 ≡ eqb (clocks % 2) 1
          go (yes f) = rw (ne_eqb ((2 * s.left - b - 1 - n) % 2) 0 (omega arith), ne_eqb (clocks % 2) 1 (omega arith))
          go (no f) = rw (eq-eqb ((2 * s.left - b - 1 - n) % 2) 0 (omega arith), eq-eqb (clocks % 2) 1 (omega arith))

  pub ran_past : (n : ℕ) → 2 * s.left ≤ n + from_bool s.half → after n (clocked level) s ≡ spent level s
  ran_past n h = after_past turns n (some s.half h)
    where
      some : (h : Bool) → 2 * s.left ≤ n + from_bool h → 2 * s.left - from_bool h - 1 < n
      some true q = omega arith
      some false q = omega arith

  flag_after_is : (k : ℕ) → (after k (clocked level) s).flag ≡ (comes (In (clocks_of s)) k || s.flag)
  flag_after_is k =
      flag_after turns (λ u. u.flag) true
      (record {
        kept = λ k. flag_before (λ k. level) s (s.left - suc (k / 2)) (omega arith);
        raised = λ q k. raised;
      })
      k
      ∙ ap (λ (n : ℕ). comes (In n) k || s.flag) (whole s.half)
    where
      raised : (made level s.left s).flag ≡ true
      raised =
          let e : suc (s.left - 1) ≡ s.left = omega arith in
          ap (λ (j : ℕ). (made level j s).flag) (sym e) ∙ flag_at_last (λ k. level) s (s.left - 1) e

      whole : (h : Bool) → 2 * s.left - from_bool h - 1 + 1 ≡ 2 * s.left - from_bool h
      whole true = omega arith
      whole false = omega arith

-- a shifter that clocks move: its mode, and some shifts to come
pub moved : (s : Shifter) → counting s ≡ true → (by_clock s.mode ≡ true) × (0 < s.left)
moved s e =
    let b = both (by_clock s.mode) (not (eqb s.left 0)) e in
    (b.0, some s.left b.1)
  where
    some : (n : ℕ) → not (eqb n 0) ≡ true → 0 < n
    some zero e = absurd (false≢true e)
    some (suc n) e = omega arith

-- one that clocks do not move
pub resting : (level : Bool) (s : Shifter) → counting s ≡ false → (n : ℕ) → after n (clocked level) s ≡ s
resting level s e n = after_still (clocked level) s (still level s e) n

-- when the flag is set, whatever CB2's level
pub flag_due : (s : Shifter) (level : Bool) (k : ℕ) → (after k (clocked level) s).flag ≡ comes (due_of s) k
flag_due s level k = go (counting s) refl ∙ stood_comes s.flag (if counting s then In (clocks_of s) else Never) k
  where
    go : (b : Bool) → counting s ≡ b → (after k (clocked level) s).flag ≡ (comes (if counting s then In (clocks_of s) else Never) k || s.flag)
    go true e = let h = moved s e in flag_after_is level s h.0 h.1 k ∙ rw e
    go false e = ap (λ (u : Shifter). u.flag) (resting level s e k) ∙ rw e

-- CB1 moves it where it rises, in the modes that pulses shift, and nowhere else
pub on_rise : (level : Bool) (s : Shifter) → by_pulse s.mode ≡ true → pulsed true level s ≡ shifted level s
unfolding pulsed
on_rise level s m = rw m

pub no_rise : (level : Bool) (s : Shifter) → pulsed false level s ≡ s
unfolding pulsed
no_rise level s = rw (and-false (by_pulse s.mode))

pub other_modes : (rise level : Bool) (s : Shifter) → by_pulse s.mode ≡ false → pulsed rise level s ≡ s
unfolding pulsed
other_modes rise level s m = rw m

-- clocks and pulses keep the mode
pub clock_mode : (level : Bool) (s : Shifter) → (clocked level s).mode ≡ s.mode
unfolding clocked shifted
clock_mode level s =
    picked (λ (u : Shifter). u.mode ≡ s.mode) (counting s) (picked (λ (u : Shifter). u.mode ≡ s.mode) s.half refl refl) refl

pub pulsed_mode : (rise level : Bool) (s : Shifter) → (pulsed rise level s).mode ≡ s.mode
unfolding pulsed shifted
pulsed_mode rise level s = picked (λ (u : Shifter). u.mode ≡ s.mode) (by_pulse s.mode && rise) refl refl

-- at most 8 shifts to come stay at most 8
pub shifted_few : (level : Bool) (s : Shifter) → s.left ≤ 8 → (shifted level s).left ≤ 8
unfolding shifted
shifted_few level s h = picked (λ (n : ℕ). n - 1 ≤ 8) (eqb s.left 0) (lit≤ tt) (omega arith)

pub clocked_few : (level : Bool) (s : Shifter) → s.left ≤ 8 → (clocked level s).left ≤ 8
unfolding clocked
clocked_few level s h =
    picked (λ (u : Shifter). u.left ≤ 8) (counting s)
    (picked (λ (u : Shifter). u.left ≤ 8) s.half (shifted_few level s h) h) h

pub pulsed_few : (rise level : Bool) (s : Shifter) → s.left ≤ 8 → (pulsed rise level s).left ≤ 8
unfolding pulsed
pulsed_few rise level s h =
    picked (λ (u : Shifter). u.left ≤ 8) (by_pulse s.mode && rise) (shifted_few level s h) h

pub accessed_few : (s : Shifter) → s.left ≤ 8 → (accessed s).left ≤ 8
unfolding accessed
accessed_few s h = picked (λ (n : ℕ). n ≤ 8) (by_clock s.mode || by_pulse s.mode) (lit≤ tt) h

-- then the flag is set after 16 clocks at the latest, or never
pub due_most : (s : Shifter) → s.left ≤ 8 → (n : ℕ) → 16 ≤ n → AtMost n (due_of s)
due_most s h n b = picked (AtMost n) s.flag zero-le (most_gated n (counting s) (In (clocks_of s)) (omega arith))
