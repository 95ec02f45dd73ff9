-- T1 is a counter that passes zero, in both modes and whatever its mark: n of its clocks, and when its flag is set.
use Rattle.std.proofs.Common.{◌≡◌, ℕ, suc, ◌+◌, ◌-◌, ◌/◌, ◌%◌, ◌<◌, ◌≤◌, Bool, true, false, ◌||◌, eqb, sym, refl, ap, ◌∙◌, mod-lt, arith, lit<, eq-eqb, ne_eqb, eqb-true, if◌then◌else◌}
use mathlib.Core.Bool.{false≢true}
use native.Mathlib.Decide.{ℕ_discrete}
use lib.Dec.{eqb-suc-zero}
use Rattle.clocks.specs.Clocks.{after}
use Rattle.clocks.specs.Forecasts.{comes}
use Rattle.clocks.specs.declared.Forecast.{Forecast}
use Rattle.clocks.specs.declared.Forecast.TheVariants.{Never, In}
use Rattle.clocks.proofs.Tests.{picked}
use Rattle.clocks.proofs.Turns.{Turns, after_short, after_past, flag_after}
use Rattle.clocks.proofs.Forecasts.{stood_comes, AtMost, most_gated}
use Rattle.timers.specs.First.{mark_fits, at, passed, clocked}
use Rattle.timers.specs.Closed.{top_of, period_of, turned, fallen}
use Rattle.timers.specs.declared.T1.{T1}

-- a clock goes by how many counts the timer is above zero
by_top : (t : T1) → clocked t ≡ (if eqb (top_of t) 0 then passed t else at (top_of t - 1) t)
unfolding clocked
by_top t = go t.mark
  where
    go :
        (m : Bool)
        → (if m then at t.latch t else (if eqb t.counter 0 then passed t else at (t.counter - 1) t))
        ≡ (if eqb (if m then t.latch + 1 else t.counter) 0 then passed t else at ((if m then t.latch + 1 else t.counter) - 1) t)
    go true = rw (ne_eqb (t.latch + 1) 0 (omega arith)) (ap (λ (x : ℕ). at x t) (omega arith))
    go false = refl

-- fallen to k, the timer is k counts above zero: a clock takes it one count lower, and past zero from there
module _ (t : T1) where
  top_fallen : (k : ℕ) → top_of (fallen k t) ≡ k
  top_fallen k = go (ℕ_discrete k (top_of t))
    where
      go : Dec (k ≡ top_of t) → top_of (fallen k t) ≡ k
      go (yes e) = rw (eq-eqb k (top_of t) e) (sym e)
      go (no e) = rw (ne_eqb k (top_of t) e)

  falls : (k : ℕ) → k < top_of t → clocked (fallen (suc k) t) ≡ fallen k t
  falls k h =
      by_top (fallen (suc k) t)
      ∙ rw (top_fallen (suc k), eqb-suc-zero k, ne_eqb k (top_of t) (omega arith))
      (picked (λ (u : T1). at (suc k - 1) u ≡ at k t) (eqb (suc k) (top_of t)) down down)
    where
      down : at (suc k - 1) t ≡ at k t
      down = ap (λ (x : ℕ). at x t) (omega arith)

  passes : clocked (fallen 0 t) ≡ passed t
  passes = by_top (fallen 0 t) ∙ rw (top_fallen 0) (picked (λ (u : T1). passed u ≡ passed t) (eqb 0 (top_of t)) refl refl)

-- the timer in free-run if r, armed if a
abbrev in_mode : Bool → Bool → T1 → T1
in_mode r a t =
    record { counter = t.counter; latch = t.latch; armed = a; mark = t.mark; level = t.level; flag = t.flag; free = r }

-- one passing more
again : (q : ℕ) (t : T1) → passed (turned q t) ≡ turned (suc q) t
unfolding after
again q t = go t.free t.armed
  where
    go : (r a : Bool) → passed (turned q (in_mode r a t)) ≡ turned (suc q) (in_mode r a t)
    go true a = refl
    go false true = refl
    go false false = refl

turns : (t : T1) → Turns clocked t (top_of t) (t.latch + 1) (λ k. fallen k t) (λ q k. fallen k (turned q t))
unfolding after
turns t =
    record {
      start = rw (eq-eqb (top_of t) (top_of t) refl);
      counts = falls t;
      passes = passes t ∙ sym (lands 0);
      counts_on = λ q. falls (turned q t);
      passes_again = λ q. passes (turned q t) ∙ again q t ∙ sym (lands (suc q));
    }
  where
    -- a passing puts it where it then starts from
    lands : (q : ℕ) → fallen (t.latch + 1) (turned q t) ≡ turned q t
    lands q = rw (eq-eqb (t.latch + 1) (t.latch + 1) refl)

-- a remainder is below what it is the remainder of
pub under : (n p : ℕ) → 0 < p → n % p ≤ p - 1
under n p some = omega (arith, mod-lt n some)

-- n clocks, short of the passing of zero and past it
pub ran_short : (t : T1) (n : ℕ) → n ≤ top_of t → after n clocked t ≡ fallen (top_of t - n) t
ran_short t n h = after_short (turns t) n h

pub ran_past :
    (t : T1) (n : ℕ) → top_of t < n
    → after n clocked t
    ≡ fallen (period_of t - 1 - (n - top_of t - 1) % period_of t) (turned ((n - top_of t - 1) / period_of t) t)
ran_past t n h =
    let e : n - suc (top_of t) ≡ n - top_of t - 1 = omega arith in
    let p : suc (t.latch + 1) ≡ period_of t = omega arith in
    let l : t.latch + 1 ≡ period_of t - 1 = omega arith in
    after_past (turns t) n h ∙ (λ i. fallen (l i - e i % p i) (turned (e i / p i) t))

-- T1's flag, any number of clocks ahead
flag_after_is :
    (t : T1) (k : ℕ) → (after k clocked t).flag ≡ (comes (if t.free || t.armed then In (top_of t + 1) else Never) k || t.flag)
flag_after_is t =
    flag_after (turns t) (λ t. t.flag) (t.free || t.armed) (record { kept = λ k. kept k t; raised = λ q k. kept k (turned q t) })
  where
    kept : (k : ℕ) (t : T1) → (fallen k t).flag ≡ t.flag
    kept k t = go (eqb k (top_of t))
      where
        go : (b : Bool) → (if b then t else at k t).flag ≡ t.flag
        go true = refl
        go false = refl

-- when the flag is set
abbrev pub due_of : T1 → Forecast
due_of t = if t.flag then In 0 else (if t.free || t.armed then In (top_of t + 1) else Never)

pub flag_due : (t : T1) (k : ℕ) → (after k clocked t).flag ≡ comes (due_of t) k
flag_due t k =
    flag_after_is t k ∙ stood_comes t.flag (if t.free || t.armed then In (top_of t + 1) else Never) k

-- a clock keeps the mode
pub keeps_free : (t : T1) → (clocked t).free ≡ t.free
unfolding clocked
keeps_free t =
    picked (λ (u : T1). u.free ≡ t.free) t.mark refl
    (picked (λ (u : T1). u.free ≡ t.free) (eqb t.counter 0) refl refl)

-- the test of the mark, from what it says
pub top_fits : (m : Bool) (c : ℕ) → (m ≡ true → c ≡ 65535) → mark_fits m c ≡ true
top_fits true c h = eq-eqb c 65535 (h refl)
top_fits false c h = refl

-- a reload is to come only at the top
pub marked_top : (t : T1) → (clocked t).mark ≡ true → (clocked t).counter ≡ 65535
unfolding clocked
marked_top t =
    picked (λ (u : T1). u.mark ≡ true → u.counter ≡ 65535) t.mark (λ e. absurd (false≢true e))
    (picked (λ (u : T1). u.mark ≡ true → u.counter ≡ 65535) (eqb t.counter 0) (λ e. refl) (λ e. absurd (false≢true e)))

-- a clock keeps 16 bits, and the flag is set after 65,537 clocks at the latest, or never
module _ (t : T1) (l : t.latch < 65536) (h : t.counter < 65536) where
  pub clock_range : ((clocked t).latch < 65536) × ((clocked t).counter < 65536)
  unfolding clocked
  clock_range =
      picked (λ (u : T1). (u.latch < 65536) × (u.counter < 65536)) t.mark (l, l)
      (picked (λ (u : T1). (u.latch < 65536) × (u.counter < 65536)) (eqb t.counter 0) (l, lit< tt) (l, omega arith))

  pub due_most : (n : ℕ) → 65537 ≤ n → AtMost n (due_of t)
  due_most n b =
      picked (AtMost n) t.flag (omega arith)
      (most_gated n (t.free || t.armed) (In (top_of t + 1)) (picked (λ (k : ℕ). k + 1 ≤ n) t.mark (omega arith) (omega arith)))
