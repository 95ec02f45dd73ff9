-- The timer is a counter that passes zero, at every divider: n of its clocks, and when its flag is set.
use Rattle.std.proofs.Common.{◌≡◌, ℕ, suc, ◌+◌, ◌-◌, ◌*◌, ◌/◌, ◌%◌, ◌<◌, ◌≤◌, Bool, true, false, not, eqb, ◌⊎◌, refl, ap, ◌∙◌, inl, inr, mul_comm, arith, ne_eqb, if◌then◌else◌}
use native.Mathlib.Nat.{zero-mod, zero-div}
use lib.Dec.{eqb-suc-zero}
use lib.Arith.{digits_div, digits_mod}
use Rattle.clocks.specs.Clocks.{after}
use Rattle.clocks.specs.Forecasts.{comes}
use Rattle.clocks.specs.declared.Forecast.{Forecast}
use Rattle.clocks.specs.declared.Forecast.TheVariants.{Never, In}
use Rattle.clocks.proofs.Forecasts.{stood_comes}
use Rattle.clocks.proofs.Turns.{Within, Turned, one_more, Turns, after_short, after_past, flag_after}
use Rattle.interval.specs.Timer.{well_timed, moved, passed, clocked}
use Rattle.interval.specs.Closed.{counts_of, fallen, spent, due_of}
use Rattle.interval.specs.declared.Timer.{Timer}
use Rattle.interval.proofs.Formed.{Formed, formed}

module _ (x d p : ℕ) (f n : Bool) where
  -- the timer, expired or not
  abbrev timer : Bool → Timer
  timer e = record { value = x; divider = d; prescaler = p; expired = e; flag = f; enable = n }

  -- an expired one counts by itself
  expired_turns : p ≡ 1 → Turns clocked (timer true) x 255 (λ k. fallen k (timer true)) (λ q k. spent k (timer true))
  unfolding clocked
  expired_turns h =
      record {
        start = refl;
        counts = λ k l. simp eqb-suc-zero (ap (λ (y : ℕ). moved y p (timer true)) (omega arith));
        passes = ap (λ (y : ℕ). moved 255 y (timer true)) h;
        counts_on = λ q k l. simp eqb-suc-zero (ap (λ (y : ℕ). spent y (timer true)) (omega arith));
        passes_again = λ q. refl;
      }

  -- one count at a value y and a prescaler q
  abbrev step : ℕ → ℕ → Timer
  step y q =
      if eqb (q - 1) 0 then (if eqb y 0 then passed (timer false) else moved (y - 1) d (timer false)) else
      moved y (q - 1) (timer false)

  module _ (h : 0 < d) where
    falls : (k : ℕ) → step (suc k / d) (suc k % d + 1) ≡ fallen k (timer false)
    falls k = go (one_more k d h)
      where
        go : Within k d ⊎ Turned k d → step (suc k / d) (suc k % d + 1) ≡ fallen k (timer false)
        go (inl w) =
            let r : suc (k % d) + 1 - 1 ≡ k % d + 1 = omega arith in
            (λ i. step (w.quo i) (w.rem i + 1))
            ∙ rw (ne_eqb (suc (k % d) + 1 - 1) 0 (omega arith)) (ap (λ (q : ℕ). moved (k / d) q (timer false)) r)
        go (inr w) =
            let y : suc (k / d) - 1 ≡ k / d = omega arith in
            let r : d ≡ k % d + 1 = omega (arith, w.full) in
            (λ i. step (w.quo i) (w.rem i + 1)) ∙ simp eqb-suc-zero (λ i. moved (y i) (r i) (timer false))

    running_turns :
        1 ≤ p → p ≤ d
        → Turns clocked (timer false) (p - 1 + d * x) 255 (λ k. fallen k (timer false)) (λ q k. spent k (timer false))
    unfolding clocked
    running_turns l u =
        record {
          start = λ i. moved (value i) (prescaler i) (timer false);
          counts = λ k b. falls k;
          passes = λ i. step (zero-div d i) (zero-mod d i + 1);
          counts_on = λ q k b. simp eqb-suc-zero (ap (λ (y : ℕ). spent y (timer false)) (omega arith));
          passes_again = λ q. refl;
        }
      where
        whole : p - 1 + d * x ≡ x * d + (p - 1)
        whole = omega (arith, mul_comm x d)

        short : p - 1 < d
        short = omega arith

        value : (p - 1 + d * x) / d ≡ x
        value = ap (λ (y : ℕ). y / d) whole ∙ digits_div x short

        prescaler : (p - 1 + d * x) % d + 1 ≡ p
        prescaler = let e = ap (λ (y : ℕ). y % d) whole ∙ digits_mod x short in omega arith

pub turns : (t : Timer) → well_timed t ≡ true → Turns clocked t (counts_of t) 255 (λ k. fallen k t) (λ q k. spent k t)
turns t w = go t.expired (formed t w)
  where
    go :
        (e : Bool) → Formed t.divider t.prescaler e
        → Turns clocked (timer t.value t.divider t.prescaler t.flag t.enable e)
        (if e then t.value else t.prescaler - 1 + t.divider * t.value) 255
        (λ k. fallen k (timer t.value t.divider t.prescaler t.flag t.enable e))
        (λ q k. spent k (timer t.value t.divider t.prescaler t.flag t.enable e))
    go true h = expired_turns t.value t.divider t.prescaler t.flag t.enable (h.last refl)
    go false h =
        let l = h.low in
        let u = h.high in
        running_turns t.value t.divider t.prescaler t.flag t.enable (omega arith) l u

-- n clocks, short of the passing of zero and past it
pub ran_short : (t : Timer) → well_timed t ≡ true → (n : ℕ) → n ≤ counts_of t → after n clocked t ≡ fallen (counts_of t - n) t
ran_short t w n h = after_short (turns t w) n h

pub ran_past :
    (t : Timer) → well_timed t ≡ true → (n : ℕ) → counts_of t < n
    → after n clocked t ≡ spent (255 - (n - counts_of t - 1) % 256) t
ran_past t w n h =
    let e : n - suc (counts_of t) ≡ n - counts_of t - 1 = omega arith in
    after_past (turns t w) n h ∙ ap (λ (k : ℕ). spent (255 - k % 256) t) e

-- the timer's flag, any number of clocks ahead
pub flag_due : (t : Timer) → well_timed t ≡ true → (k : ℕ) → (after k clocked t).flag ≡ comes (due_of t) k
flag_due t w k =
    flag_after (turns t w) (λ t. t.flag) (not t.expired) (record { kept = kept; raised = λ q k. refl }) k
    ∙ stood_comes t.flag (if not t.expired then In (counts_of t + 1) else Never) k
    ∙ ap (λ (f : Forecast). comes (if t.flag then In 0 else f) k) (turned t.expired (In (counts_of t + 1)))
  where
    kept : (k : ℕ) → (fallen k t).flag ≡ t.flag
    kept k = go t.expired
      where
        go : (e : Bool) → (if e then moved k t.prescaler t else moved (k / t.divider) (k % t.divider + 1) t).flag ≡ t.flag
        go true = refl
        go false = refl

    turned : (e : Bool) (f : Forecast) → (if not e then f else Never) ≡ (if e then Never else f)
    turned true f = refl
    turned false f = refl
