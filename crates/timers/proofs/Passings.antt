-- T1's passings of zero: at which clocks they are, and what they leave of a disarmed one-shot.
use Rattle.std.proofs.Common.{◌≡◌, ℕ, ◌+◌, ◌-◌, ◌/◌, ◌%◌, ◌<◌, ◌≤◌, true, false, eqb, sym, refl, ap, ◌∙◌, mod-eq_of_lt, arith, eq-eqb, ne_eqb, if◌then◌else◌}
use native.Mathlib.Decide.{ℕ_discrete, dec_lt}
use native.Mathlib.Nat.{mod-eq-sub-mod}
use Rattle.clocks.specs.Clocks.{after}
use Rattle.clocks.proofs.Clocks.{after_keeps}
use Rattle.clocks.proofs.Tests.{on_true, picked}
use Rattle.timers.specs.First.{at, passed, clocked}
use Rattle.timers.specs.Closed.{top_of, period_of, turned, fallen}
use Rattle.timers.specs.declared.T1.{T1}
use Rattle.timers.proofs.Firsts.{ran_short, under, ran_past}

-- r clocks after a passing of zero, the next one not yet reached: the mark, and the counter
abbrev pub Since : ℕ → ℕ → T1 → Type 0
Since latch r u = (u.mark ≡ eqb r 0) × (u.counter ≡ (if eqb r 0 then 65535 else latch + 1 - r))

since : (t : T1) → t.mark ≡ true → t.counter ≡ 65535 → (r : ℕ) → r ≤ t.latch + 1 → Since t.latch r (fallen (t.latch + 1 - r) t)
since t m c r h = rw (on_true t.mark (t.latch + 1) t.counter m) (go (ℕ_discrete r 0))
  where
    go : Dec (r ≡ 0) → Since t.latch r (if eqb (t.latch + 1 - r) (t.latch + 1) then t else at (t.latch + 1 - r) t)
    go (yes e) = rw (eq-eqb (t.latch + 1 - r) (t.latch + 1) (omega arith), eq-eqb r 0 e) (m, c)
    go (no e) = rw (ne_eqb (t.latch + 1 - r) (t.latch + 1) (omega arith), ne_eqb r 0 e) (refl, refl)

-- n clocks after a passing of zero, the last passing is n % (latch + 2) clocks back
pub rounds : (t : T1) → t.mark ≡ true → t.counter ≡ 65535 → (n : ℕ) → Since t.latch (n % period_of t) (after n clocked t)
rounds t m c n = go (dec_lt (t.latch + 1) n)
  where
    top : top_of t ≡ t.latch + 1
    top = on_true t.mark (t.latch + 1) t.counter m

    low : period_of t - 1 ≡ t.latch + 1
    low = omega arith

    rest : n % period_of t ≤ t.latch + 1
    rest = omega (arith, under n (period_of t) (omega arith))

    go : Dec (t.latch + 1 < n) → Since t.latch (n % period_of t) (after n clocked t)
    go (no h) =
        let few : n < period_of t = omega arith in
        let e : n ≡ n % period_of t = sym (mod-eq_of_lt few) in
        rw (ran_short t n (omega (arith, top)) ∙ (λ i. fallen (top i - e i) t)) (since t m c (n % period_of t) rest)
    go (yes h) =
        let all : period_of t ≤ n = omega arith in
        let past : n - top_of t - 1 ≡ n - period_of t = omega (arith, top) in
        let e : (n - top_of t - 1) % period_of t ≡ n % period_of t = ap (λ (x : ℕ). x % period_of t) past ∙ sym (mod-eq-sub-mod all) in
        rw (ran_past t n (omega (arith, top)) ∙ (λ i. fallen (low i - e i) (turned ((n - top_of t - 1) / period_of t) t)))
        (since (turned ((n - top_of t - 1) / period_of t) t) refl refl (n % period_of t) rest)

-- no clock arms a disarmed one-shot, sets or clears its flag, or changes its level
pub record Idle (t u : T1) : Type 0 where
  pub one_shot_lem : u.free ≡ false
  pub disarmed : u.armed ≡ false
  pub flag : u.flag ≡ t.flag
  pub level : u.level ≡ t.level

pub idle : (t : T1) → t.free ≡ false → t.armed ≡ false → (n : ℕ) → Idle t (after n clocked t)
unfolding clocked
idle t f a n = after_keeps (Idle t) clocked step n t (record { one_shot_lem = f; disarmed = a; flag = refl; level = refl })
  where
    kept : (u : T1) (k : ℕ) → Idle t u → Idle t (at k u)
    kept u k h = record { one_shot_lem = h.one_shot_lem; disarmed = h.disarmed; flag = h.flag; level = h.level }

    passing : (u : T1) → Idle t u → Idle t (passed u)
    passing u h = rw (h.one_shot_lem, h.disarmed) (record { one_shot_lem = refl; disarmed = refl; flag = h.flag; level = h.level })

    step : (u : T1) → Idle t u → Idle t (clocked u)
    step u h =
        picked (Idle t) u.mark (kept u u.latch h)
        (picked (Idle t) (eqb u.counter 0) (passing u h) (kept u (u.counter - 1) h))
