-- The two timers of a pair run side by side, and keep their ranges.
use Rattle.std.proofs.Common.{◌≡◌, ℕ, zero, suc, ◌<◌, refl, ap}
use Rattle.clocks.specs.Clocks.{after}
use Rattle.timers.specs.First as First
use Rattle.timers.specs.Second as Second
use Rattle.timers.specs.Pair.{clocked}
use Rattle.timers.specs.declared.Timers.{Timers}
use Rattle.timers.proofs.Firsts as Firsts
use Rattle.timers.proofs.Seconds as Seconds

pub each :
    (n : ℕ) (p : Timers)
    → after n clocked p ≡ record { t1 = after n First.clocked p.t1; t2 = after n Second.clocked p.t2 }
unfolding after
each zero p = refl
each (suc n) p = ap clocked (each n p)

-- T1's latch and counter, T2's low latch and counter, in the ranges of their types
pub record Ranged (latch₁ counter₁ low₂ counter₂ : ℕ) : Type 0 where
  pub latch : latch₁ < 65536
  pub counter : counter₁ < 65536
  pub low : low₂ < 256
  pub counter2 : counter₂ < 65536

abbrev pub RangedPair : Timers → Type 0
RangedPair p = Ranged p.t1.latch p.t1.counter p.t2.low p.t2.counter

pub clock_ranged : (p : Timers) → RangedPair p → RangedPair (clocked p)
clock_ranged p h =
    let f = Firsts.clock_range p.t1 h.latch h.counter in
    record {
      latch = f.0;
      counter = f.1;
      low = rw (Seconds.keeps_low p.t2) h.low;
      counter2 = Seconds.clock_range p.t2 h.counter2;
    }
