-- What the 6522 shows of its interrupt line: what it means, when it is asserted, and how far ahead that can be.
use Rattle.std.specs.Prelude.{if◌then◌else◌}
use mathlib.Core.Path.{◌≡◌, refl, sym, ◌∙◌}
use mathlib.Core.Bool.{true, false≢true}
use mathlib.Core.Logic.{◌↔◌}
use Prim.Native.Nat.{ℕ, zero-le, ◌<◌, ◌≤◌}
use native.Mathlib.Decide.{dec_lt}
use native.Mathlib.Omega.{arith}
use lib.Dec.{lit<, lit≤}
use Rattle.clocks.specs.Clocks.{after}
use Rattle.clocks.specs.Bits.{bit, with_bit, with_set, with_clear, shares}
use Rattle.clocks.specs.Forecasts.{comes, sooner_of}
use Rattle.clocks.specs.declared.Forecast.{Forecast}
use Rattle.clocks.specs.declared.Forecast.TheVariants.{Never, In}
use Rattle.clocks.proofs.Forecasts.{AtMost, most_sooner, most_gated}
use Rattle.clocks.proofs.Bits.{bit_high, shares_found, shares_by}
use Rattle.calls.specs.Calls.{Typed22}
use Rattle.calls.specs.declared.Call22.{Call22}
use Rattle.calls.specs.declared.Call22.TheVariants.{Write, Run}
use Rattle.chips.specs.Chips.{answer, next, line, Reached, at_power_up, by, Foretold}
use Rattle.chips.proofs.Chips as Chips
use Rattle.flags.specs.Flags as Flags
use Rattle.timers.specs.First as First
use Rattle.timers.specs.Second as Second
use Rattle.timers.proofs.Firsts as Firsts
use Rattle.timers.proofs.Seconds as Seconds
use Rattle.shifter.specs.Shifter as Shift
use Rattle.shifter.specs.Closed.{due_of}
use Rattle.shifter.proofs.Runs as Shifts
use Rattle.via6522.specs.Record.{well_formed}
use Rattle.via6522.specs.Flags.{irq_of}
use Rattle.via6522.specs.Access as Access
use Rattle.via6522.specs.Clock.{timers_of, with_timers, shifter_of, with_shifter, clock_of}
use Rattle.via6522.specs.Closed.{steady, soonest}
use Rattle.via6522.specs.Chip.{chip, clocked, Raised, largest_forecast, lined}
use Rattle.via6522.specs.declared.Via.{Via}
use Rattle.via6522.specs.declared.Answer.{Answer}
use Rattle.via6522.proofs.Formed.{formed}
use Rattle.via6522.proofs.Keeps.{Ranged, leaves_ranged}
use Rattle.via6522.proofs.Lines.{line_after}
use Rattle.via6522.proofs.Lawful.{lawful, ticks}

-- the line of a record whose flags are seven bits
raised : (v : Via) → v.ifr < 128 → (irq_of v ≡ true) ↔ Raised v
raised v h = (λ e. let f = shares_found 8 v.ifr v.ier e in (f.0, f.2, f.3), λ f. back f)
  where
    small : (k : ℕ) → bit k v.ifr ≡ true → k < 8
    small k e = go (dec_lt k 8)
      where
        go : Dec (k < 8) → k < 8
        go (yes l) = l
        go (no l) = absurd (false≢true (sym (bit_high 7 k v.ifr h (omega arith)) ∙ e))

    back : Raised v → irq_of v ≡ true
    back f = shares_by 8 v.ifr v.ier f.0 (small f.0 f.1) f.1 f.2

-- when the flags of T1, T2 and the shift register are set, and when the line is asserted
abbrev pub due1 : Via → Forecast
due1 v = Firsts.due_of (timers_of v).t1

abbrev pub due2 : Via → Forecast
due2 v = Seconds.due_of (timers_of v).t2

abbrev pub due3 : Via → Forecast
due3 v = due_of (shifter_of v)

abbrev pub ahead : Via → Forecast
ahead v = soonest v (due1 v) (due2 v) (due3 v)

pub tells : (v : Via) (k : ℕ) → line chip clocked lined k v ≡ comes (ahead v) k
tells v =
    line_after v (due1 v) (due2 v) (due3 v)
    (Firsts.flag_due (timers_of v).t1) (Seconds.flag_due (timers_of v).t2) (Shifts.flag_due (shifter_of v))

-- no record in its ranges has the line asserted later than the largest forecast
ahead_most : (v : Via) → Ranged v → v.sr.left ≤ 8 → AtMost largest_forecast (ahead v)
unfolding soonest timers_of shifter_of
ahead_most v h few =
    let n = largest_forecast in
    let first = if bit 6 v.ier then due1 v else Never in
    let second = if bit 5 v.ier then due2 v else Never in
    let third = if bit 2 v.ier then due3 v else Never in
    let now = if steady v then In 0 else Never in
    most_sooner n first (sooner_of second (sooner_of third now))
    (most_gated n (bit 6 v.ier) (due1 v) (Firsts.due_most (timers_of v).t1 h.latch h.counter n (lit≤ tt)))
    (most_sooner n second (sooner_of third now)
    (most_gated n (bit 5 v.ier) (due2 v) (Seconds.due_most (timers_of v).t2 h.counter2 n (lit≤ tt)))
    (most_sooner n third now
    (most_gated n (bit 2 v.ier) (due3 v) (Shifts.due_most (shifter_of v) few n (lit≤ tt)))
    (most_gated n (steady v) (In 0) zero-le)))

call : {v : Via} (c : Call22) → Typed22 c → Reached chip v → Reached chip (next chip c v)
call = by

-- and one has it just then: T1 in free-run, its flag alone enabled, passes zero with its first clock; then its latch is filled, which
-- clears the flag
farthest : (v : Via) × Reached chip v × (ahead v ≡ In largest_forecast)
unfolding
    answer after bit with_bit with_set with_clear shares steady soonest timers_of with_timers shifter_of with_shifter clock_of Shift.clocked First.clocked Second.clocked Second.counted
    Flags.access_clears Flags.write_clears Flags.enabled Access.write_asks Access.stored Access.write_of
farthest =
    let free = call (Write 14 192) (lit< tt, lit< tt) (call (Write 11 64) (lit< tt, lit< tt) at_power_up) in
    let loaded = call (Write 5 0) (lit< tt, lit< tt) (call (Write 4 0) (lit< tt, lit< tt) free) in
    let passed = call (Run 1) (lit< tt) loaded in
    let filled = call (Write 7 255) (lit< tt, lit< tt) (call (Write 6 255) (lit< tt, lit< tt) passed) in
    (_, filled, refl)

pub watched : Chips.Watched chip clocked lined
watched =
    record {
      shows = λ d v. refl;
      exact = λ v w. raised v (formed v w).flags;
      leaves = λ v. refl;
      ahead = ahead;
      tells = λ v w. tells v;
      Kept = Ranged;
      kept_first = record { latch = lit< tt; counter = lit< tt; low = lit< tt; counter2 = lit< tt };
      kept_next = λ c v t e w. leaves_ranged c v t;
      most = λ v w h. ahead_most v h (formed v w).few;
      farthest = farthest;
    }

-- for who has a record in its ranges, reached or not
pub forecast_most :
    (v : Via) (f : Forecast) (r : Answer) → Ranged v → well_formed v ≡ true → Foretold chip clocked lined v f r → AtMost largest_forecast f
unfolding watched
forecast_most v f r h w t = rw (Chips.foretold_is chip lawful clocked ticks lined watched v f r w t) (ahead_most v h (formed v w).few)

pub reached_ranged : (v : Via) → Reached chip v → Ranged v
unfolding watched
reached_ranged = Chips.reached_kept chip lawful clocked ticks lined watched
