-- What calls keep of a record: that it is well formed, and the ranges that the types of its timers give.
use Rattle.std.specs.Prelude.{if◌then◌else◌, Option, None, Some}
use mathlib.Core.Path.{◌≡◌, refl}
use mathlib.Core.Bool.{Bool, true, false, not, ◌&&◌, ◌||◌, false≢true}
use Prim.Native.Nat.{ℕ, ◌+◌, ◌*◌, ◌/◌, ◌%◌, ◌<◌, ◌≤◌}
use native.Mathlib.Omega.{arith}
use lib.Dec.{eqb, ltb, lit<}
use borrow.Author.Tests.{ltb-false}
use Rattle.clocks.proofs.Clocks.{after_keeps}
use Rattle.clocks.proofs.Bits.{with_lt}
use Rattle.clocks.proofs.Tests.{neither, picked}
use Rattle.calls.specs.Calls.{Typed22}
use Rattle.calls.specs.declared.Refusal.{Refusal}
use Rattle.calls.specs.declared.Refusal.TheVariants.{NoRegister, LeftOut, NoLevel}
use Rattle.calls.specs.declared.Call22.{Call22}
use Rattle.calls.specs.declared.Call22.TheVariants.{Reset, Write, Read, Pins, Run, Forecast}
use Rattle.flags.specs.Flags.{allowed_pcr, write_clears}
use Rattle.flags.proofs.Demands.{raised_seven, cleared_seven, enabled_seven}
use Rattle.timers.proofs.Firsts.{marked_top}
use Rattle.timers.proofs.Seconds.{pulsed_range}
use Rattle.timers.proofs.Pairs as Pairs
use Rattle.shifter.proofs.Runs.{clocked_few, pulsed_few, accessed_few}
use Rattle.via6522.specs.Record.{allowed_acr, reset_of}
use Rattle.via6522.specs.Flags.{cleared}
use Rattle.via6522.specs.Access.{restarted, read_of, write_asks, stored, write_of}
use Rattle.via6522.specs.Pins.{pins_asks, pulsed, shift_pulsed, settled, pins_of}
use Rattle.via6522.specs.Clock.{timers_of, with_timers, shifter_of, with_shifter, level_cb2, clock_of}
use Rattle.via6522.specs.Chip.{asks_of, leaves_of}
use Rattle.via6522.specs.declared.Serial.{Serial}
use Rattle.via6522.specs.declared.Via.{Via}
use Rattle.via6522.proofs.Formed.{Formed}

-- ---- well formed

-- what is not refused of a write is allowed
passes : (b : Bool) (r : Refusal) (k : Option Refusal) → (if b then Some r else k) ≡ None → (b ≡ false) × (k ≡ None)
passes b r k e = grind arith

allowed_write :
    (r x k : ℕ) (ok : ℕ → Bool) (old : ℕ) → (eqb r k && not (ok x)) ≡ false → ok old ≡ true → ok (if eqb r k then x else old) ≡ true
allowed_write r x k ok old e h = grind arith

restarted_few : (v : Via) → v.sr.left ≤ 8 → (restarted v).left ≤ 8
unfolding restarted shifter_of
restarted_few v h = accessed_few (shifter_of v) h

write_formed : (r x : ℕ) (v : Via) → write_asks r x ≡ None → Formed v → Formed (write_of r x v)
unfolding write_asks write_of stored
write_formed r x v e h =
    let register = passes (ltb 15 r) NoRegister _ e in
    let form = neither (eqb r 11 && not (allowed_acr x)) (eqb r 12 && not (allowed_pcr x)) (passes _ LeftOut None register.1).0 in
    record {
      flags = cleared_seven _ v.ifr h.flags;
      enables = picked (λ (y : ℕ). y < 128) (eqb r 14) (enabled_seven x v.ier h.enables) h.enables;
      modes = allowed_write r x 11 allowed_acr v.acr form.0 h.modes;
      codes = allowed_write r x 12 allowed_pcr v.pcr form.1 h.codes;
      top = top (eqb r 5);
      levels = h.levels;
      few = few;
    }
  where
    top : (b : Bool) → (if b then false else v.t1.mark) ≡ true → (if b then x * 256 + v.t1.latch % 256 else v.t1.counter) ≡ 65535
    top true q = absurd (false≢true q)
    top false q = h.top q

    few : (stored r x (cleared (write_clears r x v.pcr) v)).sr.left ≤ 8
    few =
        picked (λ (n : ℕ). n ≤ 8) (eqb r 10) (restarted_few (cleared (write_clears r x v.pcr) v) h.few)
        (picked (λ (n : ℕ). n ≤ 8) (eqb r 11) (omega (arith, h.few)) h.few)

pins_formed : (pa pb control : ℕ) (v : Via) → pins_asks control ≡ None → Formed v → Formed (pins_of pa pb control v)
unfolding pins_asks pins_of settled with_shifter shift_pulsed shifter_of
pins_formed pa pb control v e h =
    let l = ltb-false 15 control (passes (ltb 15 control) NoLevel None e).0 in
    record {
      flags =
          raised_seven _ _ _ _
          (with_lt 7 2 (shift_pulsed control v).flag _ (lit< tt) (with_lt 7 5 (pulsed pb v).flag v.ifr (lit< tt) h.flags));
      enables = h.enables;
      modes = h.modes;
      codes = h.codes;
      top = h.top;
      levels = omega arith;
      few = pulsed_few _ _ (shifter_of v) h.few;
    }

pub clock_formed : (v : Via) → Formed v → Formed (clock_of v)
unfolding clock_of with_timers with_shifter shifter_of
clock_formed v h =
    record {
      flags = with_lt 7 6 _ _ (lit< tt) (with_lt 7 5 _ _ (lit< tt) (with_lt 7 2 _ v.ifr (lit< tt) h.flags));
      enables = h.enables;
      modes = h.modes;
      codes = h.codes;
      top = marked_top (timers_of v).t1;
      levels = h.levels;
      few = clocked_few (level_cb2 v) (shifter_of v) h.few;
    }

pub leaves_formed : (c : Call22) (v : Via) → asks_of c v ≡ None → Formed v → Formed (leaves_of c v)
unfolding reset_of read_of
leaves_formed Reset v e h =
    record {
      flags = lit< tt;
      enables = lit< tt;
      modes = refl;
      codes = refl;
      top = λ q. absurd (false≢true q);
      levels = h.levels;
      few = omega (arith, h.few);
    }
leaves_formed (Write r x) v e h = write_formed r x v e h
leaves_formed (Read r) v e h =
    record {
      flags = cleared_seven _ v.ifr h.flags;
      enables = h.enables;
      modes = h.modes;
      codes = h.codes;
      top = h.top;
      levels = h.levels;
      few = picked (λ (s : Serial). s.left ≤ 8) (eqb r 10) (restarted_few v h.few) h.few;
    }
leaves_formed (Pins pa pb control) v e h = pins_formed pa pb control v e h
leaves_formed (Run n) v e h = after_keeps Formed clock_of clock_formed n v h
leaves_formed Forecast v e h = h

-- ---- the ranges of the timers
abbrev pub Ranged : Via → Type 0
Ranged v = Pairs.Ranged v.t1.latch v.t1.counter v.t2.low v.t2.counter

clock_ranged : (v : Via) → Ranged v → Ranged (clock_of v)
unfolding clock_of with_timers with_shifter timers_of
clock_ranged v h = Pairs.clock_ranged (timers_of v) h

write_ranged : (r x : ℕ) (v : Via) → x < 256 → Ranged v → Ranged (write_of r x v)
unfolding write_of stored
write_ranged r x v l h =
    let a = h.latch in
    let b = h.low in
    let high : x * 256 + v.t1.latch % 256 < 65536 = omega arith in
    let low : v.t1.latch / 256 * 256 + x < 65536 = omega arith in
    let load : x * 256 + v.t2.low < 65536 = omega arith in
    record {
      latch = picked (λ (y : ℕ). y < 65536) (eqb r 4 || eqb r 6) low (picked (λ (y : ℕ). y < 65536) (eqb r 5 || eqb r 7) high a);
      counter = picked (λ (y : ℕ). y < 65536) (eqb r 5) high h.counter;
      low = picked (λ (y : ℕ). y < 256) (eqb r 8) l b;
      counter2 = picked (λ (y : ℕ). y < 65536) (eqb r 9) load h.counter2;
    }

pub leaves_ranged : (c : Call22) (v : Via) → Typed22 c → Ranged v → Ranged (leaves_of c v)
unfolding reset_of read_of pins_of settled with_shifter pulsed timers_of
leaves_ranged Reset v t h = h
leaves_ranged (Write r x) v t h = write_ranged r x v t.1 h
leaves_ranged (Read r) v t h = h
leaves_ranged (Pins pa pb control) v t h =
    record {
      latch = h.latch;
      counter = h.counter;
      low = h.low;
      counter2 = pulsed_range (timers_of v).t2 h.counter2 _;
    }
leaves_ranged (Run n) v t h = after_keeps Ranged clock_of clock_ranged n v h
leaves_ranged Forecast v t h = h
