-- New levels outside: pulses on PB6 and on CB1, edges on the control lines, and kept port lines. Every edge is from the levels before the call.
use Rattle.std.specs.Prelude.{true, false, ℕ, ltb, if◌then◌else◌, Option, None, Some}
use Rattle.clocks.specs.Bits.{bit, with_bit}
use Rattle.ports.specs.Ports.{edge, lines_for, under}
use Rattle.calls.specs.declared.Refusal.{Refusal}
use Rattle.calls.specs.declared.Refusal.TheVariants.{NoLevel}
use Rattle.flags.specs.Flags.{raised, keeps}
use Rattle.flags.specs.declared.Side.TheVariants.{A, B}
use Rattle.timers.specs.Second as Second
use Rattle.timers.specs.declared.T2.{T2}
use Rattle.shifter.specs.Shifter as Shift
use Rattle.shifter.specs.declared.Shifter.{Shifter}
use Rattle.via6522.specs.Ports.{lines_b}
use Rattle.via6522.specs.Clock.{timers_of, shifter_of, with_shifter}
use Rattle.via6522.specs.declared.Via.{Via}

-- more control levels than there are lines are refused
unfoldable pub pins_asks : ℕ → Option Refusal
pins_asks control = if ltb 15 control then Some NoLevel else None

-- T2 after a fall of PB6 outside, whatever the port does with that line
unfoldable pub pulsed : ℕ → Via → T2
pulsed pb v = Second.pulsed (edge false (bit 6 v.b.outside) (bit 6 pb)) (timers_of v).t2

-- the shift register after a rise of CB1 outside, with CB2 as this call leaves it; what PCR says of either does not matter
unfoldable pub shift_pulsed : ℕ → Via → Shifter
shift_pulsed control v = Shift.pulsed (edge true (bit 2 v.control) (bit 2 control)) (bit 3 control) (shifter_of v)

-- the record with T2 as a pulse left it
abbrev pub with_pulse : T2 → Via → Via
with_pulse t v =
    record {
      a = v.a;
      kept_a = v.kept_a;
      b = v.b;
      kept_b = v.kept_b;
      t1 = v.t1;
      t2 = record { counter = t.counter; low = v.t2.low; armed = t.armed };
      sr = v.sr;
      acr = v.acr;
      pcr = v.pcr;
      ifr = with_bit 5 t.flag v.ifr;
      ier = v.ier;
      control = v.control;
    }

-- a port's lines, as the new levels make them, are kept when the flag of CA1 or CB1 goes from 0 to 1
unfoldable pub settled : ℕ → ℕ → ℕ → Via → Via
settled pa pb control v =
    record {
      a = under pa v.a;
      kept_a = if keeps A v.pcr v.control control v.ifr then lines_for pa v.a else v.kept_a;
      b = under pb v.b;
      kept_b = if keeps B v.pcr v.control control v.ifr then lines_b pb v else v.kept_b;
      t1 = v.t1;
      t2 = v.t2;
      sr = v.sr;
      acr = v.acr;
      pcr = v.pcr;
      ifr = raised v.pcr v.control control v.ifr;
      ier = v.ier;
      control = control;
    }

unfoldable pub pins_of : ℕ → ℕ → ℕ → Via → Via
pins_of pa pb control v = settled pa pb control (with_shifter (shift_pulsed control v) (with_pulse (pulsed pb v) v))
