-- The timer pair of the chip, its shift register, and one clock.
use Rattle.std.specs.Prelude.{Bool}
use Rattle.clocks.specs.Bits.{bit, with_bit}
use Rattle.timers.specs.Pair as Pair
use Rattle.timers.specs.declared.T1.{T1}
use Rattle.timers.specs.declared.T2.{T2}
use Rattle.timers.specs.declared.Timers.{Timers}
use Rattle.shifter.specs.Shifter as Shift
use Rattle.shifter.specs.declared.Shifter.{Shifter}
use Rattle.via6522.specs.Record.{mode_of}
use Rattle.via6522.specs.Flags.{with_ifr, with_sr}
use Rattle.via6522.specs.declared.Count1.{Count1}
use Rattle.via6522.specs.declared.Count2.{Count2}
use Rattle.via6522.specs.declared.Serial.{Serial}
use Rattle.via6522.specs.declared.Via.{Via}

-- the pair is gathered from where the chip has it: the flags are bits 6 and 5 of IFR, the modes the same bits of ACR
unfoldable pub timers_of : Via → Timers
timers_of v =
    record {
      t1 =
          record {
            counter = v.t1.counter;
            latch = v.t1.latch;
            armed = v.t1.armed;
            mark = v.t1.mark;
            level = v.t1.level;
            flag = bit 6 v.ifr;
            free = bit 6 v.acr;
          };
      t2 =
          record {
            counter = v.t2.counter;
            low = v.t2.low;
            armed = v.t2.armed;
            flag = bit 5 v.ifr;
            pulse = bit 5 v.acr;
          };
    }

-- what the record has of each timer; flag and mode are in IFR and ACR
abbrev pub count1_of : T1 → Count1
count1_of t = record { counter = t.counter; latch = t.latch; armed = t.armed; mark = t.mark; level = t.level }

abbrev pub count2_of : T2 → Count2
count2_of t = record { counter = t.counter; low = t.low; armed = t.armed }

-- the chip with another pair; the modes are ACR's and stay
unfoldable pub with_timers : Timers → Via → Via
with_timers p v =
    record {
      a = v.a;
      kept_a = v.kept_a;
      b = v.b;
      kept_b = v.kept_b;
      t1 = count1_of p.t1;
      t2 = count2_of p.t2;
      sr = v.sr;
      acr = v.acr;
      pcr = v.pcr;
      ifr = with_bit 6 p.t1.flag (with_bit 5 p.t2.flag v.ifr);
      ier = v.ier;
      control = v.control;
    }

-- the shift register is gathered likewise: its flag is bit 2 of IFR, its mode bits 4 to 2 of ACR
unfoldable pub shifter_of : Via → Shifter
shifter_of v =
    record {
      byte = v.sr.byte;
      left = v.sr.left;
      half = v.sr.half;
      output = v.sr.output;
      flag = bit 2 v.ifr;
      mode = mode_of v.acr;
    }

-- what the record has of it; flag and mode are in IFR and ACR
abbrev pub serial_of : Shifter → Serial
serial_of s = record { byte = s.byte; left = s.left; half = s.half; output = s.output }

-- the chip with another shift register; the mode is ACR's and stays
unfoldable pub with_shifter : Shifter → Via → Via
with_shifter s v = with_ifr (with_bit 2 s.flag v.ifr) (with_sr (serial_of s) v)

-- the level outside that an input shift takes
abbrev pub level_cb2 : Via → Bool
level_cb2 v = bit 3 v.control

-- a clock moves the pair and the shift register, side by side, and nothing else
unfoldable pub clock_of : Via → Via
clock_of v = with_timers (Pair.clocked (timers_of v)) (with_shifter (Shift.clocked (level_cb2 v) (shifter_of v)) v)
