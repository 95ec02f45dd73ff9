-- The sixteen registers: what is refused, what a read gives and leaves, and what a write stores. Flags are cleared by the rules of `flags`.
use Rattle.std.specs.Prelude.{true, false, not, ◌&&◌, ◌||◌, ℕ, ◌+◌, ◌*◌, ◌/◌, ◌%◌, eqb, ltb, if◌then◌else◌, Option, None, Some}
use Rattle.clocks.specs.Bits.{with_bit}
use Rattle.calls.specs.declared.Refusal.{Refusal}
use Rattle.calls.specs.declared.Refusal.TheVariants.{NoRegister, LeftOut}
use Rattle.flags.specs.Flags.{allowed_pcr, read_clears, write_clears, shown, enabled}
use Rattle.shifter.specs.Shifter.{accessed}
use Rattle.via6522.specs.Record.{allowed_acr}
use Rattle.via6522.specs.Flags.{with_sr, cleared}
use Rattle.via6522.specs.Ports.{shown_a, shown_b}
use Rattle.via6522.specs.Clock.{shifter_of, serial_of}
use Rattle.via6522.specs.declared.Serial.{Serial}
use Rattle.via6522.specs.declared.Via.{Via}

-- what an access leaves of the shift register
unfoldable pub restarted : Via → Serial
restarted v = serial_of (accessed (shifter_of v))

-- ---- reads

-- a register above 15 is refused
unfoldable pub read_asks : ℕ → Option Refusal
read_asks r = if ltb 15 r then Some NoRegister else None

-- the byte that a read gives; IFR shows the interrupt line in bit 7, IER a one
unfoldable pub data_of : ℕ → Via → ℕ
data_of r v =
    if eqb r 0 then shown_b v else
    (if eqb r 1 then shown_a v else
    (if eqb r 2 then v.b.ddr else
    (if eqb r 3 then v.a.ddr else
    (if eqb r 4 then v.t1.counter % 256 else
    (if eqb r 5 then v.t1.counter / 256 else
    (if eqb r 6 then v.t1.latch % 256 else
    (if eqb r 7 then v.t1.latch / 256 else
    (if eqb r 8 then v.t2.counter % 256 else
    (if eqb r 9 then v.t2.counter / 256 else
    (if eqb r 10 then v.sr.byte else
    (if eqb r 11 then v.acr else
    (if eqb r 12 then v.pcr else
    (if eqb r 13 then shown v.ifr v.ier else
    (if eqb r 14 then with_bit 7 true v.ier else
    shown_a v))))))))))))))

-- a read of SR is an access to the shift register
unfoldable pub read_of : ℕ → Via → Via
read_of r v = with_sr (if eqb r 10 then restarted v else v.sr) (cleared (read_clears r v.pcr) v)

-- ---- writes

-- a register above 15 is refused, and a mode that is left out
unfoldable pub write_asks : ℕ → ℕ → Option Refusal
write_asks r x =
    if ltb 15 r then Some NoRegister else
    (if eqb r 11 && not (allowed_acr x) || eqb r 12 && not (allowed_pcr x) then Some LeftOut else
    None)

-- T1's latch with another low or high half
abbrev pub low_half : ℕ → ℕ → ℕ
low_half x latch = latch / 256 * 256 + x

abbrev pub high_half : ℕ → ℕ → ℕ
high_half x latch = x * 256 + latch % 256

-- what a write stores. A write of T1's high counter byte loads and arms it, with its level low; one of T2's loads and arms that. A write of
-- SR is an access to the shift register besides. Any write of ACR, of the value that it had too, clears shifts to come and mark
unfoldable pub stored : ℕ → ℕ → Via → Via
stored r x v =
    record {
      a =
          record {
            output = if eqb r 1 || eqb r 15 then x else v.a.output;
            outside = v.a.outside;
            ddr = if eqb r 3 then x else v.a.ddr;
          };
      kept_a = v.kept_a;
      b =
          record {
            output = if eqb r 0 then x else v.b.output;
            outside = v.b.outside;
            ddr = if eqb r 2 then x else v.b.ddr;
          };
      kept_b = v.kept_b;
      t1 =
          record {
            counter = if eqb r 5 then high_half x v.t1.latch else v.t1.counter;
            latch =
                if eqb r 4 || eqb r 6 then low_half x v.t1.latch else
                (if eqb r 5 || eqb r 7 then high_half x v.t1.latch else
                v.t1.latch);
            armed = if eqb r 5 then true else v.t1.armed;
            mark = if eqb r 5 then false else v.t1.mark;
            level = if eqb r 5 then false else v.t1.level;
          };
      t2 =
          record {
            counter = if eqb r 9 then x * 256 + v.t2.low else v.t2.counter;
            low = if eqb r 8 then x else v.t2.low;
            armed = if eqb r 9 then true else v.t2.armed;
          };
      sr =
          record {
            byte = if eqb r 10 then x else v.sr.byte;
            left = if eqb r 10 then (restarted v).left else (if eqb r 11 then 0 else v.sr.left);
            half = if eqb r 10 then (restarted v).half else (if eqb r 11 then false else v.sr.half);
            output = v.sr.output;
          };
      acr = if eqb r 11 then x else v.acr;
      pcr = if eqb r 12 then x else v.pcr;
      ifr = v.ifr;
      ier = if eqb r 14 then enabled x v.ier else v.ier;
      control = v.control;
    }

unfoldable pub write_of : ℕ → ℕ → Via → Via
write_of r x v = stored r x (cleared (write_clears r x v.pcr) v)
