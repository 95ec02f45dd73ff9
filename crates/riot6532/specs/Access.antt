-- What an address names, what a read of it gives and leaves, and what a write to it leaves.
use Rattle.std.specs.Prelude.{false, not, ℕ, ◌%◌, eqb, get_or, set, if◌then◌else◌}
use Rattle.clocks.specs.Bits.{bit, with_bit}
use Rattle.interval.specs.Timer.{loaded, flagged}
use Rattle.ports.specs.Ports.{lines_of}
use Rattle.riot6532.specs.Record.{beside, with_timer, with_pa7}
use Rattle.riot6532.specs.declared.Io.{Io}
use Rattle.riot6532.specs.declared.Riot.{Riot}

-- ---- writes

-- k names an output or a direction byte, A's two before B's
abbrev pub port_written : ℕ → ℕ → Io → Io
port_written k x io =
    record {
      a =
          record {
            output = if eqb k 0 then x else io.a.output;
            outside = io.a.outside;
            ddr = if eqb k 1 then x else io.a.ddr;
          };
      b =
          record {
            output = if eqb k 2 then x else io.b.output;
            outside = io.b.outside;
            ddr = if eqb k 3 then x else io.b.ddr;
          };
      timer = io.timer;
      pa7 = io.pa7;
    }

-- bit 2 clear: a port or a direction; set: with bit 4 a load of the timer, by divider and enable of the address, and without it
-- the control of PA7, where the address says enable and edge, and a flag that is set is left
unfoldable pub io_written : ℕ → ℕ → Io → Io
io_written a x io =
    if not (bit 2 a) then port_written (a % 4) x io else
    (if bit 4 a then with_timer (loaded (a % 4) x (bit 3 a)) io else
    with_pa7 (record { flag = io.pa7.flag; enable = bit 1 a; rising = bit 0 a }) io)

-- address bit 7 parts the RAM from all else
unfoldable pub write_of : ℕ → ℕ → Riot → Riot
write_of a x v = if not (bit 7 a) then beside (set v.ram (a % 128) x) v.io else beside v.ram (io_written a x v.io)

-- ---- reads

-- a port is read off its lines, a direction as it was written
abbrev pub port_data : ℕ → Io → ℕ
port_data k io =
    if eqb k 0 then lines_of io.a else (if eqb k 1 then io.a.ddr else (if eqb k 2 then lines_of io.b else io.b.ddr))

-- both flags in one byte: bit 7 is the timer's, bit 6 PA7's, and the others are 0
unfoldable pub flags_of : Io → ℕ
flags_of io = with_bit 7 io.timer.flag (with_bit 6 io.pa7.flag 0)

-- bit 2 clear: a port or a direction; set: the timer where bit 0 is clear, the flags where it is set
unfoldable pub io_data : ℕ → Io → ℕ
io_data a io = if not (bit 2 a) then port_data (a % 4) io else (if not (bit 0 a) then io.timer.value else flags_of io)

-- what a read gives
unfoldable pub data_of : ℕ → Riot → ℕ
data_of a v = if not (bit 7 a) then get_or v.ram (a % 128) 0 else io_data a v.io

-- reading the timer clears its flag and sets its enable from the address; reading the flags clears PA7's; no other read has an effect
unfoldable pub io_read : ℕ → Io → Io
io_read a io =
    if not (bit 2 a) then io else
    (if not (bit 0 a) then with_timer (flagged false (bit 3 a) io.timer) io else
    with_pa7 (record { flag = false; enable = io.pa7.enable; rising = io.pa7.rising }) io)

unfoldable pub read_of : ℕ → Riot → Riot
read_of a v = if not (bit 7 a) then v else beside v.ram (io_read a v.io)
