-- The eight registers: what is refused, what a read gives and leaves, and what a write leaves.
use Rattle.std.specs.Prelude.{Bool, not, ◌&&◌, ℕ, eqb, ltb, if◌then◌else◌, Option, None, Some}
use Rattle.calls.specs.declared.Refusal.{Refusal}
use Rattle.calls.specs.declared.Refusal.TheVariants.{NoRegister}
use Rattle.inputs.specs.Inputs.{interrupts, taken, ended, kept}
use Rattle.inputs.specs.declared.Inputs.{Inputs}
use Rattle.ports.specs.Ports.{lines_of}
use Rattle.tpi6525.specs.Record.{with_inputs}
use Rattle.tpi6525.specs.Signals.{air_of, lines_c}
use Rattle.tpi6525.specs.declared.Tpi.{Tpi}

-- there is no register above 7
abbrev pub register_asks : ℕ → Option Refusal
register_asks r = if ltb 7 r then Some NoRegister else None

-- ---- reads

-- the ports are read off their lines, directions and CR as they were written, and register 7 shows the active interrupts
unfoldable pub data_of : ℕ → Tpi → ℕ
data_of r v =
    if eqb r 0 then lines_of v.a else
    (if eqb r 1 then lines_of v.b else
    (if eqb r 2 then lines_c v else
    (if eqb r 3 then v.a.ddr else
    (if eqb r 4 then v.b.ddr else
    (if eqb r 5 then v.c.ddr else
    (if eqb r 6 then v.cr else
    air_of v))))))

-- a read of register 7 takes what it shows, and no other read has an effect
abbrev pub takes : ℕ → Bool
takes r = eqb r 7

unfoldable pub read_of : ℕ → Tpi → Tpi
read_of r v = if takes r then with_inputs (taken (air_of v) v.inputs) v else v

-- ---- writes

-- a write of register 7 ends service
abbrev pub ends : ℕ → Bool
ends r = eqb r 7

-- and one of port C goes to the latch, in interrupt mode
unfoldable pub inputs_after : ℕ → ℕ → Tpi → Inputs
inputs_after r x v =
    if eqb r 2 then kept v.cr x v.inputs else
    (if ends r then ended v.cr v.inputs else
    v.inputs)

-- each other register keeps the byte, port C's output byte out of interrupt mode only; a write of CR or of port C's direction byte leaves the inputs
unfoldable pub write_of : ℕ → ℕ → Tpi → Tpi
write_of r x v =
    record {
      a =
          record {
            output = if eqb r 0 then x else v.a.output;
            outside = v.a.outside;
            ddr = if eqb r 3 then x else v.a.ddr;
          };
      b =
          record {
            output = if eqb r 1 then x else v.b.output;
            outside = v.b.outside;
            ddr = if eqb r 4 then x else v.b.ddr;
          };
      c =
          record {
            output = if eqb r 2 && not (interrupts v.cr) then x else v.c.output;
            outside = v.c.outside;
            ddr = if eqb r 5 then x else v.c.ddr;
          };
      cr = if eqb r 6 then x else v.cr;
      inputs = inputs_after r x v;
    }
