-- The 6525 as a chip: what each call asks for, gives and leaves, and what an answer shows.
use Rattle.std.specs.Prelude.{false, ℕ, Option, None, Some}
use Rattle.calls.specs.Calls.{Typed25}
use Rattle.calls.specs.declared.Call25.{Call25}
use Rattle.calls.specs.declared.Call25.TheVariants.{Reset, Write, Read, Pins, Run}
use Rattle.calls.specs.declared.Refusal.{Refusal}
use Rattle.chips.specs.Chips.{Chip, Clocked}
use Rattle.ports.specs.Ports.{lines_of}
use Rattle.tpi6525.specs.Record.{well_formed, power_up, reset_of}
use Rattle.tpi6525.specs.Signals.{irq_of, lines_c}
use Rattle.tpi6525.specs.Access.{register_asks, data_of, read_of, write_of}
use Rattle.tpi6525.specs.Pins.{pins_of}
use Rattle.tpi6525.specs.declared.Tpi.{Tpi}
use Rattle.tpi6525.specs.declared.Answer.{Answer}

-- what the operands of a call are refused for
abbrev pub asks_of : Call25 → Tpi → Option Refusal
asks_of Reset v = None
asks_of (Write r x) v = register_asks r
asks_of (Read r) v = register_asks r
asks_of (Pins pa pb pc) v = None
asks_of (Run n) v = None

-- the byte that a call reads, and the record that it leaves; a run, of however many clocks, changes nothing
abbrev pub gives_of : Call25 → Tpi → ℕ
gives_of Reset v = 0
gives_of (Write r x) v = 0
gives_of (Read r) v = data_of r v
gives_of (Pins pa pb pc) v = 0
gives_of (Run n) v = 0

abbrev pub leaves_of : Call25 → Tpi → Tpi
leaves_of Reset v = reset_of v
leaves_of (Write r x) v = write_of r x v
leaves_of (Read r) v = read_of r v
leaves_of (Pins pa pb pc) v = pins_of pa pb pc v
leaves_of (Run n) v = v

-- an accepted call: the byte that it read, and the lines of the record as it leaves it
abbrev pub accepted : ℕ → Tpi → Answer
accepted d v =
    record {
      refusal = None;
      «data» = d;
      irq = irq_of v;
      pa = lines_of v.a;
      pb = lines_of v.b;
      pc = lines_c v;
      tpi = v;
    }

-- a refused call shows its refusal and nothing else, and hands the record back
abbrev pub refused : Refusal → Tpi → Answer
refused r v = record { refusal = Some r; «data» = 0; irq = false; pa = 0; pb = 0; pc = 0; tpi = v }

abbrev pub chip : Chip
chip =
    record {
      State = Tpi;
      Answer = Answer;
      Call = Call25;
      Typed = Typed25;
      power_up = power_up;
      well = well_formed;
      asks = asks_of;
      gives = gives_of;
      leaves = leaves_of;
      accepted = accepted;
      refused = refused;
      refusal = λ r. r.refusal;
      left = λ r. r.tpi;
    }

-- one clock leaves every record as it is; a run may be as long as its 32 bits can say
abbrev pub clocked : Clocked chip
clocked = record { rule = λ v. v; run = Run; longest = 4294967295 }
