-- The 6522 as a chip: what each call asks, gives and leaves, and what an answer shows.
use Rattle.std.specs.Prelude.{◌≡◌, true, false, ℕ, Option, None, Some}
use Rattle.clocks.specs.Clocks.{after}
use Rattle.clocks.specs.Bits.{bit}
use Rattle.ports.specs.Ports.{lines_of}
use Rattle.calls.specs.Calls.{Typed22}
use Rattle.calls.specs.declared.Refusal.{Refusal}
use Rattle.calls.specs.declared.Call22.{Call22}
use Rattle.calls.specs.declared.Call22.TheVariants.{Reset, Write, Read, Pins, Run, Forecast}
use Rattle.chips.specs.Chips.{Chip, Clocked, Lined, answer, cleared_by}
use Rattle.via6522.specs.Record.{well_formed, power_up, reset_of}
use Rattle.via6522.specs.Flags.{irq_of}
use Rattle.via6522.specs.Ports.{lines_b}
use Rattle.via6522.specs.Access.{read_asks, data_of, read_of, write_asks, write_of}
use Rattle.via6522.specs.Pins.{pins_asks, pins_of}
use Rattle.via6522.specs.Clock.{clock_of}
use Rattle.via6522.specs.declared.Via.{Via}
use Rattle.via6522.specs.declared.Answer.{Answer}
use Rattle.chips.specs.declared.Reading.{Reading}

-- what a call's operands are refused for
abbrev pub asks_of : Call22 → Via → Option Refusal
asks_of Reset v = None
asks_of (Write r x) v = write_asks r x
asks_of (Read r) v = read_asks r
asks_of (Pins pa pb control) v = pins_asks control
asks_of (Run n) v = None
asks_of Forecast v = None

-- the byte that a call reads
abbrev pub gives_of : Call22 → Via → ℕ
gives_of Reset v = 0
gives_of (Write r x) v = 0
gives_of (Read r) v = data_of r v
gives_of (Pins pa pb control) v = 0
gives_of (Run n) v = 0
gives_of Forecast v = 0

-- the record that it leaves
abbrev pub leaves_of : Call22 → Via → Via
leaves_of Reset v = reset_of v
leaves_of (Write r x) v = write_of r x v
leaves_of (Read r) v = read_of r v
leaves_of (Pins pa pb control) v = pins_of pa pb control v
leaves_of (Run n) v = after n clock_of v
leaves_of Forecast v = v

-- what an accepted call shows: the byte that it read, and the lines of the record that it leaves
abbrev pub accepted : ℕ → Via → Answer
accepted d v =
    record {
      refusal = None;
      «data» = d;
      irq = irq_of v;
      pa = lines_of v.a;
      pb = lines_b v.b.outside v;
      via = v;
    }

-- a refused call shows its refusal and nothing else, and hands the record back
abbrev pub refused : Refusal → Via → Answer
refused r v = record { refusal = Some r; «data» = 0; irq = false; pa = 0; pb = 0; via = v }

abbrev pub chip : Chip
chip =
    record {
      State = Via;
      Answer = Answer;
      Call = Call22;
      Typed = Typed22;
      power_up = power_up;
      well = well_formed;
      asks = asks_of;
      gives = gives_of;
      leaves = leaves_of;
      accepted = accepted;
      refused = refused;
      refusal = λ r. r.refusal;
      left = λ r. r.via;
    }

-- a run may be as long as 32 bits say
abbrev pub clocked : Clocked chip
clocked = record { rule = clock_of; run = Run; longest = 4294967295 }

-- an enabled flag is set
abbrev pub Raised : Via → Type 0
Raised v = (k : ℕ) × (bit k v.ifr ≡ true) × (bit k v.ier ≡ true)

-- a reload to come, from a full latch: one clock for the reload, 65,535 down to 0, and one that passes it
abbrev pub largest_forecast : ℕ
largest_forecast = 65537

abbrev pub lined : Lined chip
lined = record { irq = irq_of; Raised = Raised; asserted = λ r. r.irq; forecast = Forecast; largest = largest_forecast }

-- the flags are those of IFR, in its bits
abbrev pub flags : Via → ℕ
flags v = v.ifr

-- a read: the mask of the flags that it cleared, and the answer to the call
unfoldable pub reading_of : ℕ → Via → Reading Answer
reading_of r v = record { cleared = cleared_by chip flags (Read r) v; answer = answer chip (Read r) v }
