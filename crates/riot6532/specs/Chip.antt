-- The 6532 as a chip: what it answers to each call.
use Rattle.std.specs.Prelude.{false, List, ℕ, None, Some}
use Rattle.clocks.specs.Clocks.{after}
use Rattle.calls.specs.Calls.{Typed32}
use Rattle.calls.specs.declared.Call32.{Call32}
use Rattle.calls.specs.declared.Call32.TheVariants.{Reset, Write, Read, Pins, Run, Forecast}
use Rattle.calls.specs.declared.Refusal.{Refusal}
use Rattle.chips.specs.Chips.{Chip, Clocked, Lined, answer, cleared_by}
use Rattle.ports.specs.Ports.{lines_of}
use Rattle.riot6532.specs.Record.{well_formed, beside, power_up, reset_of}
use Rattle.riot6532.specs.Flags.{irq_of, Raised}
use Rattle.riot6532.specs.Access.{flags_of, data_of, read_of, write_of}
use Rattle.riot6532.specs.Pins.{pins_of}
use Rattle.riot6532.specs.Clock.{clock_of}
use Rattle.riot6532.specs.declared.Io.{Io}
use Rattle.riot6532.specs.declared.Riot.{Riot}
use Rattle.riot6532.specs.declared.Answer.{Answer}
use Rattle.riot6532.specs.declared.IoAnswer.{IoAnswer}
use Rattle.chips.specs.declared.Reading.{Reading}

-- the byte that a call reads, and the record that it leaves
abbrev pub gives_of : Call32 → Riot → ℕ
gives_of Reset v = 0
gives_of (Write a x) v = 0
gives_of (Read a) v = data_of a v
gives_of (Pins pa pb) v = 0
gives_of (Run n) v = 0
gives_of Forecast v = 0

abbrev pub leaves_of : Call32 → Riot → Riot
leaves_of Reset v = reset_of v
leaves_of (Write a x) v = write_of a x v
leaves_of (Read a) v = read_of a v
leaves_of (Pins pa pb) v = pins_of pa pb v
leaves_of (Run n) v = after n clock_of v
leaves_of Forecast v = v

-- what an accepted call shows, but for the RAM: the byte that it read, and the lines of what it leaves
abbrev pub accepted_io : ℕ → Io → IoAnswer
accepted_io d io = record { refusal = None; «data» = d; irq = irq_of io; pa = lines_of io.a; pb = lines_of io.b; io = io }

-- a refused call shows its refusal and nothing else, and hands back what it was given
abbrev pub refused_io : Refusal → Io → IoAnswer
refused_io r io = record { refusal = Some r; «data» = 0; irq = false; pa = 0; pb = 0; io = io }

-- an answer with the RAM put to it
abbrev pub whole : List ℕ → IoAnswer → Answer
whole m r =
    record {
      refusal = r.refusal;
      «data» = r.«data»;
      irq = r.irq;
      pa = r.pa;
      pb = r.pb;
      riot = beside m r.io;
    }

abbrev pub accepted : ℕ → Riot → Answer
accepted d v = whole v.ram (accepted_io d v.io)

abbrev pub refused : Refusal → Riot → Answer
refused r v = whole v.ram (refused_io r v.io)

-- no operand is refused
abbrev pub chip : Chip
chip =
    record {
      State = Riot;
      Answer = Answer;
      Call = Call32;
      Typed = Typed32;
      power_up = power_up;
      well = well_formed;
      asks = λ c v. None;
      gives = gives_of;
      leaves = leaves_of;
      accepted = accepted;
      refused = refused;
      refusal = λ r. r.refusal;
      left = λ r. r.riot;
    }

-- a run may be as long as its 32 bits can say
abbrev pub clocked : Clocked chip
clocked = record { rule = clock_of; run = Run; longest = 4294967295 }

-- a timer just loaded with 255 over 1024. A record out of reach of all calls may need a whole divider more: 255 with D and p 1024 is well
-- formed, and has its flag set after 262,144 clocks.
abbrev pub largest_forecast : ℕ
largest_forecast = 261121

abbrev pub lined : Lined chip
lined =
    record {
      irq = λ v. irq_of v.io;
      Raised = λ v. Raised v.io;
      asserted = λ r. r.irq;
      forecast = Forecast;
      largest = largest_forecast;
    }

-- the flags are in the bits in which a read of the flags gives them
abbrev pub flags : Riot → ℕ
flags v = flags_of v.io

-- a read: the mask of the flags that it cleared, and the answer to the call
unfoldable pub reading_of : ℕ → Riot → Reading Answer
reading_of a v = record { cleared = cleared_by chip flags (Read a) v; answer = answer chip (Read a) v }

-- a reading with the RAM put to its answer
abbrev pub whole_reading : List ℕ → Reading IoAnswer → Reading Answer
whole_reading m r = record { cleared = r.cleared; answer = whole m r.answer }
