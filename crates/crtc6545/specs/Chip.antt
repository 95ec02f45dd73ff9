-- The 6545 as a chip: what each call asks for, gives and leaves, and what an answer shows.
use Rattle.std.specs.Prelude.{Bool, false, ◌&&◌, ℕ, ltb, Option, None, Some, is_none, if◌then◌else◌}
use Rattle.clocks.specs.Clocks.{after}
use Rattle.chips.specs.Chips.{Chip, Clocked, first, answer}
use Rattle.calls.specs.Calls.{Typed45}
use Rattle.calls.specs.declared.Call45.{Call45}
use Rattle.calls.specs.declared.Refusal.{Refusal}
use Rattle.calls.specs.declared.Call45.TheVariants.{Reset, Write, Read, Pins, Run}
use Rattle.raster.specs.Signals.{signals_of}
use Rattle.longruns.specs.Ends.{turns_of}
use Rattle.crtc6545.specs.Record.{well_formed, power_up, reset_of}
use Rattle.crtc6545.specs.Access.{read_asks, data_of, undriven_of, read_of, write_asks, write_of}
use Rattle.crtc6545.specs.Pins.{pins_asks, pins_of}
use Rattle.crtc6545.specs.Clock.{clock_of, longest_run, run_asks}
use Rattle.crtc6545.specs.Signals.{shown_de, shown_cursor}
use Rattle.crtc6545.specs.declared.Crtc.{Crtc}
use Rattle.crtc6545.specs.declared.Answer.{Answer}
use Rattle.crtc6545.specs.declared.Reading.{Reading}
use Rattle.crtc6545.specs.declared.Running.{Running}

-- what the operands of a call are refused for
abbrev pub asks_of : Call45 → Crtc → Option Refusal
asks_of Reset v = None
asks_of (Write a x) v = write_asks a x v
asks_of (Read a) v = read_asks a
asks_of (Pins x) v = pins_asks x
asks_of (Run n counted) v = run_asks n counted

-- the byte that a call reads, and the record that it leaves
abbrev pub gives_of : Call45 → Crtc → ℕ
gives_of Reset v = 0
gives_of (Write a x) v = 0
gives_of (Read a) v = data_of a v
gives_of (Pins x) v = 0
gives_of (Run n counted) v = 0

abbrev pub leaves_of : Call45 → Crtc → Crtc
leaves_of Reset v = reset_of v
leaves_of (Write a x) v = write_of a x v
leaves_of (Read a) v = read_of a v
leaves_of (Pins x) v = pins_of x v
leaves_of (Run n counted) v = after n clock_of v

-- an accepted call: the data, and the lines of the record as it leaves it; a sync is active while some of it is left
unfoldable pub accepted : ℕ → Crtc → Answer
accepted d v =
    record {
      refusal = None;
      «data» = d;
      de = shown_de v;
      hsync = ltb 0 v.raster.line.hsync;
      vsync = ltb 0 v.raster.frame.vsync;
      cursor = shown_cursor v;
      ma = (signals_of v.raster).ma;
      ra = (signals_of v.raster).ra;
      crtc = v;
    }

-- a refused call shows its refusal and nothing else, and hands the record back untouched
unfoldable pub refused : Refusal → Crtc → Answer
refused r v =
    record {
      refusal = Some r;
      «data» = 0;
      de = false;
      hsync = false;
      vsync = false;
      cursor = false;
      ma = 0;
      ra = 0;
      crtc = v;
    }

abbrev pub chip : Chip
chip =
    record {
      State = Crtc;
      Answer = Answer;
      Call = Call45;
      Typed = Typed45;
      power_up = power_up;
      well = well_formed;
      asks = asks_of;
      gives = gives_of;
      leaves = leaves_of;
      accepted = accepted;
      refused = refused;
      refusal = λ r. r.refusal;
      left = λ r. r.crtc;
    }

-- its runs, those whose turns are asked for and the others
abbrev pub clocked : Bool → Clocked chip
clocked counted = record { rule = clock_of; run = λ n. Run n counted; longest = longest_run counted }

-- a read: the answer to the call, and a mark that is clear where it is refused
unfoldable pub reading_of : ℕ → Crtc → Reading
reading_of a v = record { undriven = is_none (first chip (Read a) v) && undriven_of a v; answer = answer chip (Read a) v }

-- an answer to a run of n clocks with their turns, none where it is refused
abbrev pub with_turns : ℕ → Crtc → Answer → Running
with_turns n v r = record { turns = if is_none r.refusal then turns_of n v.raster else 0; answer = r }

-- a run: the answer to the call, with its turns
unfoldable pub running_of : ℕ → Bool → Crtc → Running
running_of n counted v = with_turns n v (answer chip (Run n counted) v)
