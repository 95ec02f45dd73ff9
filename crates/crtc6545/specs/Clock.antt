-- One clock, the turns of two runs, and the runs that are refused.
use Rattle.std.specs.Prelude.{Bool, true, false, ◌&&◌, ℕ, ◌+◌, ◌-◌, ◌/◌, ◌%◌, eqb, ltb, Option, None, Some, if◌then◌else◌}
use Rattle.calls.specs.declared.Refusal.{Refusal}
use Rattle.calls.specs.declared.Refusal.TheVariants.{TooLong}
use Rattle.raster.specs.Clock.{raster_clocked}
use Rattle.raster.specs.Signals.{signals_of}
use Rattle.raster.specs.declared.Raster.{Raster}
use Rattle.crtc6545.specs.declared.Light.{Light}
use Rattle.crtc6545.specs.declared.Kept.{Kept}
use Rattle.crtc6545.specs.declared.Crtc.{Crtc}

-- the strobe: a waiting one takes the address before the step into R16/R17, sets full and is over
unfoldable pub strobed : ℕ → Light → Light
strobed ma p =
    if p.waiting
    then record { r16 = ma / 256; r17 = ma % 256; full = true; pen = p.pen; waiting = false }
    else p

-- the kept signals: the unskewed ones before the step
abbrev pub kept_of : Raster → Kept
kept_of v = record { de = (signals_of v).de; cursor = (signals_of v).cursor }

-- every part by its own step, each of the record before the clock
unfoldable pub clock_of : Crtc → Crtc
clock_of v =
    record {
      raster = raster_clocked v.raster;
      address = v.address;
      light = strobed (signals_of v.raster).ma v.light;
      kept = kept_of v.raster;
    }

-- the turns of two runs as one: the turn that the first one ends in is the one that the second goes on with
abbrev pub joined : ℕ → ℕ → ℕ
joined x y = if eqb x 0 then y else (if eqb y 0 then x else x + y - 1)

-- the most clocks of a run: where its turns are asked for as many as request 08 allows, and these fit four bytes
abbrev pub longest_run : Bool → ℕ
longest_run counted = if counted then 4294967290 else 4294967295

-- above that a run that is counted is too long; of one that is not, every number that a call can have is taken
abbrev pub run_asks : ℕ → Bool → Option Refusal
run_asks n counted = if counted && ltb (longest_run true) n then Some TooLong else None
