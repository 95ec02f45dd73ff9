-- The statements of specs/Demands.antt, each proved by one test that computes.
use mathlib.Core.Path.{◌≡◌, refl}
use mathlib.Core.Bool.{Bool, true}
use Rattle.clocks.specs.Clocks.{after}
use Rattle.clocks.specs.Bits.{bit, with_bit, with_set, with_clear, shares}
use Rattle.clocks.specs.Ranges.{within}
use Rattle.chips.specs.Chips.{answer}
use Rattle.timers.specs.First as First
use Rattle.timers.specs.Second as Second
use Rattle.shifter.specs.Shifter as Shift
use Rattle.interval.specs.Timer as Timer
use Rattle.flags.specs.Flags as Flags
use Rattle.raster.specs.Record as Raster
use Rattle.raster.specs.Access as Stored
use Rattle.raster.specs.Clock as Clocked
use Rattle.raster.specs.Signals as Signals
use Rattle.via6522.specs.Access as Access22
use Rattle.via6522.specs.Clock as Clock22
use Rattle.via6522.specs.Closed as Closed22
use Rattle.via6522.specs.Chip as Chip22
use Rattle.inputs.specs.Inputs as Inputs
use Rattle.tpi6525.specs.Access as Access25
use Rattle.tpi6525.specs.Chip as Chip25
use Rattle.riot6532.specs.Access as Access32
use Rattle.riot6532.specs.Chip as Chip32
use Rattle.crtc6545.specs.Record as Crtc6545
use Rattle.crtc6545.specs.Access as Access45
use Rattle.crtc6545.specs.Clock as Clock45
use Rattle.crtc6545.specs.Chip as Chip45
use Rattle.marked.specs.Cases.{Case, on_6522, on_6525, on_6532, on_6545, Shows22, Shows25, Shows32, Shows45, Holds}
use Rattle.marked.specs.Table.{table, catalogue}
use Rattle.marked.specs.Demands
use Rattle.marked.proofs.Tests.{leads, leads_holds, every, every_holds, along}
use Rattle.marked.proofs.Typed.{typed22, is_typed22, typed25, is_typed25, typed32, is_typed32, typed45, is_typed45}
use Rattle.marked.proofs.On22.{flags1, passes22, passes22_holds}
use Rattle.marked.proofs.On25.{passes25, passes25_holds}
use Rattle.marked.proofs.On32.{passes32, passes32_holds}
use Rattle.marked.proofs.On45.{passes45, passes45_holds}

-- the test of a case, and why a case that passes it holds
unfoldable pub passes : Case → Bool
passes (on_6522 calls o) = leads Chip22.chip typed22 is_typed22 (passes22 o) calls (Chip22.chip).power_up
passes (on_6525 calls steps) = leads Chip25.chip typed25 is_typed25 (passes25 steps) calls (Chip25.chip).power_up
passes (on_6532 calls o) = leads Chip32.chip typed32 is_typed32 (passes32 o) calls (Chip32.chip).power_up
passes (on_6545 calls o) = leads Chip45.chip typed45 is_typed45 (passes45 o) calls (Chip45.chip).power_up

passes_holds : (c : Case) → passes c ≡ true → Holds c
unfolding passes
passes_holds (on_6522 calls o) e =
    leads_holds Chip22.chip typed22 is_typed22 (passes22 o) (Shows22 o) (passes22_holds o) calls (Chip22.chip).power_up e
passes_holds (on_6525 calls steps) e =
    leads_holds Chip25.chip typed25 is_typed25 (passes25 steps) (Shows25 steps) (passes25_holds steps) calls (Chip25.chip).power_up e
passes_holds (on_6532 calls o) e =
    leads_holds Chip32.chip typed32 is_typed32 (passes32 o) (Shows32 o) (passes32_holds o) calls (Chip32.chip).power_up e
passes_holds (on_6545 calls o) e =
    leads_holds Chip45.chip typed45 is_typed45 (passes45 o) (Shows45 o) (passes45_holds o) calls (Chip45.chip).power_up e

-- the computed test of the table
all_pass : every passes table ≡ true
unfolding
    table every passes leads flags1 along after bit with_bit with_set with_clear shares answer
    First.clocked Second.clocked Second.counted Shift.clocked
    Flags.access_clears Flags.read_clears Flags.write_clears Flags.enabled
    Access22.read_asks Access22.read_of Access22.write_asks Access22.stored Access22.write_of
    Clock22.timers_of Clock22.with_timers Clock22.shifter_of Clock22.with_shifter Clock22.clock_of Closed22.steady Closed22.soonest
    Timer.clocked Access32.io_written Access32.write_of
    within Raster.well_registers Raster.well_line Raster.well_frame Raster.well_raster Raster.raster_up Stored.stored
    Clocked.line_clocked Clocked.new_frame Clocked.adjust_moved Clocked.row_ended Clocked.frame_moved Clocked.vsync_started Clocked.line_ended
    Clocked.raster_clocked Signals.ma_of Signals.signals_of
    Crtc6545.well_formed Crtc6545.power_up Access45.write_of Clock45.strobed Clock45.clock_of Chip45.accepted
all_pass = refl

pub marked : Demands.Marked
unfolding table
marked = (refl, every_holds passes Holds passes_holds table all_pass)

-- and that of the catalogue's cases
all_come : every passes catalogue ≡ true
unfolding
    catalogue every passes leads passes25 bit with_bit with_set with_clear answer
    Inputs.edges_of Inputs.pinned Inputs.highest_of Inputs.shown Inputs.asserted Inputs.ended Inputs.kept
    Access25.data_of Access25.read_of Access25.inputs_after Access25.write_of
all_come = refl

pub catalogued : Demands.Catalogued
unfolding catalogue
catalogued = (refl, every_holds passes Holds passes_holds catalogue all_come)
