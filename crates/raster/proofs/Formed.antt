-- What the test of a well-formed raster says.
use Rattle.std.proofs.Common.{◌≡◌, true, refl}
use Rattle.clocks.proofs.Tests.{both}
use Rattle.clocks.proofs.Ranges.{All, within_all, all_within}
use Rattle.raster.specs.Record.{ranged, numbered, line_ranges, frame_ranges, allowed_r8, well_registers, well_line, well_frame, well_raster}
use Rattle.raster.specs.declared.Registers.{Registers}
use Rattle.raster.specs.declared.Line.{Line}
use Rattle.raster.specs.declared.Frame.{Frame}
use Rattle.raster.specs.declared.Raster.{Raster}

-- the parts, each by its ranges
abbrev pub FormedRegisters : Registers → Type 0
FormedRegisters r = All (ranged (numbered r))

abbrev pub FormedLine : Line → Type 0
FormedLine l = All (line_ranges l)

abbrev pub FormedFrame : Frame → Type 0
FormedFrame f = All (frame_ranges f)

pub record Formed (v : Raster) : Type 0 where
  pub registers : FormedRegisters v.registers
  pub allowed : allowed_r8 v.registers.r8 ≡ true
  pub line : FormedLine v.line
  pub frame : FormedFrame v.frame

pub formed : (v : Raster) → well_raster v ≡ true → Formed v
unfolding well_raster well_registers well_line well_frame
formed v w =
    let frame = both _ _ w in
    let line = both _ _ frame.0 in
    let registers = both _ _ line.0 in
    record {
      registers = (within_all true _ registers.0).1;
      allowed = registers.1;
      line = (within_all true _ line.1).1;
      frame = (within_all true _ frame.1).1;
    }

pub well : (v : Raster) → Formed v → well_raster v ≡ true
unfolding well_raster well_registers well_line well_frame
well v h =
    rw (
      all_within true (ranged (numbered v.registers)) refl h.registers,
      h.allowed,
      all_within true (line_ranges v.line) refl h.line,
      all_within true (frame_ranges v.frame) refl h.frame,
    )
