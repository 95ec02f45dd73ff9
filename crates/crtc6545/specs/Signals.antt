-- The signals as R8 shows them.
use Rattle.std.specs.Prelude.{Bool, if◌then◌else◌}
use Rattle.clocks.specs.Bits.{bit}
use Rattle.raster.specs.Signals.{signals_of}
use Rattle.crtc6545.specs.declared.Crtc.{Crtc}

-- a skewed signal is the one that was kept a clock before; R8 has a bit for each
abbrev pub shown_de : Crtc → Bool
shown_de v = if bit 4 v.raster.registers.r8 then v.kept.de else (signals_of v.raster).de

abbrev pub shown_cursor : Crtc → Bool
shown_cursor v = if bit 5 v.raster.registers.r8 then v.kept.cursor else (signals_of v.raster).cursor
