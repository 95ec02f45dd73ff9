-- The interrupt, and the lines of port C.
use Rattle.std.specs.Prelude.{Bool, not, ℕ, if◌then◌else◌}
use Rattle.clocks.specs.Bits.{with_bit}
use Rattle.inputs.specs.Inputs.{interrupts, shown, asserted}
use Rattle.ports.specs.Ports.{lines_of}
use Rattle.tpi6525.specs.declared.Tpi.{Tpi}

-- in interrupt mode port C's direction byte is the mask
abbrev pub irq_of : Tpi → Bool
irq_of v = asserted v.cr v.c.ddr v.inputs

-- what the active interrupt register shows
abbrev pub air_of : Tpi → ℕ
air_of v = shown v.cr v.c.ddr v.inputs

-- in interrupt mode line 5 is the interrupt pin, 0 when asserted, and the chip drives none of the others; else port C is as the other two
abbrev pub lines_with : Bool → Tpi → ℕ
lines_with irq v = if interrupts v.cr then with_bit 5 (not irq) v.c.outside else lines_of v.c

abbrev pub lines_c : Tpi → ℕ
lines_c v = lines_with (irq_of v) v
