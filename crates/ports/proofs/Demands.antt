-- The statements of specs/Demands.antt, proved.
use mathlib.Core.Path.{refl}
use Rattle.clocks.proofs.Bits.{bit_merge}
use Rattle.ports.specs.Demands

pub lines_by_bit : Demands.LinesByBit
lines_by_bit p outside k h l = bit_merge k p.ddr p.output outside h l

pub fresh_silent : Demands.FreshSilent
fresh_silent = refl
