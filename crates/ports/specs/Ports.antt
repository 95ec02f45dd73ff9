-- The lines of a port, its reset and its power-up, and the edges of a level.
use Rattle.std.specs.Prelude.{Bool, not, ◌&&◌, ℕ, if◌then◌else◌}
use Rattle.clocks.specs.Bits.{merge}
use Rattle.ports.specs.declared.Port.{Port}

-- with the given levels outside, a line is the output bit where the port drives it (direction bit 1), else the level
abbrev pub lines_for : ℕ → Port → ℕ
lines_for outside p = merge p.ddr p.output outside

abbrev pub lines_of : Port → ℕ
lines_of p = lines_for p.outside p

-- a reset clears output and direction bits
abbrev pub silent : Port → Port
silent p = record { output = 0; outside = p.outside; ddr = 0 }

-- at power-up all levels outside are 1, and the rest is as after a reset
abbrev pub fresh : Port
fresh = record { output = 0; outside = 255; ddr = 0 }

-- new levels outside
abbrev pub under : ℕ → Port → Port
under levels p = record { output = p.output; outside = levels; ddr = p.ddr }

-- an edge from the old level to the new: a rise from 0 to 1, or a fall from 1 to 0
abbrev pub edge : Bool → Bool → Bool → Bool
edge rising old new = if rising then not old && new else old && not new
