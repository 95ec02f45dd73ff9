-- The record: which ones are well formed, what it holds at power-up, and what a reset leaves of it.
use Rattle.std.specs.Prelude.{List, Bool, false, ℕ, replicate}
use Rattle.interval.specs.Timer as Interval
use Rattle.interval.specs.Timer.{well_timed, flagged}
use Rattle.interval.specs.declared.Timer.{Timer}
use Rattle.ports.specs.Ports.{silent, fresh}
use Rattle.riot6532.specs.declared.Pa7.{Pa7}
use Rattle.riot6532.specs.declared.Io.{Io}
use Rattle.riot6532.specs.declared.Riot.{Riot}

-- the timer is all that can be ill formed: every value of the other fields' types is allowed
abbrev pub well_formed : Riot → Bool
well_formed v = well_timed v.io.timer

-- the record of a RAM and all else
abbrev pub beside : List ℕ → Io → Riot
beside m io = record { ram = m; io = io }

-- all but the RAM, with another timer or another state of PA7
abbrev pub with_timer : Timer → Io → Io
with_timer t io = record { a = io.a; b = io.b; timer = t; pa7 = io.pa7 }

abbrev pub with_pa7 : Pa7 → Io → Io
with_pa7 e io = record { a = io.a; b = io.b; timer = io.timer; pa7 = e }

-- PA7's flag and enable clear, the falling edge chosen
abbrev pub quiet : Pa7
quiet = record { flag = false; enable = false; rising = false }

-- a reset clears ports and directions, both flags and both enables, and chooses the falling edge; RAM, counting and levels outside stay
abbrev pub reset_io : Io → Io
reset_io io = record { a = silent io.a; b = silent io.b; timer = flagged false false io.timer; pa7 = quiet }

abbrev pub reset_of : Riot → Riot
reset_of v = beside v.ram (reset_io v.io)

-- at power-up every byte of RAM is 0, ports and timer are at their own power-up, and the rest is as after a reset
abbrev pub power_up : Riot
power_up = beside (replicate 128 0) (record { a = fresh; b = fresh; timer = Interval.power_up; pa7 = quiet })
