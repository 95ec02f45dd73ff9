-- One clock.
use Rattle.interval.specs.Timer.{clocked}
use Rattle.riot6532.specs.Record.{beside, with_timer}
use Rattle.riot6532.specs.declared.Riot.{Riot}

-- a clock moves the timer and nothing else
abbrev pub clock_of : Riot → Riot
clock_of v = beside v.ram (with_timer (clocked v.io.timer) v.io)
