-- What the code computes in place of single clocks. No promise of a public entry rests on it: proofs/ shows that the clocks lead there.
use Rattle.std.specs.Prelude.{◌&&◌, if◌then◌else◌}
use Rattle.clocks.specs.Forecasts.{sooner_of}
use Rattle.clocks.specs.declared.Forecast.{Forecast}
use Rattle.clocks.specs.declared.Forecast.TheVariants.{Never, In}
use Rattle.riot6532.specs.declared.Io.{Io}

-- when the line is asserted, if the timer's flag is set as f says: the timer's flag behind its enable, or PA7's now
abbrev pub soonest_of : Forecast → Io → Forecast
soonest_of f io = sooner_of (if io.timer.enable then f else Never) (if io.pa7.flag && io.pa7.enable then In 0 else Never)
