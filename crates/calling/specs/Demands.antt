-- What the demands ask of the reply to a call. proofs/Demands.antt has a proof of each statement, under its name in small letters.
use Rattle.std.specs.Prelude.{◌≡◌, List, ℕ}
use Rattle.clocks.specs.Forecasts.{number_of}
use Rattle.clocks.specs.declared.Forecast.{Forecast}
use Rattle.calls.specs.declared.Call32.{Call32}
use Rattle.chips.specs.Chips.{Reached, Foretold}
use Rattle.via6522.specs.Chip as Chip22
use Rattle.via6522.specs.declared.Via.{Via}
use Rattle.via6522.specs.declared.Answer as Answer22
use Rattle.riot6532.specs.Chip as Chip32
use Rattle.riot6532.specs.declared.Io.{Io}
use Rattle.riot6532.specs.declared.Riot.{Riot}
use Rattle.riot6532.specs.declared.Answer as Answer32
use Rattle.calling.specs.Told.{forecast22, forecast32}
use Rattle.calling.specs.After.{After32}
use Rattle.calling.specs.declared.After.{After}

-- a session's forecast is the number of the chip's, which is the least number of clocks, or never
abbrev pub ForecastTold : Type 0
ForecastTold =
    ((v : Via) (f : Forecast) (r : Answer22.Answer) → Reached Chip22.chip v → Foretold Chip22.chip Chip22.clocked Chip22.lined v f r
    → forecast22 v ≡ number_of f)
    × ((v : Riot) (f : Forecast) (r : Answer32.Answer) → Reached Chip32.chip v → Foretold Chip32.chip Chip32.clocked Chip32.lined v f r
    → forecast32 v ≡ number_of f)

-- any two results that the promise of `on32` allows coincide, and so do the RAMs beside them
abbrev pub AfterOne : Type 0
AfterOne = (before x y : List ℕ) (io : Io) (c : Call32) (r s : After Io) → After32 before x io c r → After32 before y io c s → (x ≡ y) × (r ≡ s)
