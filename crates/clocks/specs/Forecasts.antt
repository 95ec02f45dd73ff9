-- A forecast: after how many clocks a flag is set or a line asserted, or that it never is.
use Rattle.std.specs.Prelude.{Bool, false, ℕ, zero, suc, ◌-◌, leb, if◌then◌else◌}
use Rattle.clocks.specs.declared.Forecast.{Forecast}
use Rattle.clocks.specs.declared.Forecast.TheVariants.{Never, In}

-- the number that document 01 gives each case
abbrev pub number_of : Forecast → ℕ
number_of Never = 4294967295
number_of (In d) = d

-- whether what is forecast is set, or asserted, after k clocks
abbrev pub comes : Forecast → ℕ → Bool
comes Never k = false
comes (In d) k = leb d k

-- what a forecast says m clocks later: m fewer, 0 once it has come, and never as before
abbrev pub shortened : ℕ → Forecast → Forecast
shortened m Never = Never
shortened m (In d) = In (d - m)

-- the sooner of two forecasts
abbrev pub sooner_of : Forecast → Forecast → Forecast
sooner_of Never b = b
sooner_of (In x) Never = In x
sooner_of (In x) (In y) = if leb x y then In x else In y

-- looking ahead through n numbers from k on: the first that passes the test, or never if none does
unfoldable pub first_from : ℕ → ℕ → (ℕ → Bool) → Forecast
first_from zero k p = Never
first_from (suc n) k p = if p k then In k else first_from n (suc k) p
