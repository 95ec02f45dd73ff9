-- What is asked of the timer beyond the promises. proofs/Demands.antt has a proof of each statement, under its name in small letters.
use Rattle.std.specs.Prelude.{◌≡◌, ℕ, ◌<◌, ◌≤◌, Bool, true}
use Rattle.clocks.specs.declared.Forecast.{Forecast}
use Rattle.clocks.specs.declared.Forecast.TheVariants.{In}
use Rattle.interval.specs.Timer.{well_timed, power_up, loaded, flagged, clocked, Due}
use Rattle.interval.specs.declared.Timer.{Timer}

-- every timer that loads, clocks and changes of flag and enable lead to from power-up
pub data Reached : Timer → Type 0 where
  at_power_up : Reached power_up
  by_load : (choice x : ℕ) (e : Bool) → x < 256 → Reached (loaded choice x e)
  by_clock : (t : Timer) → Reached t → Reached (clocked t)
  by_flags : (f e : Bool) (t : Timer) → Reached t → Reached (flagged f e t)

abbrev pub ReachedWell : Type 0
ReachedWell = (t : Timer) → Reached t → well_timed t ≡ true

-- a clock keeps any timer well formed
abbrev pub ClockWell : Type 0
ClockWell = (t : Timer) → well_timed t ≡ true → well_timed (clocked t) ≡ true

-- any two results that `due` may give coincide
abbrev pub DueOne : Type 0
DueOne = (t : Timer) (f g : Forecast) → Due t f → Due t g → f ≡ g

-- a reached timer's flag is set after at most 261,121 clocks, the first flag of 255 over 1024, or never
abbrev pub DueBound : Type 0
DueBound = (t : Timer) (f : Forecast) (d : ℕ) → Reached t → Due t f → f ≡ In d → d ≤ 261121

-- any well-formed timer's after at most 262,144: 255 over 1024 with p 1024, which no load and no clock leaves
abbrev pub DueMost : Type 0
DueMost = (t : Timer) (f : Forecast) (d : ℕ) → t.value < 256 → well_timed t ≡ true → Due t f → f ≡ In d → d ≤ 262144
