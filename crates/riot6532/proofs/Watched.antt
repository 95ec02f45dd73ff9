-- What the 6532 shows of its interrupt line: when it is asserted, and how far ahead that can be.
use mathlib.Core.Path.{◌≡◌, refl}
use mathlib.Core.Bool.{true}
use Prim.Native.Nat.{ℕ, ◌<◌}
use lib.Dec.{lit<, lit≤}
use native.Mathlib.Omega.{arith}
use Rattle.std.proofs.lemmas.Bool.Decides.{nat_tests}
use Rattle.clocks.specs.Bits.{bit}
use Rattle.clocks.specs.Forecasts.{comes}
use Rattle.clocks.specs.declared.Forecast.{Forecast}
use Rattle.clocks.specs.declared.Forecast.TheVariants.{In}
use Rattle.clocks.proofs.Forecasts.{AtMost}
use Rattle.calls.specs.declared.Call32.TheVariants.{Write}
use Rattle.chips.specs.Chips.{answer, line, Reached, at_power_up, by, Foretold}
use Rattle.chips.proofs.Chips as Chips
use Rattle.interval.specs.Closed.{due_of}
use Rattle.interval.specs.Demands as Interval
use Rattle.interval.proofs.Sound.{reached_sound}
use Rattle.interval.proofs.Demands.{due_is, most_reached, most_well}
use Rattle.riot6532.specs.Record.{well_formed}
use Rattle.riot6532.specs.Access.{io_written, write_of}
use Rattle.riot6532.specs.Closed.{soonest_of}
use Rattle.riot6532.specs.Chip.{chip, clocked, lined, largest_forecast}
use Rattle.riot6532.specs.declared.Riot.{Riot}
use Rattle.riot6532.specs.declared.Answer.{Answer}
use Rattle.riot6532.proofs.Lines.{line_due, raised}
use Rattle.riot6532.proofs.Keeps.{leaves_reached}
use Rattle.riot6532.proofs.Lawful.{lawful, ticks}

-- when the line is asserted
abbrev ahead : Riot → Forecast
ahead v = soonest_of (due_of v.io.timer) v.io

tells : (v : Riot) → well_formed v ≡ true → (k : ℕ) → line chip clocked lined k v ≡ comes (ahead v) k
tells v w = line_due v (due_of v.io.timer) w (due_is v.io.timer w)

-- no later than the timer's flag is set
ahead_most : (n : ℕ) (v : Riot) → AtMost n (due_of v.io.timer) → AtMost n (ahead v)
ahead_most n v h = grind (arith, nat_tests)

-- in a record with a reached timer no later than the largest forecast
ahead_reached : (v : Riot) → well_formed v ≡ true → Interval.Reached v.io.timer → AtMost largest_forecast (ahead v)
ahead_reached v w r =
    let t = v.io.timer in
    ahead_most largest_forecast v (most_reached largest_forecast t (due_of t) (lit≤ tt) r (due_is t w))

-- and just then where the timer was loaded with 255 over 1024, and enabled
farthest : (v : Riot) × Reached chip v × (ahead v ≡ In largest_forecast)
unfolding answer bit io_written write_of
farthest = (_, by (Write 159 255) (lit< tt, lit< tt) at_power_up, refl)

pub watched : Chips.Watched chip clocked lined
watched =
    record {
      shows = λ d v. refl;
      exact = λ v w. raised v.io;
      leaves = λ v. refl;
      ahead = ahead;
      tells = tells;
      Kept = λ v. Interval.Reached v.io.timer;
      kept_first = Interval.at_power_up;
      kept_next = λ c v t n w. leaves_reached c v t;
      most = ahead_reached;
      farthest = farthest;
    }

-- a record in its types' ranges, reached or not, may need a whole divider more
pub forecast_most :
    (v : Riot) (f : Forecast) (r : Answer) → v.io.timer.value < 256 → well_formed v ≡ true → Foretold chip clocked lined v f r
    → AtMost 262144 f
unfolding watched
forecast_most v f r b w t =
    let timer = v.io.timer in
    rw (Chips.foretold_is chip lawful clocked ticks lined watched v f r w t)
    (ahead_most 262144 v (most_well timer (due_of timer) b w (due_is timer w)))

pub reached_byte : (v : Riot) → Reached chip v → v.io.timer.value < 256
unfolding watched
reached_byte v r = (reached_sound v.io.timer (Chips.reached_kept chip lawful clocked ticks lined watched v r)).byte
