-- The interval timer: which ones are well formed, power-up, a load, one clock, and when the flag is due.
use Rattle.std.specs.Prelude.{◌≡◌, ℕ, ◌-◌, Bool, true, false, not, ◌&&◌, ◌||◌, ◌==◌, nat_eq, nat_le, if◌then◌else◌}
use Rattle.clocks.specs.Clocks.{after, lower}
use Rattle.clocks.specs.Forecasts.{comes}
use Rattle.clocks.specs.declared.Forecast.{Forecast}
use Rattle.clocks.specs.declared.Forecast.TheVariants.{In}
use Rattle.interval.specs.declared.Timer.{Timer}

-- the timer divides by one of four numbers
abbrev pub is_divider : ℕ → Bool
is_divider d = d == 1 || d == 8 || d == 64 || d == 1024

-- the prescaler lies within the divider, and an expired timer has nothing left to divide
abbrev pub well_timed : Timer → Bool
well_timed t =
    is_divider t.divider
    && nat_le 1 t.prescaler
    && nat_le t.prescaler t.divider
    && (not t.expired || t.prescaler == 1)

-- the divider that the two address bits pick
abbrev pub divider_of : ℕ → ℕ
divider_of k = if k == 0 then 1 else (if k == 1 then 8 else (if k == 2 then 64 else 1024))

-- a load starts the timer anew at a value: the first clock counts, and the flag is clear
abbrev pub loaded : ℕ → ℕ → Bool → Timer
loaded choice x e =
    record { value = x; divider = divider_of choice; prescaler = 1; expired = false; flag = false; enable = e }

-- at power-up the timer is at 255 over 1024, and the first clock counts
abbrev pub power_up : Timer
power_up = record { value = 255; divider = 1024; prescaler = 1; expired = false; flag = false; enable = false }

-- a timer with another flag and enable: what reads and resets change, whatever it counts
abbrev pub flagged : Bool → Bool → Timer → Timer
flagged f e t =
    record {
      value = t.value;
      divider = t.divider;
      prescaler = t.prescaler;
      expired = t.expired;
      flag = f;
      enable = e;
    }

-- a timer at another value and prescaler
abbrev pub moved : ℕ → ℕ → Timer → Timer
moved x p t =
    record { value = x; divider = t.divider; prescaler = p; expired = t.expired; flag = t.flag; enable = t.enable }

-- the first passing of zero sets the flag, and the timer has expired
abbrev pub passed : Timer → Timer
passed t = record { value = 255; divider = t.divider; prescaler = 1; expired = true; flag = true; enable = t.enable }

-- an expired timer counts each clock, round and round, and sets no flag; a running one counts when the prescaler is used up,
-- which a count that does not pass zero fills again
unfoldable pub clocked : Timer → Timer
clocked t =
    if t.expired then moved (lower 256 t.value) t.prescaler t else
    (if t.prescaler - 1 == 0 then (if nat_eq t.value 0 then passed t else moved (t.value - 1) t.divider t) else
    moved t.value (t.prescaler - 1) t)

-- f says of every number of clocks whether the flag is set after it, now included; of an ill-formed timer it says 0
pub record Due (t : Timer) (f : Forecast) : Type 0 where
  pub told : well_timed t ≡ true → (k : ℕ) → (after k clocked t).flag ≡ comes f k
  pub ill : well_timed t ≡ false → f ≡ In 0
