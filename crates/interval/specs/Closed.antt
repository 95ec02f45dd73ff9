-- What the code computes in place of single clocks. No promise of a public function rests on it: proofs/ shows that the clocks lead there.
use Rattle.std.specs.Prelude.{ℕ, ◌+◌, ◌-◌, ◌*◌, ◌/◌, ◌%◌, true, not, ◌||◌, if◌then◌else◌}
use Rattle.clocks.specs.declared.Forecast.{Forecast}
use Rattle.clocks.specs.declared.Forecast.TheVariants.{Never, In}
use Rattle.interval.specs.Timer.{moved}
use Rattle.interval.specs.declared.Timer.{Timer}

-- how many counts a timer is above zero
abbrev pub counts_of : Timer → ℕ
counts_of t = if t.expired then t.value else t.prescaler - 1 + t.divider * t.value

-- the timer at k counts above zero, no passing between
abbrev pub fallen : ℕ → Timer → Timer
fallen k t = if t.expired then moved k t.prescaler t else moved (k / t.divider) (k % t.divider + 1) t

-- the timer at k, after it passed zero
abbrev pub spent : ℕ → Timer → Timer
spent k t =
    record {
      value = k;
      divider = t.divider;
      prescaler = 1;
      expired = true;
      flag = not t.expired || t.flag;
      enable = t.enable;
    }

-- when the flag of a well-formed timer is set
abbrev pub due_of : Timer → Forecast
due_of t = if t.flag then In 0 else (if t.expired then Never else In (counts_of t + 1))
