-- What the 6532 shows of itself, from which it has the laws of every chip.
use mathlib.Core.Path.{refl}
use lib.Dec.{lit≤}
use Rattle.chips.proofs.Chips.{Lawful, Ticks}
use Rattle.interval.proofs.Sound as Timers
use Rattle.riot6532.specs.Chip.{chip, clocked}
use Rattle.riot6532.proofs.Keeps.{leaves_well}

pub lawful : Lawful chip
lawful =
    record {
      refusal_accepted = λ d v. refl;
      refusal_refused = λ r v. refl;
      left_accepted = λ d v. refl;
      left_refused = λ r v. refl;
      other = λ c v. tt;
      starts = refl;
      keeps = λ c v t n w. leaves_well c v t w;
    }

pub ticks : Ticks chip clocked
ticks =
    record {
      one = lit≤ tt;
      run_asks_lem = λ n v h. refl;
      run_gives = λ n v. refl;
      run_leaves = λ n v. refl;
      keeps = λ v. Timers.clock_well v.io.timer;
    }
