-- What the 6522 shows of itself as a chip.
use mathlib.Core.Path.{refl}
use mathlib.Core.Bool.{◌&&◌, ◌||◌, not}
use lib.Dec.{eqb, ltb, lit≤}
use Rattle.clocks.proofs.Tests.{picked}
use Rattle.calls.specs.declared.Call22.{Call22}
use Rattle.calls.specs.declared.Call22.TheVariants.{Reset, Write, Read, Pins, Run, Forecast}
use Rattle.chips.proofs.Chips.{Operands, Lawful, Ticks}
use Rattle.flags.specs.Flags.{allowed_pcr}
use Rattle.via6522.specs.Record.{allowed_acr}
use Rattle.via6522.specs.Access.{read_asks, write_asks}
use Rattle.via6522.specs.Pins.{pins_asks}
use Rattle.via6522.specs.Clock.{clock_of}
use Rattle.via6522.specs.Chip.{asks_of, leaves_of, chip, clocked}
use Rattle.via6522.specs.declared.Via.{Via}
use Rattle.via6522.proofs.Formed.{formed, well}
use Rattle.via6522.proofs.Keeps.{clock_formed, leaves_formed}

operands : (c : Call22) (v : Via) → Operands (asks_of c v)
unfolding read_asks write_asks pins_asks
operands Reset v = tt
operands (Write r x) v =
    picked Operands (ltb 15 r) (lit≤ tt)
    (picked Operands (eqb r 11 && not (allowed_acr x) || eqb r 12 && not (allowed_pcr x)) (lit≤ tt) tt)
operands (Read r) v = picked Operands (ltb 15 r) (lit≤ tt) tt
operands (Pins pa pb control) v = picked Operands (ltb 15 control) (lit≤ tt) tt
operands (Run n) v = tt
operands Forecast v = tt

pub lawful : Lawful chip
lawful =
    record {
      refusal_accepted = λ d v. refl;
      refusal_refused = λ r v. refl;
      left_accepted = λ d v. refl;
      left_refused = λ r v. refl;
      other = operands;
      starts = refl;
      keeps = λ c v t e w. well (leaves_of c v) (leaves_formed c v e (formed v w));
    }

pub ticks : Ticks chip clocked
ticks =
    record {
      one = lit≤ tt;
      run_asks_lem = λ n v h. refl;
      run_gives = λ n v. refl;
      run_leaves = λ n v. refl;
      keeps = λ v w. well (clock_of v) (clock_formed v (formed v w));
    }
