-- What the 6525 shows of itself, from which it has the laws of every chip.
use mathlib.Core.Path.{◌≡◌, refl, sym}
use mathlib.Core.Bool.{true}
use lib.Dec.{eqb, ltb, lit≤}
use Rattle.clocks.proofs.Tests.{picked}
use Rattle.clocks.proofs.Clocks.{after_still}
use Rattle.calls.specs.declared.Call25.{Call25}
use Rattle.calls.specs.declared.Call25.TheVariants.{Reset, Write, Read, Pins, Run}
use Rattle.chips.proofs.Chips.{Operands, Lawful, Ticks}
use Rattle.inputs.specs.Inputs.{well_inputs}
use Rattle.inputs.specs.declared.Inputs.{Inputs}
use Rattle.inputs.proofs.Demands.{stays_well}
use Rattle.tpi6525.specs.Record.{well_formed}
use Rattle.tpi6525.specs.Access.{takes, read_of, ends, inputs_after, write_of}
use Rattle.tpi6525.specs.Chip.{asks_of, leaves_of, chip, clocked}
use Rattle.tpi6525.specs.declared.Tpi.{Tpi}

operands : (c : Call25) (v : Tpi) → Operands (asks_of c v)
operands Reset v = tt
operands (Write r x) v = picked Operands (ltb 7 r) (lit≤ tt) tt
operands (Read r) v = picked Operands (ltb 7 r) (lit≤ tt) tt
operands (Pins pa pb pc) v = tt
operands (Run n) v = tt

pub leaves_well : (c : Call25) (v : Tpi) → well_formed v ≡ true → well_formed (leaves_of c v) ≡ true
unfolding read_of write_of inputs_after
leaves_well Reset v w = stays_well.at_reset
leaves_well (Write r x) v w =
    picked (λ (i : Inputs). well_inputs i ≡ true) (eqb r 2)
    (stays_well.by_write v.cr x v.inputs w)
    (picked (λ (i : Inputs). well_inputs i ≡ true) (ends r) (stays_well.by_end v.cr v.inputs w) w)
leaves_well (Read r) v w =
    picked (λ (u : Tpi). well_formed u ≡ true) (takes r) (stays_well.by_read v.cr v.c.ddr v.inputs w) w
leaves_well (Pins pa pb pc) v w = stays_well.by_pins v.cr v.c.outside pc v.inputs w
leaves_well (Run n) v w = w

pub lawful : Lawful chip
lawful =
    record {
      refusal_accepted = λ d v. refl;
      refusal_refused = λ r v. refl;
      left_accepted = λ d v. refl;
      left_refused = λ r v. refl;
      other = operands;
      starts = refl;
      keeps = λ c v t n w. leaves_well c v w;
    }

pub ticks : Ticks chip clocked
ticks =
    record {
      one = lit≤ tt;
      run_asks_lem = λ n v h. refl;
      run_gives = λ n v. refl;
      run_leaves = λ n v. sym (after_still (λ u. u) v refl n);
      keeps = λ v w. w;
    }
