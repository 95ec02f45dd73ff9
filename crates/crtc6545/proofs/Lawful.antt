-- What the 6545 shows of itself: what holds of every chip holds of it.
use Rattle.std.specs.Prelude.{None, Some, if◌then◌else◌}
use mathlib.Core.Path.{◌≡◌, refl, ap}
use mathlib.Core.Bool.{Bool, true, false, ◌&&◌}
use Prim.Native.Nat.{ℕ, ◌≤◌}
use lib.Dec.{ltb, lit≤}
use borrow.Author.Tests.{le-ltb}
use Rattle.clocks.proofs.Tests.{picked}
use Rattle.chips.proofs.Chips.{Operands, Lawful, Ticks}
use Rattle.calls.specs.declared.Call45.{Call45}
use Rattle.calls.specs.declared.Call45.TheVariants.{Reset, Write, Read, Pins, Run}
use Rattle.calls.specs.declared.Refusal.TheVariants.{TooLong}
use Rattle.crtc6545.specs.Access.{refused_form}
use Rattle.crtc6545.specs.Clock.{longest_run, run_asks}
use Rattle.crtc6545.specs.Chip.{asks_of, accepted, refused, chip, clocked}
use Rattle.crtc6545.specs.declared.Crtc.{Crtc}
use Rattle.crtc6545.proofs.Keeps.{power_up_kept, clock_kept, leaves_kept}

operands : (c : Call45) (v : Crtc) → Operands (asks_of c v)
operands Reset v = tt
operands (Write a x) v = picked Operands (ltb 1 a) (lit≤ tt) (picked Operands (refused_form a x v) (lit≤ tt) tt)
operands (Read a) v = picked Operands (ltb 1 a) (lit≤ tt) tt
operands (Pins x) v = picked Operands (ltb 1 x) (lit≤ tt) tt
operands (Run n b) v = picked Operands (b && ltb (longest_run true) n) (lit≤ tt) tt

pub lawful : Lawful chip
unfolding accepted refused
lawful =
    record {
      refusal_accepted = λ d v. refl;
      refusal_refused = λ r v. refl;
      left_accepted = λ d v. refl;
      left_refused = λ r v. refl;
      other = operands;
      starts = power_up_kept;
      keeps = leaves_kept;
    }

-- a run that is not too long is not refused
pub run_taken : (n : ℕ) (b : Bool) → n ≤ longest_run b → run_asks n b ≡ None
run_taken n true h = ap (λ (t : Bool). if t then Some TooLong else None) (le-ltb (longest_run true) n h)
run_taken n false h = refl

pub ticks : (b : Bool) → Ticks chip (clocked b)
ticks b =
    record {
      one = picked (λ (n : ℕ). 1 ≤ n) b (lit≤ tt) (lit≤ tt);
      run_asks_lem = λ n v h. run_taken n b h;
      run_gives = λ n v. refl;
      run_leaves = λ n v. refl;
      keeps = clock_kept;
    }
