use Prim.Native.Nat.{◌-◌}
use lib.ListN.{length, drop}
use Rattle.session.specs.Pieces.{lines_in}
use Rattle.session.specs.Core.{joined}
use Rattle.session.proofs.Feeding.{Going}
use Rattle.session.proofs.Bench.taken.Given as goal

abbrev pub invariant-loop-end : goal.invariant-loop-end
invariant-loop-end l =
    Going (joined l.initial.ram l.initial.core) (lines_in l.whole l.input) l.initial.out l.out (joined l.ram l.core) l.used l.made (lines_in l.whole (drop l.used l.input))

abbrev pub decreases-loop-end : goal.decreases-loop-end
decreases-loop-end l = length l.input - l.used
