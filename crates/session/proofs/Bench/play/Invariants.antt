use lib.ListN.{drop}
use Rattle.lines.specs.Places.{lines_at}
use Rattle.session.specs.Core.{joined}
use Rattle.session.proofs.Playing.{Playing}
use Rattle.session.proofs.Bench.play.Given as goal

abbrev pub invariant-loop-p : goal.invariant-loop-p
invariant-loop-p l =
    Playing (joined l.initial.ram l.initial.core) (lines_at l.text l.places) l.initial.out l.out (joined l.ram l.core) l.made (lines_at l.text (drop l.p-index l.places))
