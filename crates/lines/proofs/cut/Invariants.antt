use Rattle.lines.proofs.Cutting.{Cutting}
use Rattle.lines.proofs.cut.Given as goal

abbrev pub invariant-loop-used : goal.invariant-loop-used
invariant-loop-used l = Cutting l.text l.initial.out l.out l.at l.used
