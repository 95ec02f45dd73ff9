use Rattle.lines.specs.Places.{line_at}
use Rattle.marks.proofs.Matches.{Judging}
use Rattle.marks.proofs.matched.Given as goal

abbrev pub invariant-loop-p : goal.invariant-loop-p
invariant-loop-p l = Judging (line_at l.text) l.table l.p-index l.depth l.lost
