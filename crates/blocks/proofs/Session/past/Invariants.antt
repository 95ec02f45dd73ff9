use Rattle.lines.specs.Places.{line_at}
use Rattle.blocks.proofs.Blocks.{Passing}
use Rattle.blocks.proofs.Session.past.Given as goal

abbrev pub invariant-loop-n : goal.invariant-loop-n
invariant-loop-n l = Passing (line_at l.self.text.now) l.p-items l.levels l.n l.depth
