use Rattle.std.proofs.Common.{length, ◌+◌, ◌-◌, ◌*◌}
use Rattle.lines.specs.Places.{line_at}
use Rattle.blocks.proofs.Walks.{Blocking, Turning}
use Rattle.blocks.proofs.Session.+block_line.Given as goal

-- levels left: a line has more to run than a block with one level fewer, and a block more than its lines
abbrev pub decreases-block : goal.decreases-block
decreases-block l = 2 * l.levels + 1

abbrev pub decreases-line : goal.decreases-line
decreases-line l = 2 * l.levels

abbrev pub invariant-block-loop-walk : goal.invariant-block-loop-walk
invariant-block-loop-walk l =
    Blocking (line_at l.self.text.now) l.self.table.now l.fn.from.at l.fn.levels l.fn.from.skip l.fn.from.used l.fn.out l.out l.walk.at l.walk.skip l.walk.used

-- lines remaining
abbrev pub decreases-block-loop-walk : goal.decreases-block-loop-walk
decreases-block-loop-walk l = length l.self.table.now - l.walk.at

abbrev pub invariant-line-loop-done : goal.invariant-line-loop-done
invariant-line-loop-done l =
    Turning (line_at l.self.text.now) l.self.table.now (l.fn.from.at + 1) (l.fn.levels - 1) l.fn.from.skip l.fn.from.used l.fn.out l.out l.n l.done l.walk.at l.walk.skip l.walk.used

abbrev pub decreases-line-loop-done : goal.decreases-line-loop-done
decreases-line-loop-done l = l.n - l.done
