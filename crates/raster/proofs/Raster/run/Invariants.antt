use Rattle.std.proofs.Common.{◌≡◌, ◌<◌}
use Rattle.clocks.specs.Clocks.{after}
use Rattle.raster.specs.Clock.{raster_clocked}
use Rattle.raster.specs.Closed.{gap}
use Rattle.raster.proofs.Raster.run.Given as goal

-- the clocks that are left come to what all of them do, `ahead` of them end no line, and no register moves
abbrev pub invariant-loop-ahead : goal.invariant-loop-ahead
invariant-loop-ahead l =
    (after l.left raster_clocked l.self ≡ after l.n raster_clocked l.fn.self)
    × (l.ahead ≡ gap l.self.line.column l.self.registers.r0)
    × (l.self.line.column < 256)
    × (l.self.registers ≡ l.fn.self.registers)

abbrev pub decreases-loop-ahead : goal.decreases-loop-ahead
decreases-loop-ahead l = l.left
