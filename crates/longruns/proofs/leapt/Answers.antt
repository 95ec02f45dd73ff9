use Rattle.longruns.proofs.Leaps.{counters}
use Rattle.longruns.proofs.leapt.Goals as goal

pub invariant_of-place : goal.invariant_of-place
invariant_of-place c = record { counters = counters c.args.raster c.requires }
