use Rattle.std.proofs.Common.{◌%◌}
use Rattle.longruns.specs.Closed.{frame_on}
use Rattle.longruns.proofs.Places.{on_counters}
use Rattle.longruns.proofs.place.Place.frame_on.Goals as goal

pub invariant_of-result : goal.invariant_of-result
unfolding frame_on
invariant_of-result c =
    let v = c.args.self in
    rw c.new_frame-frame.ensures (record { counters = on_counters v.registers v.frame v.counters (c.args.frames % 32) })
