use Rattle.session.proofs.Feeding.{from_core}
use Rattle.session.proofs.Playing.{playing_end, played}
use Rattle.session.proofs.Bench.play.Goals as goal

pub returns : goal.returns
returns c =
    rw c.bench.ensures
    (played c.args.text.now c.args.places.now c.if-out-places.false (from_core c.args.self _ c.from-core.ensures (playing_end _ _ c.loop-p.invariant c.loop-p-test.false)))
