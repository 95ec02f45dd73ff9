use native.Mathlib.Omega.{arith}
use Rattle.repeats.proofs.Ends.{played_fits, playing_on, left_less, ends}
use Rattle.repeats.proofs.Streaming.{saying_on, answers}
use Rattle.repeats.proofs.windows.Goals as goal

pub overflow_add-played : goal.overflow_add-played
overflow_add-played g c =
    let f = played_fits c.loop-places.invariant.playing _ c.requires.1 c.window-gone.result c.window-gone.ensures in
    omega arith

pub loop-places-smaller : goal.loop-places-smaller
loop-places-smaller g c =
    left_less c.loop-places.invariant.playing _ c.requires.1 c.window-gone.result c.window-gone.ensures (omega arith)

pub loop-places-preserved : goal.loop-places-preserved
loop-places-preserved g c =
    let i = c.loop-places.invariant in
    let w = c.window-gone in
    record {
      playing = playing_on i.playing _ c.requires.1 w.result w.ensures w.auto.places w.auto.out;
      said = saying_on _ _ _ i.playing _ c.requires.1 w.result w.ensures i.said (c.write-written.ensures.bytes c.if-not-written.false);
      others = rw i.others at c.write-written.ensures.others;
    }

pub returns-then-not-written-clause-ends : goal.returns-then-not-written-clause-ends
returns-then-not-written-clause-ends g c =
    ends c.loop-places.invariant.playing _ c.requires.1 c.window-gone.result c.window-gone.ensures c.write-written.result c.then-not-written.either

pub returns-then-not-written-clause-answers : goal.returns-then-not-written-clause-answers
returns-then-not-written-clause-answers g c =
    let i = c.loop-places.invariant in
    answers _ _ _ i.playing _ c.requires.1 c.window-gone.result c.window-gone.ensures i.said c.write-written.result c.write-written.ensures.bytes c.then-not-written.either
