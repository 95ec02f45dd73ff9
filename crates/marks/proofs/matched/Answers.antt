use Rattle.std.proofs.Common.{sym}
use Rattle.marks.proofs.Matches.{judging_lost, judging_close, judging_deep, judging_open, judging_line, judging_end_lost, judging_end_open, judging_end_closed}
use Rattle.marks.proofs.matched.Goals.{then-closes_at+then-depth-eq0, then-closes_at+else-depth-eq0, else-closes_at+then-opens_at+else-depth-eq-DEEPEST, else-closes_at+else-opens_at}
use Rattle.marks.proofs.matched.Goals.{then-lost-via-then-lost, then-lost-via-else-lost+then-depth-gt0}
use Rattle.marks.proofs.matched.Goals as goal

pub returns-then-depth-eq-DEEPEST : goal.returns-then-depth-eq-DEEPEST
returns-then-depth-eq-DEEPEST c =
    judging_deep c.loop-p.invariant c.loop-p-test.true (sym c.if-closes_at.ensures) (sym c.if-opens_at.ensures) c.if-depth-eq-DEEPEST.true

pub loop-p-preserved : goal.loop-p-preserved
loop-p-preserved c =
    let j = c.loop-p.invariant in
    let h = c.loop-p-test.true in
    elim c.if-closes_at.branch [
      | then-closes_at+then-depth-eq0 w ↦ rw (w.depth-is, w.lost-is) (judging_lost j h (sym w.if-closes_at.ensures) w.if-depth-eq0.true)
      | then-closes_at+else-depth-eq0 w ↦ rw (w.depth-is, w.lost-is) (judging_close j h (sym w.if-closes_at.ensures) w.if-depth-eq0.false)
      | else-closes_at+then-opens_at+else-depth-eq-DEEPEST w ↦
          rw (w.depth-is, w.lost-is) (judging_open j h (sym w.if-closes_at.ensures) (sym w.if-opens_at.ensures) w.if-depth-eq-DEEPEST.false)
      | else-closes_at+else-opens_at w ↦ rw (w.depth-is, w.lost-is) (judging_line j h (sym w.if-closes_at.ensures) (sym w.if-opens_at.ensures))
    ]

pub returns-then-lost : goal.returns-then-lost
returns-then-lost c =
    elim c.then-lost.branch [
      | then-lost-via-then-lost w ↦ judging_end_lost c.loop-p.invariant c.loop-p-test.false w.if-lost.true
      | then-lost-via-else-lost+then-depth-gt0 w ↦ judging_end_open c.loop-p.invariant c.loop-p-test.false w.if-lost.false w.if-depth-gt0.true
    ]

pub returns : goal.returns
returns c = judging_end_closed c.loop-p.invariant c.loop-p-test.false c.if-lost.false c.if-depth-gt0.false
