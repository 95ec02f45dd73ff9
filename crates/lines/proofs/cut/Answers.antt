use native.Mathlib.Omega.{arith}
use Rattle.lines.proofs.Cutting.{cutting_none, cutting_line}
use Rattle.lines.proofs.cut.Goals as goal

pub returns-then-text-gt65535 : goal.returns-then-text-gt65535
returns-then-text-gt65535 c = cutting_none _ _ c.if-text-gt65535.true

pub loop-used-preserved : goal.loop-used-preserved
loop-used-preserved c =
    let room = c.loop-used-test.true in
    let sized = c.loop-used.invariant.sized in
    cutting_line c.loop-used.invariant _ _ c.if-text-at.false (omega (arith, room, sized)) c.end_from-end.ensures c.place.ensures
