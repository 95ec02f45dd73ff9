use native.Mathlib.Omega.{arith}
use Rattle.session.proofs.Feeding.{going_on, going_end, going_full, from_core}
use Rattle.session.proofs.Bench.taken.Goals.{in-Some+then-out-made-lt13, in_default}
use Rattle.session.proofs.Bench.taken.Goals as goal

pub loop-end-preserved : goal.loop-end-preserved
loop-end-preserved c =
    going_on _ _ c.loop-end.invariant c.line_end.ensures.line c.in-Some.is (omega arith) c.answered-reply.ensures
    c.put-made.auto.out c.put-made.ensures

pub returns : goal.returns
returns c =
    rw c.bench.ensures
    (from_core c.args.self _ c.from-core.ensures (elim c.match-line_end.branch [
      | in-Some+then-out-made-lt13 w ↦ going_full c.loop-end.invariant w.if-out-made-lt13.true
      | in_default w ↦ going_end c.loop-end.invariant (c.line_end.ensures.line.missing w.in_default.is)
    ]))
