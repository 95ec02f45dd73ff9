use mathlib.Core.Path.{◌≡◌, refl}
use Rattle.std.proofs.Common.{rules}
use native.Mathlib.Omega.{arith}
use Rattle.bench.proofs.Turning.{going_start, turn_on, stops_unwritten, stops_last, stops_whole, met_end}
use Rattle.bench.proofs.Streaming.{open_start, on, done, long_enough}
use Rattle.bench.proofs.all_turns.Goals as goal

pub loop-turn-init : goal.loop-turn-init
loop-turn-init g c =
    let p = c.power_up-bench.ensures in
    record { turned = going_start _ _ _ (search rules) (search rules) p; flow = open_start _ _ _ p; counted = refl }

pub loop-turn-preserved : goal.loop-turn-preserved
loop-turn-preserved g c =
    let i = c.loop-turn.invariant in
    let t = c.one_turn-t in
    let w = c.if-not-t.false in
    let m = c.if-not-t-2.false in
    record {
      turned = turn_on t.result i.turned t.ensures.turned w m t.auto.buf t.auto.out;
      flow = on i.flow t.result (t.ensures.streams (omega (arith, i.turned.small, i.turned.input))) m w;
      counted = refl;
    }

pub returns-then-not-t-clause-ends : goal.returns-then-not-t-clause-ends
returns-then-not-t-clause-ends g c =
    stops_unwritten c.one_turn-t.result c.loop-turn.invariant.turned c.one_turn-t.ensures.turned c.if-not-t.true

pub returns-then-eq-clause-ends : goal.returns-then-eq-clause-ends
returns-then-eq-clause-ends g c =
    stops_whole c.one_turn-t.result c.loop-turn.invariant.turned c.one_turn-t.ensures.turned c.if-not-t.false c.if-not-t-2.true
    (met_end _ _ c.eq.ensures c.if-eq.true)

pub returns-then-eq-clause-answers : goal.returns-then-eq-clause-answers
returns-then-eq-clause-answers g c =
    let i = c.loop-turn.invariant in
    let t = c.one_turn-t in
    done i.flow t.result (t.ensures.streams (omega (arith, i.turned.small, i.turned.input))) (met_end _ _ c.eq.ensures c.if-eq.true) c.if-not-t.false

pub returns-else-eq-clause-ends : goal.returns-else-eq-clause-ends
returns-else-eq-clause-ends g c = stops_last c.one_turn-t.result c.loop-turn.invariant.turned c.one_turn-t.ensures.turned c.if-not-t-2.true

pub returns-clause-ends : goal.returns-clause-ends
returns-clause-ends g c =
    let i = c.loop-turn.invariant in
    let n : c.loop-turn.turns ≡ 18446744073709551615 = omega (arith, i.counted) in
    (n, _, rw (← i.counted) at i.turned.after)

pub returns-clause-counted : goal.returns-clause-counted
returns-clause-counted g c = let i = c.loop-turn.invariant in rw i.counted (long_enough _ _ i.flow)
