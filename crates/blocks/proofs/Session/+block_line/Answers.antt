use Rattle.std.proofs.Common.{sym, ◌∙◌, arith}
use Rattle.blocks.proofs.Windows.{one}
use Rattle.blocks.proofs.Blocks.{opens_level}
use Rattle.blocks.proofs.Walks.{block_goes, block_stops, blocking_close, blocking_end, blocking_line}
use Rattle.blocks.proofs.Walks.{through_plain, through_turns, turning_start, turning_again, line_goes, line_stops, onward_may, no_turn, all_turns_lem, then_next}
use Rattle.blocks.proofs.Session.+block_line.Goals as goal

pub block-returns-then-closes_at : goal.block-returns-then-closes_at
block-returns-then-closes_at t c =
    let on = block_goes c.loop-walk.invariant c.loop-walk-test.true in
    blocking_close c.loop-walk.invariant on.0 on.1 (sym c.closes_at.ensures ∙ c.if-closes_at.true)

pub block-loop-walk-preserved : goal.block-loop-walk-preserved
block-loop-walk-preserved t c =
    let on = block_goes c.loop-walk.invariant c.loop-walk-test.true in
    blocking_line c.loop-walk.invariant on.0 on.1 (sym c.closes_at.ensures ∙ c.if-closes_at.false) c.line-walk.ensures

pub block-returns : goal.block-returns
block-returns t c = blocking_end c.loop-walk.invariant (block_stops c.loop-walk.invariant c.loop-walk-test.false)

pub line-returns-in_default : goal.line-returns-in_default
line-returns-in_default t c =
    through_plain _ _ _ _ _ c.note.result _ c.requires.0 (sym c.in_default.ensures) c.note.ensures.0 (c.note.ensures.1 ∙ sym (one _ _))

pub line-overflow_sub-low : goal.line-overflow_sub-low
line-overflow_sub-low t c = opens_level _ _ _ (sym c.in-Some.ensures)

pub line-returns-then-n-eq0 : goal.line-returns-then-n-eq0
line-returns-then-n-eq0 t c =
    let to = c.past-at.ensures in
    through_turns _ _ _ _ _ _ _ _ (sym c.in-Some.ensures) to.0.0 to.0.1 (no_turn _ _ _ c.if-n-eq0.true) (λ _. to.1)

pub line-loop-done-init : goal.line-loop-done-init
line-loop-done-init t c = let p = c.requires.0 in turning_start _ _ _ _ _ _ _ _ (omega arith)

pub line-block-b-requires : goal.line-block-b-requires
line-block-b-requires t c =
    let falls = c.decreases in
    let some = opens_level _ _ _ (sym c.in-Some.ensures) in
    let p = c.requires.0 in
    (omega arith, (omega arith, (line_goes c.loop-done.invariant c.loop-done-test.true).1))

pub line-onward-g-requires : goal.line-onward-g-requires
line-onward-g-requires t c =
    let on = line_goes c.loop-done.invariant c.loop-done-test.true in
    onward_may c.loop-done.invariant on.0 on.1 c.block-b.ensures

pub line-loop-done-preserved : goal.line-loop-done-preserved
line-loop-done-preserved t c =
    let on = line_goes c.loop-done.invariant c.loop-done-test.true in
    rw c.onward-g.ensures.place (turning_again c.loop-done.invariant on.0 on.1 c.block-b.ensures c.onward-g.ensures.few c.onward-g.ensures.noted)

pub line-returns : goal.line-returns
line-returns t c =
    let turned = c.loop-done.invariant in
    let stop = line_stops c.loop-done.invariant c.loop-done-test.false in
    let some = c.if-n-eq0.false in
    through_turns _ _ _ _ _ _ _ _ (sym c.in-Some.ensures) turned.begun turned.within
    (all_turns_lem turned stop c.requires.1) (λ g. then_next turned stop (omega arith) g)
