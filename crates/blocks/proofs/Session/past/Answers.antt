use Rattle.std.proofs.Common.{sym, rules}
use native.Mathlib.Omega.{arith}
use lib.ListN.{length-take, length-drop}
use Rattle.blocks.proofs.Blocks.{passed, passing_start, passing_close, passing_shut, passing_open, passing_line, passing_end}
use Rattle.blocks.proofs.Session.past.Goals.{then-closes_at+else-depth-eq0, else-closes_at+then-is_some, else-closes_at+else-is_some}
use Rattle.blocks.proofs.Session.past.Goals as goal

pub loop-n-init : goal.loop-n-init
loop-n-init c = passing_start _ _ _

pub returns-then-depth-eq0 : goal.returns-then-depth-eq0
returns-then-depth-eq0 c =
    passed _ _ _ _ _ _ c.requires (omega arith) (passing_shut c.loop-n.invariant c.loop-n-test.true (sym c.if-closes_at.ensures) c.if-depth-eq0.true)

pub overflow_add-depth : goal.overflow_add-depth
overflow_add-depth c =
    let opened = passing_open c.loop-n.invariant c.loop-n-test.true (sym c.if-closes_at.ensures) (rw c.turns_at.ensures at (sym c.if-is_some.ensures)) in
    let level = opened.level in
    search rules

pub loop-n-preserved : goal.loop-n-preserved
loop-n-preserved c =
    let p = c.loop-n.invariant in
    let h = c.loop-n-test.true in
    elim c.if-closes_at.branch [
      | then-closes_at+else-depth-eq0 w ↦ rw w.depth-is (passing_close p h (sym w.if-closes_at.ensures) w.if-depth-eq0.false)
      | else-closes_at+then-is_some w ↦
          rw w.depth-is (passing_open p h (sym w.if-closes_at.ensures) (rw w.turns_at.ensures at (sym w.if-is_some.ensures)))
      | else-closes_at+else-is_some w ↦
          rw w.depth-is (passing_line p h (sym w.if-closes_at.ensures) (rw w.turns_at.ensures at (sym w.if-is_some.ensures)))
    ]

pub returns : goal.returns
returns c =
    passed _ _ _ _ _ _ c.requires (simp (length-take, length-drop) (omega (arith, c.requires))) (passing_end c.loop-n.invariant c.loop-n-test.false)
