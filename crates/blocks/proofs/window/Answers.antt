use native.Mathlib.Omega.{arith}
use Rattle.blocks.proofs.Walks.{walk_sized, shown_by, none_shown}
use Rattle.blocks.proofs.window.Goals as goal

pub returns-then-out-eq0 : goal.returns-then-out-eq0
returns-then-out-eq0 c = none_shown _ _ c.if-out-eq0.true

pub block-b-requires : goal.block-b-requires
block-b-requires c = let n = c.if-out-eq0.false in (omega arith, omega arith)

pub shape_of-out : goal.shape_of-out
shape_of-out c = walk_sized c.block-b.ensures

pub returns : goal.returns
returns c = shown_by c.block-b.ensures
