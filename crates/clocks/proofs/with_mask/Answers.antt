use mathlib.Core.Path.{sym}
use native.Mathlib.Omega.{arith}
use Rattle.clocks.specs.Bits.{with_set}
use Rattle.clocks.proofs.Bits.{clear_and}
use Rattle.clocks.proofs.with_mask.Goals as goal

pub returns-then-on : goal.returns-then-on
unfolding with_set
returns-then-on c = rw c.if-on.true

pub returns-else-on : goal.returns-else-on
returns-else-on c = rw c.if-on.false (sym (clear_and c.args.mask c.args.x (omega arith) (omega arith)))
