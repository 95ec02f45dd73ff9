use borrow.Author.Rules.{rules}
use mathlib.Core.Path.{sym}
use native.Mathlib.Omega.{arith}
use Rattle.clocks.specs.Bits.{bit}
use Rattle.clocks.proofs.Bits.{bit_high}
use Rattle.clocks.proofs.bit.Goals as goal

pub returns-then-k-lt8 : goal.returns-then-k-lt8
unfolding bit
returns-then-k-lt8 c = search rules

pub returns-else-k-lt8 : goal.returns-else-k-lt8
returns-else-k-lt8 c = sym (bit_high 8 c.args.k c.args.x (omega arith) c.if-k-lt8.false)
