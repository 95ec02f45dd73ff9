use mathlib.Core.Path.{sym}
use native.Mathlib.Omega.{arith}
use Rattle.clocks.proofs.Bits.{shares_and}
use Rattle.clocks.proofs.shares.Goals as goal

pub returns : goal.returns
returns c = sym (shares_and 8 c.args.x c.args.y (omega arith))
