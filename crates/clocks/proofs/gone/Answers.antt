use mathlib.Core.Path.{sym}
use native.Mathlib.Omega.{arith}
use Rattle.clocks.proofs.Bits.{clear_and}
use Rattle.clocks.proofs.gone.Goals as goal

pub returns : goal.returns
returns c = sym (clear_and c.args.after c.args.before (omega arith) (omega arith))
