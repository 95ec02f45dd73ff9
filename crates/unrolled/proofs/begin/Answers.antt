use Rattle.std.proofs.Common.{arith}
use Rattle.unrolled.proofs.Windows.{begins_refused}
use Rattle.unrolled.proofs.begin.Goals as goal

pub returns-in-Err : goal.returns-in-Err
returns-in-Err c =
    begins_refused _ _ _ (omega arith) (omega arith) c.cut-lines.ensures c.refusal.ensures _ c.in-Err.is _ c.number.ensures _ _ c.put_refusal.ensures
