use Rattle.replies.proofs.Texts.{then_two}
use Rattle.std.proofs.Common.{arith, length-set}
use Rattle.replies.proofs.puts.put_bytes.Goals as goal

pub loop-i-preserved : goal.loop-i-preserved
loop-i-preserved c =
    let l = c.loop-i.invariant in
    record {
      within = omega arith;
      room = simp length-set l.room;
      so_far = then_two _ _ _ _ _ l.so_far (omega arith) (omega arith) c.digit.ensures c.digit-in-loop-i.ensures;
    }
