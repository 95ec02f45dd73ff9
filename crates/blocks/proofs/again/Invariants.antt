use Rattle.blocks.proofs.Copies.{Repeating}
use Rattle.blocks.proofs.again.Given as goal

abbrev pub invariant-loop : goal.invariant-loop
invariant-loop l = Repeating l.initial.out l.used l.size l.out l.to l.counter
