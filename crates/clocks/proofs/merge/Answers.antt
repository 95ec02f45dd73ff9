use borrow.Author.Rules.{rules}
use Rattle.clocks.specs.Bits.{merge}
use Rattle.clocks.proofs.merge.Goals as goal

pub returns : goal.returns
unfolding merge
returns c = search rules
