use Rattle.lines.proofs.Ends.{end_from_is}
use Rattle.lines.proofs.end_from.Goals as goal

pub returns-in-Some : goal.returns-in-Some
returns-in-Some c = end_from_is _ _ _ c.min-from.ensures _ c.in-Some.ensures.place

pub returns-in-None : goal.returns-in-None
returns-in-None c = end_from_is _ _ _ c.min-from.ensures _ c.in-None.ensures.place
