use Rattle.std.proofs.Common.{◌-◌, ◌≡◌, length, take}
use Rattle.std.specs.Io.KnownBytes.{Appends}
use Rattle.session.specs.Steps.{power_up}
use Rattle.session.specs.Sessions.{says_all}
use Rattle.unrolled.specs.Windows.{full_of}
use Rattle.repeats.proofs.Ends.{Playing}
use Rattle.repeats.proofs.windows.Given as goal

abbrev pub invariant-loop-places : goal.invariant-loop-places
invariant-loop-places g l =
    record {
      playing : Playing l.file l.places (length l.initial.out) l.out l.bench l.played;
      said : Appends (g.W.Write.contents l.fn.pipes.output) (g.W.Write.contents l.pipes.output)
          (says_all power_up (take l.played (full_of l.file)));
      others : l.pipes ≡ record l.fn.pipes { output = l.pipes.output };
    }

abbrev pub decreases-loop-places : goal.decreases-loop-places
decreases-loop-places g l = length (full_of l.file) - l.played
