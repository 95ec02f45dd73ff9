use Rattle.std.proofs.Common.{◌-◌, ◌≤◌, ◌≡◌, length, take}
use Rattle.std.specs.Io.KnownBytes.{Consumes}
use Rattle.repeats.proofs.input.Given as goal

abbrev pub invariant-loop-n : goal.invariant-loop-n
invariant-loop-n g l =
    record {
      within : l.n ≤ length l.buf;
      bytes : Consumes (g.R.Read.remaining l.fn.pipes.input) (g.R.Read.remaining l.pipes.input) (take l.n l.buf);
      output : l.pipes.output ≡ l.fn.pipes.output;
    }

abbrev pub decreases-loop-n : goal.decreases-loop-n
decreases-loop-n g l = length l.buf - l.n
