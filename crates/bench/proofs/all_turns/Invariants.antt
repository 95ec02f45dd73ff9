use Rattle.std.proofs.Common.{◌≡◌, take}
use Rattle.turns.specs.Turns.{holding}
use Rattle.bench.proofs.Turning.{Going}
use Rattle.bench.proofs.Streaming.{Open}
use Rattle.bench.proofs.all_turns.Given as goal

abbrev pub invariant-loop-turn : goal.invariant-loop-turn
invariant-loop-turn g l =
    record {
      turned : Going l.buf l.out l.bench l.kept l.turn;
      flow : Open (g.R.Read.remaining l.fn.pipes.input) (g.R.Read.remaining l.pipes.input) (g.W.Write.contents l.fn.pipes.output)
          (g.W.Write.contents l.pipes.output) (holding l.bench (take l.kept l.buf)) l.turn;
      counted : l.turns ≡ l.turn;
    }
