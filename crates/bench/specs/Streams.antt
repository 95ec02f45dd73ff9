-- An input whose bytes are known, and an output that is known to hold some: what a turn, and all turns, do to both.
use Rattle.std.specs.Prelude.{◌≡◌, true, List, [], ℕ, ◌≤◌, length, take, Option, None, Some, IfSome}
use Rattle.std.specs.Io.KnownBytes.{Keeps, Appends, Consumes, IsAtEnd}
use Rattle.session.specs.Pieces.{Held}
use Rattle.turns.specs.Turns.{Came, outcome, holding}
use Rattle.bench.specs.declared.Turn.{Turn}
use Rattle.bench.specs.declared.Cut.{Cut}
use Rattle.bench.specs.declared.Cut.TheVariants.{Failed, Counted}

-- what a read does to the input, by what it brought: a piece comes off it, an empty one only at its end. One that failed took nothing.
abbrev pub Brought : Option (List ℕ) → Option (List ℕ) → Came → Type 0
Brought input input' None = Keeps input input'
Brought input input' (Some p) = Consumes input input' p × (p ≡ [] → IsAtEnd input')

-- a turn, from what is held: what it brought came off the input, what comes of that is held then, and once all is written the output
-- has grown by the answers
pub record Streams (h : Held) (input input' output output' : Option (List ℕ)) (t : Turn) (buf' : List ℕ) : Type 0 where
  pub came : Came
  pub brought : Brought input input' came
  pub holds : holding t.went.bench (take t.went.kept buf') ≡ (outcome h came).holds
  pub more : t.went.more ≡ (outcome h came).more
  pub ended : t.read ≡ Some 0 → came ≡ Some []
  pub answers : t.written ≡ true → Appends output output' (outcome h came).text

-- each turn that was counted took a byte at least off the input, so a shorter input is not cut for their number
abbrev pub LongEnough : Option (List ℕ) → Cut → Type 0
LongEnough input Failed = Unit {0}
LongEnough input (Counted n) = IfSome input (λ s. n ≤ length s)
