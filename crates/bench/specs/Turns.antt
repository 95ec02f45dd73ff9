-- A turn of the program: one read, what comes of it, and the write.
use Rattle.std.specs.Prelude.{◌≡◌, Bool, true, false, ◌&&◌, List, ℕ, zero, suc, ◌+◌, ◌≤◌, length, take, Some, Result, Ok, Err}
use Rattle.session.specs.Pieces.{Held, at_start}
use Rattle.turns.specs.Turns.{outcome, bytes_of, brought, holding, Shows, Reached}
use Rattle.bench.specs.declared.Turn.{Turn}
use Rattle.bench.specs.declared.Cut.{Cut}
use Rattle.bench.specs.declared.Cut.TheVariants.{Failed, Counted}

-- what a whole turn is, from what is held: the read put as many bytes as it says behind what is kept, and what they come to is shown.
-- Which bytes those are is said by Streams, where the input's are known; of standard input no contract can say it.
pub record Turned (h : Held) (kept : ℕ) (out : List ℕ) (t : Turn) (buf' out' : List ℕ) : Type 0 where
  pub buf : List ℕ
  pub front : take kept buf ≡ h.kept
  pub room : kept + bytes_of t.read ≤ length buf
  pub shows : Shows (outcome h (brought t.read kept buf)) buf out t.went buf' out'

-- a turn from what is held, with its buffers
pub record Taken (from : Held) : Type 0 where
  pub kept : ℕ
  pub out : List ℕ
  pub turn : Turn
  pub buf' : List ℕ
  pub out' : List ℕ
  pub turned : Turned from kept out turn buf' out'

-- whether a turn lets more come and has all written
abbrev pub on : Turn → Bool
on t = t.went.more && t.written

-- what so many turns from power-up leave, each of which lets more come and has all written
unfoldable pub After : ℕ → Held → Type 0
After zero h = h ≡ at_start
After (suc n) h = (from : Held) × After n from × (t : Taken from) × (on t.turn ≡ true) × (h ≡ holding t.turn.went.bench (take t.turn.went.kept t.buf'))

-- a turn after which the program stops: no more may come, or not all was written
pub record Stops : Type 0 where
  pub from : Held
  pub reached : Reached from
  pub taken : Taken from
  pub stopped : on taken.turn ≡ false

-- the turns end with such a turn, or where as many were made as 64 bits can count; all is well where the last has met the end of the
-- input and has all written. The number is the result's own: for every number there is something that so many turns leave, whatever was
-- run.
abbrev pub Ends : Result (Unit {0}) Cut → Type 0
Ends (Ok u) = (s : Stops) × (s.taken.turn.read ≡ Some 0) × (s.taken.turn.written ≡ true)
Ends (Err Failed) = Stops
Ends (Err (Counted n)) = (n ≡ 18446744073709551615) × (h : Held) × After n h
