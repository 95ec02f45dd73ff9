-- A file that comes in pieces, through buffers of any size.
use Rattle.std.specs.Prelude.{ℕ, ◌+◌, ◌-◌, ◌*◌, ◌<◌, ◌≤◌, ◌≡◌, Bool, true, false, List, [], ◌∷◌, ◌++◌, leb, length, take, drop, Option, None, Some, if◌then◌else◌}
use Rattle.session.specs.Steps.{power_up}
use Rattle.lines.specs.Lines.{ended, open_line, last_line}
use Rattle.lines.specs.Written.{Written}
use Rattle.session.specs.Sessions.{next_of, says_of, next_all, says_all}
use Rattle.session.specs.declared.Bench.{Bench}
use Rattle.session.specs.declared.Fed.{Fed}
use Rattle.session.specs.declared.Played.{Played}

-- what some lines come to: the bench after them, the bytes that they are, and what is written for them
pub record Taken : Type 0 where
  pub bench : Bench
  pub used : ℕ
  pub text : List ℕ

-- a line before others: its bytes and its LF, its answer before theirs
abbrev pub before : List ℕ → List ℕ → Taken → Taken
before l x t = record { bench = t.bench; used = length l + 1 + t.used; text = x ++ t.text }

-- as many lines as there is room for: one is taken where 13 bytes are free, which every answer fits
abbrev pub takes : ℕ → Bench → List (List ℕ) → Taken
takes room b [] = record { bench = b; used = 0; text = [] }
takes room b (l ∷ ls) =
    if leb 13 room
    then before l (says_of b l) (takes (room - length (says_of b l)) (next_of b l) ls)
    else record { bench = b; used = 0; text = [] }

-- what is made of some lines with an output buffer: as many as it has room for are taken, and their answers are at its front
pub record Feeds (b : Bench) (ls : List (List ℕ)) (before now : List ℕ) (r : Fed) : Type 0 where
  pub bench : r.bench ≡ (takes (length before) b ls).bench
  pub used : r.used ≡ (takes (length before) b ls).used
  pub out : Written before now r.made (takes (length before) b ls).text

-- what `finish` writes for what has come of a last line: its answer where 13 bytes are free, and nothing for an empty one
pub record Finishes (b : Bench) (s before now : List ℕ) (made : ℕ) : Type 0 where
  pub answered : 13 ≤ length before → Written before now made (says_all b (last_line s))
  pub full : length before < 13 → (now ≡ before) × (made ≡ 0)

-- what is made of some lines with 13 bytes for the answer of each: all are played, and their answers are at the front of the output buffer;
-- with less room nothing is done
pub record Plays (b : Bench) (ls : List (List ℕ)) (before now : List ℕ) (r : Played) : Type 0 where
  pub fits : 13 * length ls ≤ length before → (r.bench ≡ next_all b ls) × Written before now r.made (says_all b ls)
  pub short : length before < 13 * length ls → (r.bench ≡ b) × (r.made ≡ 0) × (now ≡ before)

-- ---- the lines of an input

-- those that an LF ends, or all of it as the one line that it is at the end of a file
unfoldable pub lines_in : Bool → List ℕ → List (List ℕ)
lines_in true s = last_line s
lines_in false s = ended [] s

-- the first of them, of what begins at a place, ends at r; else there is none
pub record Ends (whole : Bool) (s : List ℕ) (at : ℕ) (r : Option ℕ) : Type 0 where
  pub found :
      (end : ℕ) → r ≡ Some end
      → (at ≤ end) × (end ≤ length s) × (lines_in whole (drop at s) ≡ take (end - at) (drop at s) ∷ lines_in whole (drop (end + 1) s))
  pub missing : r ≡ None → lines_in whole (drop at s) ≡ []

-- ---- a file cut into pieces

-- what goes from one piece to the next: the bench, and the start of a line whose LF is still to come, 33 bytes at most
pub record Held : Type 0 where
  pub bench : Bench
  pub kept : List ℕ

abbrev pub at_start : Held
at_start = record { bench = power_up; kept = [] }

-- what is held after a piece, and what is written for it
abbrev pub held : Held → List ℕ → Held
held h piece =
    record { bench = next_all h.bench (ended [] (h.kept ++ piece)); kept = take 33 (open_line [] (h.kept ++ piece)) }

abbrev pub wrote : Held → List ℕ → List ℕ
wrote h piece = says_all h.bench (ended [] (h.kept ++ piece))

-- all that is written for a file that comes in these pieces
abbrev pub written_for : Held → List (List ℕ) → List ℕ
written_for h [] = says_all h.bench (last_line h.kept)
written_for h (piece ∷ pieces) = wrote h piece ++ written_for (held h piece) pieces

-- a buffer of n bytes, whose first `kept` are what is held, fed and then kept of: it did what its new bytes do as a piece, and left
-- the rest of both buffers
pub record Piece (b : Bench) (buf buf' out out' : List ℕ) (kept n k : ℕ) (fed : Fed) : Type 0 where
  pub next :
      ◌≡◌ {A = Held} (record { bench = fed.bench; kept = take k buf' })
      (held (record { bench = b; kept = take kept buf }) (drop kept (take n buf)))
  pub within : k ≤ length buf'
  pub beyond : drop k buf' ≡ drop k buf
  pub answers : Written out out' fed.made (wrote (record { bench = b; kept = take kept buf }) (drop kept (take n buf)))
