-- What a session with repeats answers, and what comes of it window by window.
use Rattle.std.specs.Prelude.{◌≡◌, List, ◌⊎◌, ℕ, ◌*◌, ◌<◌, ◌≤◌, length, take, drop, Result, Ok, Err}
use Rattle.lines.specs.Lines.{lines_of}
use Rattle.lines.specs.Places.{line_at, lines_at, cut_of}
use Rattle.lines.specs.Written.{Written}
use Rattle.replies.specs.Replies.{refusal_line}
use Rattle.marks.specs.Refusals.{number_of}
use Rattle.marks.specs.declared.Refusal.{Refusal}
use Rattle.blocks.specs.Blocks.{itself, written_out}
use Rattle.blocks.specs.Judged.{refusal_of}
use Rattle.session.specs.Steps.{power_up}
use Rattle.session.specs.Sessions.{next_all, says_all}
use Rattle.session.specs.declared.Bench.{Bench}
use Rattle.unrolled.specs.declared.Begun.{Begun}
use Rattle.unrolled.specs.declared.Begun.TheVariants.{NoRoom, Told, Lines}
use Rattle.unrolled.specs.declared.Gone.{Gone}

-- whether a file is accepted, or why it is refused; and the lines that it comes to
unfoldable pub judged : List ℕ → Result (Unit {0}) Refusal
judged s = refusal_of itself (length s) (lines_of s)

unfoldable pub full_of : List ℕ → List (List ℕ)
full_of s = written_out itself (lines_of s)

-- what is written for a whole file: the number alone where it is refused, else the answers of the written-out lines
abbrev pub answer_by : Result (Unit {0}) Refusal → List (List ℕ) → List ℕ
answer_by (Ok u) lines = says_all power_up lines
answer_by (Err r) lines = refusal_line (number_of r)

unfoldable pub answer_of : List ℕ → List ℕ
answer_of s = answer_by (judged s) (full_of s)

-- ---- the beginning

-- what a session with room for it begins with: the number of a refused one is written, and all lines of an accepted one are to be played
abbrev pub Starts : List ℕ → List ℕ → List ℕ → Begun → List ℕ → Type 0
Starts s places out NoRoom out' = ⊥
Starts s places out (Told lines made) out' =
    (lines ≡ length places) × (r : Refusal) × (judged s ≡ Err r) × Written out out' made (refusal_line (number_of r))
Starts s places out (Lines lines) out' = (judged s ≡ Ok tt) × (lines ≡ length places) × (out' ≡ out)

pub record Begins (s table out : List ℕ) (r : Begun) (table' out' : List ℕ) : Type 0 where
  pub fits :
      32768 ≤ length table → 13 ≤ length out
      → Written table table' (length (take (length table) (cut_of s))) (take (length table) (cut_of s))
      × Starts s (take (length table) (cut_of s)) out r out'
  pub misfits : (length table < 32768) ⊎ (length out < 13) → (r ≡ NoRoom) × (table' ≡ table) × (out' ≡ out)

-- ---- a window

-- the lines of it, of whatever places the table holds
abbrev pub lines_from : List ℕ → List ℕ → ℕ → ℕ → List (List ℕ)
lines_from s table from room = take room (drop from (written_out itself (lines_at s table)))

pub record Goes (b : Bench) (s table : List ℕ) (from : ℕ) (places out : List ℕ) (r : Gone) (places' out' : List ℕ) : Type 0 where
  pub fits :
      13 * length places ≤ length out
      → (r.played.bench ≡ next_all b (lines_from s table from (length places)))
      × Written out out' r.played.made (says_all b (lines_from s table from (length places)))
      × (r.lines ≡ length (lines_from s table from (length places)))
      × Written places places' r.lines (take (length places) (drop from (written_out (line_at s) table)))
  pub short :
      length out < 13 * length places
      → (r ≡ record { lines = 0; played = record { bench = b; made = 0 } }) × (places' ≡ places) × (out' ≡ out)
