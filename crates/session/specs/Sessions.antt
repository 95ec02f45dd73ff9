-- A session: what is written for the lines of a file.
use Rattle.std.specs.Prelude.{ℕ, List, [], ◌∷◌, ◌++◌}
use Rattle.lines.specs.Lines.{lines_of}
use Rattle.frames.specs.Frames.{frame_of}
use Rattle.replies.specs.Replies.{render}
use Rattle.session.specs.Steps.{power_up, step_of}
use Rattle.session.specs.declared.Bench.{Bench}

-- what a line leaves of the bench, and what is written for it
unfoldable pub next_of : Bench → List ℕ → Bench
next_of b l = (step_of b (frame_of l)).bench

unfoldable pub says_of : Bench → List ℕ → List ℕ
says_of b l = render (step_of b (frame_of l)).reply

-- and so line by line
abbrev pub next_all : Bench → List (List ℕ) → Bench
next_all b [] = b
next_all b (l ∷ ls) = next_all (next_of b l) ls

abbrev pub says_all : Bench → List (List ℕ) → List ℕ
says_all b [] = []
says_all b (l ∷ ls) = says_of b l ++ says_all (next_of b l) ls

-- what is written for a whole file
unfoldable pub session : List ℕ → List ℕ
session s = says_all power_up (lines_of s)
