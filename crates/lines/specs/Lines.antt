-- The lines of a file: an LF, which is 10, ends each; what follows the last LF is a line too, unless it is empty.
use Rattle.std.specs.Prelude.{◌≡◌, false, List, [], ◌∷◌, ◌++◌, ℕ, suc, ◌+◌, eqb, leb, length, drop, if◌then◌else◌}

-- the finished lines of s, l being the start of the first one
abbrev pub ended : List ℕ → List ℕ → List (List ℕ)
ended l [] = []
ended l (b ∷ s) = if eqb b 10 then l ∷ ended [] s else ended (l ++ b ∷ []) s

-- and the unfinished one at its end
abbrev pub open_line : List ℕ → List ℕ → List ℕ
open_line l [] = l
open_line l (b ∷ s) = if eqb b 10 then open_line [] s else open_line (l ++ b ∷ []) s

-- at the end of a file that is a line too, unless it is empty
abbrev pub last_line : List ℕ → List (List ℕ)
last_line [] = []
last_line (b ∷ s) = (b ∷ s) ∷ []

abbrev pub lines_of : List ℕ → List (List ℕ)
lines_of s = ended [] s ++ last_line (open_line [] s)

-- the file that some lines are, each with its LF
abbrev pub file_of : List (List ℕ) → List ℕ
file_of [] = []
file_of (l ∷ ls) = l ++ 10 ∷ file_of ls

-- a text without LF, and lines of which none has one
unfoldable pub Quiet : List ℕ → Type 0
Quiet [] = Unit {0}
Quiet (x ∷ l) = (eqb x 10 ≡ false) × Quiet l

unfoldable pub Quiets : List (List ℕ) → Type 0
Quiets [] = Unit {0}
Quiets (l ∷ ls) = Quiet l × Quiets ls

-- a file in pieces
abbrev pub joined : List (List ℕ) → List ℕ
joined [] = []
joined (piece ∷ pieces) = piece ++ joined pieces

-- the place of the first LF; where there is none, the length
abbrev pub end_of : List ℕ → ℕ
end_of [] = 0
end_of (b ∷ s) = if eqb b 10 then 0 else suc (end_of s)

-- and so from a place on
unfoldable pub end_from : List ℕ → ℕ → ℕ
end_from s from = if leb from (length s) then from + end_of (drop from s) else length s
