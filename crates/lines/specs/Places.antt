-- Places of lines in a text. A place is where a line begins and where it ends, as one number.
use Rattle.std.specs.Prelude.{List, [], ◌∷◌, ℕ, ◌+◌, ◌-◌, ◌*◌, ◌/◌, ◌%◌, leb, length, take, drop, if◌then◌else◌}
use Rattle.lines.specs.Lines.{lines_of}

abbrev pub placed : ℕ → ℕ → ℕ
placed at end = end * 65536 + at

-- the line at a place: as much of it as the text has
unfoldable pub line_at : List ℕ → ℕ → List ℕ
line_at s p = take (p / 65536 - p % 65536) (drop (p % 65536) s)

abbrev pub lines_at : List ℕ → List ℕ → List (List ℕ)
lines_at s [] = []
lines_at s (p ∷ ps) = line_at s p ∷ lines_at s ps

-- the places of some lines of which the first begins at a, with an LF between one and the next
abbrev pub places_from : ℕ → List (List ℕ) → List ℕ
places_from a [] = []
places_from a (l ∷ ls) = placed a (a + length l) ∷ places_from (a + length l + 1) ls

-- the places of a text's lines; a text of more than 65535 bytes has none
unfoldable pub cut_of : List ℕ → List ℕ
cut_of s = if leb (length s) 65535 then places_from 0 (lines_of s) else []
