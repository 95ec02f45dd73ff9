-- What holds of the lines of every file. proofs/Demands.antt has a proof of each statement, under its name in small letters.
use Rattle.std.specs.Prelude.{◌≡◌, List, [], ◌∷◌, ◌++◌, ℕ, ◌+◌, ◌-◌, ◌<◌, ◌≤◌, length, take, drop}
use Rattle.lines.specs.Lines.{ended, open_line, lines_of, file_of, Quiet, Quiets, end_from}
use Rattle.lines.specs.Keeps.{Keeps}
use Rattle.lines.specs.Written.{Written}
use Rattle.lines.specs.Places.{lines_at, cut_of}

-- the finished lines, each with its LF, and the open line are the whole file; no line has an LF in it
abbrev pub Whole : Type 0
Whole = (s : List ℕ) → file_of (ended [] s) ++ open_line [] s ≡ s

abbrev pub LinesQuiet : Type 0
LinesQuiet = (s : List ℕ) → Quiets (ended [] s) × Quiet (open_line [] s)

-- and there is no other way to cut a file so
abbrev pub OneWay : Type 0
OneWay =
    (ls : List (List ℕ)) (o : List ℕ) → Quiets ls → Quiet o
    → (ended [] (file_of ls ++ o) ≡ ls) × (open_line [] (file_of ls ++ o) ≡ o)

-- a file may be cut anywhere: its lines are those of the first part, and then those of the second behind what the first left open
abbrev pub CutAnywhere : Type 0
CutAnywhere =
    (a b : List ℕ)
    → (ended [] (a ++ b) ≡ ended [] a ++ ended [] (open_line [] a ++ b))
    × (open_line [] (a ++ b) ≡ open_line [] (open_line [] a ++ b))

-- behind some of its lines a file has the others, and the same open line
abbrev pub LinesLeft : Type 0
LinesLeft =
    (s : List ℕ) (done left : List (List ℕ)) → ended [] s ≡ done ++ left
    → (drop (length (file_of done)) s ≡ file_of left ++ open_line [] s)
    × (ended [] (drop (length (file_of done)) s) ≡ left)
    × (open_line [] (drop (length (file_of done)) s) ≡ open_line [] s)
    × (length (file_of done) ≤ length s)

-- an end that is found is within the file, and ends the line that begins at `from`
abbrev pub EndWithin : Type 0
EndWithin = (s : List ℕ) (from : ℕ) → (end_from s from ≤ length s) × (from ≤ length s → from ≤ end_from s from)

abbrev pub EndFound : Type 0
EndFound =
    (s : List ℕ) (from : ℕ) → end_from s from < length s
    → ended [] (drop from s) ≡ take (end_from s from - from) (drop from s) ∷ ended [] (drop (end_from s from + 1) s)

-- where none is found, no line is finished from there on
abbrev pub EndMissing : Type 0
EndMissing =
    (s : List ℕ) (from : ℕ) → end_from s from ≡ length s
    → (ended [] (drop from s) ≡ []) × (open_line [] (drop from s) ≡ drop from s)

-- the first line of a file, and the others
abbrev pub FirstLine : Type 0
FirstLine =
    (s : List ℕ) → end_from s 0 < length s
    → ended [] s ≡ take (end_from s 0) s ∷ ended [] (drop (end_from s 0 + 1) s)

-- at the places of a text's lines are its lines; there are no more of them than it has bytes
abbrev pub CutLines : Type 0
CutLines = (s : List ℕ) → length s ≤ 65535 → lines_at s (cut_of s) ≡ lines_of s

abbrev pub CutCount : Type 0
CutCount = (s : List ℕ) → length (cut_of s) ≤ length s

-- any two results that a promise about a buffer allows coincide, all of the buffer among them
abbrev pub WrittenOne : Type 0
WrittenOne = (out x y t : List ℕ) (m k : ℕ) → Written out x m t → Written out y k t → (x ≡ y) × (m ≡ k)

-- any two results that the promise of `keep` allows coincide, all of the buffer among them
abbrev pub KeepsOne : Type 0
KeepsOne = (buf x y : List ℕ) (used n most k j : ℕ) → Keeps buf x used n most k → Keeps buf y used n most j → (x ≡ y) × (k ≡ j)
