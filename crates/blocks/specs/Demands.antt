-- What holds of sessions with repeats. proofs/Demands.antt has a proof of each statement, under its name in small letters.
use Rattle.std.specs.Prelude.{◌≡◌, true, false, List, [], ◌∷◌, ◌++◌, ◌↔◌, ℕ, ◌+◌, ◌≤◌, max, length, unwrap_or, Ok}
use Rattle.lines.specs.Places.{line_at, lines_at}
use Rattle.marks.specs.Marks.{closes, count_of, opens}
use Rattle.marks.specs.Matches.{match_of}
use Rattle.blocks.specs.Blocks.{itself, times, written_out}
use Rattle.blocks.specs.Judged.{refusal_of}

-- ---- what is meant

-- a session as its writer means it: lines, and blocks of lines that are repeated, each between the line that opens it and the one that
-- closes it
pub data Script : Type 0 where
  end : Script
  line : List ℕ → Script → Script
  block : List ℕ → Script → List ℕ → Script → Script

-- its lines as they are typed, and as they are run
unfoldable pub typed : Script → List (List ℕ)
typed end = []
typed (line l t) = l ∷ typed t
typed (block o b c t) = o ∷ (typed b ++ c ∷ typed t)

unfoldable pub run : Script → List (List ℕ)
run end = []
run (line l t) = l ∷ run t
run (block o b c t) = times (unwrap_or (count_of o) 0) (run b) ++ run t

-- how many blocks stand in one another
unfoldable pub depth : Script → ℕ
depth end = 0
depth (line l t) = depth t
depth (block o b c t) = max (1 + depth b) (depth t)

-- its lines neither open nor close, and the lines around its blocks do
unfoldable pub Formed : Script → Type 0
Formed end = Unit {0}
Formed (line l t) = (closes l ≡ false) × (opens l ≡ false) × Formed t
Formed (block o b c t) = (closes o ≡ false) × (opens o ≡ true) × Formed b × (closes c ≡ true) × Formed t

-- a script up to 4 deep is written out as it is meant, and it is neither too deep nor unmatched
abbrev pub WrittenAsMeant : Type 0
WrittenAsMeant = (t : Script) → Formed t → depth t ≤ 4 → written_out itself (typed t) ≡ run t

abbrev pub MatchesAsMeant : Type 0
MatchesAsMeant = (t : Script) → Formed t → depth t ≤ 4 → match_of itself (typed t) ≡ Ok tt

-- lines of which none opens or closes
unfoldable pub Plain : List (List ℕ) → Type 0
Plain [] = Unit {0}
Plain (l ∷ ls) = (closes l ≡ false) × (opens l ≡ false) × Plain ls

-- what some lines mean: a script that is typed so
abbrev pub Meant : List (List ℕ) → Type 0
Meant ls = (t : Script) × Formed t × (depth t ≤ 4) × (typed t ≡ ls)

-- the lines that are neither too deep nor unmatched are exactly those that mean something
abbrev pub MatchedExact : Type 0
MatchedExact = (ls : List (List ℕ)) → (match_of itself ls ≡ Ok tt) ↔ Meant ls

-- and none of the lines that open or close is written
abbrev pub MarksGone : Type 0
MarksGone = (ls : List (List ℕ)) → match_of itself ls ≡ Ok tt → Plain (written_out itself ls)

-- ---- any session

-- accepted exactly where it is not too long, is matched and not too deep, and has not too many lines
abbrev pub AcceptedExact : Type 0
AcceptedExact =
    (n : ℕ) (ls : List (List ℕ))
    → (refusal_of itself n ls ≡ Ok tt) ↔ ((n ≤ 32768) × (match_of itself ls ≡ Ok tt) × (length (written_out itself ls) ≤ 1000000))

-- lines given as places are written out, and refused, as their texts are
abbrev pub ByPlaces : Type 0
ByPlaces =
    (s ps : List ℕ)
    → (lines_at s (written_out (line_at s) ps) ≡ written_out itself (lines_at s ps))
    × ((n : ℕ) → refusal_of (line_at s) n ps ≡ refusal_of itself n (lines_at s ps))

-- lines of which none opens or closes are their own writing-out, and match
abbrev pub PlainStays : Type 0
PlainStays = (ls : List (List ℕ)) → Plain ls → (written_out itself ls ≡ ls) × (match_of itself ls ≡ Ok tt)
