-- What holds of sessions with repeats on the bench. proofs/Demands.antt has a proof of each statement, under its name in small letters.
use Rattle.std.specs.Prelude.{◌≡◌, List, [], ◌∷◌, ◌++◌, ℕ, ◌+◌, ◌≤◌, length, take, Ok, Err}
use Rattle.lines.specs.Lines.{lines_of, file_of}
use Rattle.lines.specs.Places.{cut_of}
use Rattle.replies.specs.Replies.{refusal_line}
use Rattle.marks.specs.Refusals.{number_of}
use Rattle.marks.specs.declared.Refusal.{Refusal}
use Rattle.marks.specs.declared.Refusal.TheVariants.{FileTooLong, TooDeep, Unmatched, TooManyLines}
use Rattle.blocks.specs.Demands.{Plain}
use Rattle.session.specs.Steps.{power_up}
use Rattle.session.specs.Sessions.{next_all, says_all, session}
use Rattle.session.specs.declared.Bench.{Bench}
use Rattle.unrolled.specs.Windows.{judged, full_of, answer_of, Begins, lines_from, Goes}
use Rattle.unrolled.specs.declared.Begun.{Begun}
use Rattle.unrolled.specs.declared.Begun.TheVariants.{NoRoom, Told, Lines}
use Rattle.unrolled.specs.declared.Gone.{Gone}

-- an accepted file gets the answers that the bench gives to the file of its written-out lines
abbrev pub AnswersAsWrittenOut : Type 0
AnswersAsWrittenOut = (s : List ℕ) → judged s ≡ Ok tt → answer_of s ≡ session (file_of (full_of s))

-- for a refused one its number is the only line
abbrev pub NumberAlone : Type 0
NumberAlone = (s : List ℕ) (r : Refusal) → judged s ≡ Err r → answer_of s ≡ refusal_line (number_of r)

-- a file in which no line opens or closes a repeat answers as the bench answers it
abbrev pub AnswersAsBench : Type 0
AnswersAsBench = (s : List ℕ) → Plain (lines_of s) → length s ≤ 32768 → (judged s ≡ Ok tt) × (answer_of s ≡ session s)

-- what windows of these sizes write, one behind the other from a line on, each on the bench that the one before it left
abbrev pub by_windows : List ℕ → Bench → ℕ → List ℕ → List ℕ
by_windows s b from [] = []
by_windows s b from (n ∷ ns) =
    says_all b (lines_from s (cut_of s) from n)
    ++ by_windows s (next_all b (lines_from s (cut_of s) from n)) (from + length (lines_from s (cut_of s) from n)) ns

abbrev pub sum : List ℕ → ℕ
sum [] = 0
sum (n ∷ ns) = n + sum ns

-- of an accepted file the windows write the whole answer, whatever their sizes, once they have room for all lines
abbrev pub WindowsAnswer : Type 0
WindowsAnswer =
    (s sizes : List ℕ) → judged s ≡ Ok tt → length (full_of s) ≤ sum sizes → by_windows s power_up 0 sizes ≡ answer_of s

-- with buffers that are large enough `begin` writes the whole answer of a refused file; of an accepted one it leaves the table that the
-- windows go by
abbrev pub BeginAnswers : Type 0
BeginAnswers =
    (s table out table' out' : List ℕ) (r : Begun) → 32768 ≤ length table → 13 ≤ length out → Begins s table out r table' out'
    → ((lines made : ℕ) → r ≡ Told lines made → take made out' ≡ answer_of s)
    × ((lines : ℕ) → r ≡ Lines lines → (judged s ≡ Ok tt) × (take lines table' ≡ cut_of s))
    × (r ≡ NoRoom → ⊥)

-- the numbers as they are written: 1A, 1B, 1C and 1D
abbrev pub NumbersSaid : Type 0
NumbersSaid =
    (refusal_line (number_of FileTooLong) ≡ 49 ∷ 65 ∷ 10 ∷ [])
    × (refusal_line (number_of TooDeep) ≡ 49 ∷ 66 ∷ 10 ∷ [])
    × (refusal_line (number_of Unmatched) ≡ 49 ∷ 67 ∷ 10 ∷ [])
    × (refusal_line (number_of TooManyLines) ≡ 49 ∷ 68 ∷ 10 ∷ [])

-- any two results that a promise allows coincide, the buffers among them
abbrev pub BeginsOne : Type 0
BeginsOne =
    (s table out x y u v : List ℕ) (r q : Begun) → Begins s table out r x u → Begins s table out q y v → (r ≡ q) × (x ≡ y) × (u ≡ v)

abbrev pub GoesOne : Type 0
GoesOne =
    (b : Bench) (s table : List ℕ) (from : ℕ) (places out x y u v : List ℕ) (r q : Gone) → Goes b s table from places out r x u
    → Goes b s table from places out q y v → (r ≡ q) × (x ≡ y) × (u ≡ v)
