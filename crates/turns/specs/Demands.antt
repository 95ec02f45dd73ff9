-- What holds of turns. proofs/Demands.antt has a proof of each statement, under its name in small letters.
use Rattle.std.specs.Prelude.{◌≡◌, true, List, [], ◌∷◌, ℕ, ◌≤◌, take, Option, Some}
use Rattle.lines.specs.Lines.{joined}
use Rattle.session.specs.Sessions.{session}
use Rattle.session.specs.Pieces.{Held, at_start}
use Rattle.session.specs.declared.Bench.{Bench}
use Rattle.turns.specs.Turns.{Came, outcome, written, holding, Shows, Takes, Reached}
use Rattle.turns.specs.declared.Went.{Went}

-- none of some pieces is empty
abbrev pub Filled : List (List ℕ) → Type 0
Filled [] = Unit {0}
Filled ([] ∷ ps) = ⊥
Filled ((x ∷ p) ∷ ps) = Filled ps

-- reads that bring these pieces, and then the end; nothing is asked of any that come later
abbrev pub reads : List (List ℕ) → List Came → List Came
reads [] later = Some [] ∷ later
reads (p ∷ ps) later = Some p ∷ reads ps later

-- whatever pieces come, and then the end: all that the turns write is the session of all that came
abbrev pub TurnsWriteSession : Type 0
TurnsWriteSession =
    (pieces : List (List ℕ)) (later : List Came) → Filled pieces
    → written at_start (reads pieces later) ≡ session (joined pieces)

-- a turn after which more may come leaves what one more piece leaves, and keeps at most 33 bytes
abbrev pub GoesOn : Type 0
GoesOn =
    (h : Held) (c : Came) (buf out : List ℕ) (t : Went) (buf' out' : List ℕ) → Shows (outcome h c) buf out t buf' out' → t.more ≡ true
    → Reached h → (t.kept ≤ 33) × Reached (holding t.bench (take t.kept buf'))

-- any two results that the promise of `taken` allows coincide, both buffers among them
abbrev pub TakesOne : Type 0
TakesOne =
    (b : Bench) (kept : ℕ) (read : Option ℕ) (buf out x y u v : List ℕ) (t s : Went)
    → Takes b kept read buf out t x u → Takes b kept read buf out s y v → (t ≡ s) × (x ≡ y) × (u ≡ v)
