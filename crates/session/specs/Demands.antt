-- What the demands ask of sessions. proofs/Demands.antt has a proof of each statement, under its name in small letters.
use Rattle.std.specs.Prelude.{◌≡◌, ◌↔◌, List, [], ◌++◌, ℕ, ◌+◌, ◌*◌, ◌<◌, ◌≤◌, length, take, drop, None}
use Rattle.frames.specs.Frames.{frame_of}
use Rattle.calls.specs.declared.Refusal.TheVariants.{IllFormed, NoFrame}
use Rattle.replies.specs.declared.Reply.TheVariants.{Refused}
use Rattle.chips.specs.Chips.{Reached}
use Rattle.via6522.specs.Chip as Chip22
use Rattle.tpi6525.specs.Chip as Chip25
use Rattle.riot6532.specs.Chip as Chip32
use Rattle.crtc6545.specs.Chip as Chip45
use Rattle.session.specs.Steps.{power_up, step_of}
use Rattle.lines.specs.Lines.{ended, open_line, lines_of, joined}
use Rattle.lines.specs.Keeps.{Keeps}
use Rattle.session.specs.Sessions.{next_all, says_all, session}
use Rattle.session.specs.Pieces.{takes, Feeds, Finishes, Plays, at_start, written_for, Piece}
use Rattle.session.specs.declared.Bench.{Bench}
use Rattle.session.specs.declared.Fed.{Fed}
use Rattle.session.specs.declared.Played.{Played}

-- however a file is cut into pieces, what is written for them is what is written for the whole file, though of a line that goes on
-- at most 33 bytes are kept
abbrev pub AnyCut : Type 0
AnyCut = (pieces : List (List ℕ)) → written_for at_start pieces ≡ session (joined pieces)

-- what was taken and what is left come to the whole: the answers, the bench, and the open line
abbrev pub TakingGoesOn : Type 0
TakingGoesOn =
    (room : ℕ) (b : Bench) (s : List ℕ)
    → (says_all b (ended [] s)
    ≡ (takes room b (ended [] s)).text
    ++ says_all (takes room b (ended [] s)).bench (ended [] (drop (takes room b (ended [] s)).used s)))
    × (next_all b (ended [] s)
    ≡ next_all (takes room b (ended [] s)).bench (ended [] (drop (takes room b (ended [] s)).used s)))
    × (open_line [] s ≡ open_line [] (drop (takes room b (ended [] s)).used s))

-- where 13 bytes are free and a whole line is there, something is taken
abbrev pub MakesProgress : Type 0
MakesProgress =
    (room : ℕ) (b : Bench) (s : List ℕ) → 13 ≤ room → (ended [] s ≡ [] → ⊥) → 0 < (takes room b (ended [] s)).used

-- three bytes of room for each of the input, and 13 more, are room for all its answers
abbrev pub RoomForAll : Type 0
RoomForAll =
    (room : ℕ) (b : Bench) (s : List ℕ) → 3 * length s + 13 ≤ room
    → ((takes room b (ended [] s)).text ≡ says_all b (ended [] s))
    × ((takes room b (ended [] s)).bench ≡ next_all b (ended [] s))
    × (drop (takes room b (ended [] s)).used s ≡ open_line [] s)

-- what `feed` and then `keep` leave of an input buffer is what a piece leaves, where the output has room for all
abbrev pub FeedAndKeep : Type 0
FeedAndKeep =
    (b : Bench) (buf buf' out out' : List ℕ) (kept n k : ℕ) (fed : Fed)
    → kept ≤ n → n ≤ length buf → 3 * length buf + 13 ≤ length out
    → Feeds b (ended [] (take n buf)) out out' fed → Keeps buf buf' fed.used n 33 k → Piece b buf buf' out out' kept n k fed

-- every chip of the bench is one that calls from power-up reach, whatever lines came: what the demands say of such chips holds in sessions
abbrev pub ChipsReached : Type 0
ChipsReached =
    (ls : List (List ℕ))
    → Reached Chip22.chip (next_all power_up ls).via
    × Reached Chip25.chip (next_all power_up ls).tpi
    × Reached Chip32.chip (next_all power_up ls).riot
    × Reached Chip45.chip (next_all power_up ls).crtc

-- so refusal 1, for an ill-formed record, is given to no line
abbrev pub Never1 : Type 0
Never1 = (ls : List (List ℕ)) (l : List ℕ) → (step_of (next_all power_up ls) (frame_of l)).reply ≡ Refused IllFormed → ⊥

-- refusal 2 is given exactly to a line that is no frame
abbrev pub TwoExact : Type 0
TwoExact = (b : Bench) (l : List ℕ) → ((step_of b (frame_of l)).reply ≡ Refused NoFrame) ↔ (frame_of l ≡ None)

-- one line is written for each line of a file, and nothing after the last one's LF
abbrev pub LineForLine : Type 0
LineForLine = (s : List ℕ) → (length (ended [] (session s)) ≡ length (lines_of s)) × (open_line [] (session s) ≡ [])

-- any two results that a promise about a buffer allows coincide, all of the buffer among them
abbrev pub FeedsOne : Type 0
FeedsOne = (b : Bench) (ls : List (List ℕ)) (out x y : List ℕ) (r t : Fed) → Feeds b ls out x r → Feeds b ls out y t → (x ≡ y) × (r ≡ t)

abbrev pub FinishesOne : Type 0
FinishesOne = (b : Bench) (s out x y : List ℕ) (m k : ℕ) → Finishes b s out x m → Finishes b s out y k → (x ≡ y) × (m ≡ k)

abbrev pub PlaysOne : Type 0
PlaysOne = (b : Bench) (ls : List (List ℕ)) (out x y : List ℕ) (r t : Played) → Plays b ls out x r → Plays b ls out y t → (x ≡ y) × (r ≡ t)
