-- What request 13 asks beyond the promises of the two functions. proofs/Demands.antt has a proof of each statement, under its name in small letters.
use Rattle.std.specs.Prelude.{◌≡◌, true, ℕ, Result, ⊤}
use Rattle.calls.specs.declared.Refusal.{Refusal}
use Rattle.clocks.specs.Clocks.{after}
use Rattle.timers.specs.Pair as Pair
use Rattle.timers.specs.declared.Timers.{Timers}
use Rattle.calls.specs.declared.Call22.TheVariants.{Run}
use Rattle.chips.specs.Chips.{next}
use Rattle.via6522.specs.Record.{well_formed}
use Rattle.via6522.specs.Clock.{timers_of}
use Rattle.via6522.specs.Chip.{chip}
use Rattle.via6522.specs.declared.Via.{Via}
use Rattle.lent.specs.Lent.{number_in, outcome, lent, clock_pair, run_pair}

-- the pair after one call of `clock_pair`
abbrev pub clocked_once : Timers → Timers
clocked_once p = (clock_pair p).pair

-- n calls of `clock_pair` and one `run_pair` of n end with the same pair, whatever pair they begin with
abbrev pub ClocksAreARun : Type 0
ClocksAreARun = (n : ℕ) (p : Timers) → after n clocked_once p ≡ (run_pair n p).pair

-- every one of those calls gives the number that the run gives
abbrev pub NumbersAgree : Type 0
NumbersAgree = (k n : ℕ) (p : Timers) → (clock_pair (after k clocked_once p)).refusal ≡ (run_pair n p).refusal

-- an accepted pair is accepted again
abbrev pub StaysWellFormed : Type 0
StaysWellFormed = (n : ℕ) (p : Timers) → Pair.well_formed p ≡ true → Pair.well_formed (run_pair n p).pair ≡ true

-- whatever the number of either function is but 0, it is 1 and the pair is the one that was lent
abbrev pub RefusedUntouched : Type 0
RefusedUntouched = (rule : Timers → Timers) (p : Timers) → ((lent rule p).refusal ≡ 0 → ⊥) → lent rule p ≡ outcome 1 p

-- take the pair out of a well-formed 6522 and run it by itself, or run the 6522 and then take it out: it is one pair
abbrev pub PairOfThe6522 : Type 0
PairOfThe6522 = (n : ℕ) (v : Via) → well_formed v ≡ true → run_pair n (timers_of v) ≡ outcome 0 (timers_of (next chip (Run n) v))

-- and so for one clock, which for the 6522 is a run of 1
abbrev pub PairOfThe6522Once : Type 0
PairOfThe6522Once = (v : Via) → well_formed v ≡ true → clock_pair (timers_of v) ≡ outcome 0 (timers_of (next chip (Run 1) v))

-- the number settles what a call gives back
abbrev pub ResultOne : Type 0
ResultOne = (r s : Result ⊤ Refusal) → number_in r ≡ number_in s → r ≡ s
