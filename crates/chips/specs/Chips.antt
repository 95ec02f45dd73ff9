-- One theory for all chips of the bench: what makes a chip, its answer to a call, the records that can come up, and the demands on them.
-- Each chip's specs/Chip.antt fills in Chip and Clocked, and where there is a forecast Lined; its specs/Demands.antt asks for Answers and Runs
-- of them, and then for Lines, KeepsWord and LargestForecast.
use Rattle.std.specs.Prelude.{◌≡◌, Bool, true, false, ◌↔◌, ℕ, suc, ◌+◌, ◌-◌, ◌<◌, ◌≤◌, if◌then◌else◌, Option, None, Some}
use Rattle.clocks.specs.Clocks.{after}
use Rattle.clocks.specs.Bits.{gone}
use Rattle.clocks.specs.Forecasts.{comes, shortened}
use Rattle.clocks.specs.declared.Forecast.{Forecast}
use Rattle.clocks.specs.declared.Forecast.TheVariants.{Never, In}
use Rattle.calls.specs.declared.Refusal.{Refusal}
use Rattle.calls.specs.declared.Refusal.TheVariants.{IllFormed, NoFrame}

-- ---- a chip and its answers

-- a chip: its records; its answers; its calls, and which operands are values of their types; power-up; which records are well formed;
-- what a call's operands are refused for, its byte and the next record; what an accepted and a refused call show; and where an answer has
-- its refusal and its record. What a refusal's number is, `calls` says
pub record Chip : Type 1 where
  pub State : Type 0
  pub Answer : Type 0
  pub Call : Type 0
  pub Typed : Call → Type 0
  pub power_up : State
  pub well : State → Bool
  pub asks : Call → State → Option Refusal
  pub gives : Call → State → ℕ
  pub leaves : Call → State → State
  pub accepted : ℕ → State → Answer
  pub refused : Refusal → State → Answer
  pub refusal : Answer → Option Refusal
  pub left : Answer → State

-- document 01's order: refusal 1, for an ill-formed record, precedes the operands' own
abbrev pub first : (C : Chip) → C.Call → C.State → Option Refusal
first C c v = if C.well v then C.asks c v else Some IllFormed

-- the answer to a call, given what it is refused for
abbrev pub answered : (C : Chip) → C.Call → C.State → Option Refusal → C.Answer
answered C c v None = C.accepted (C.gives c v) (C.leaves c v)
answered C c v (Some r) = C.refused r v

unfoldable pub answer : (C : Chip) → C.Call → C.State → C.Answer
answer C c v = answered C c v (first C c v)

-- the record after a call
abbrev pub next : (C : Chip) → C.Call → C.State → C.State
next C c v = C.left (answer C c v)

-- the records that can come up in use: power-up's, and the next one after any typed call on such a record, accepted or refused
pub data Reached (C : Chip) : C.State → Type 0 where
  at_power_up : Reached C C.power_up
  by : {v : C.State} (c : C.Call) → C.Typed c → Reached C v → Reached C (next C c v)

-- ---- demands 1 and 2: what is refused, what is accepted, and which records stay well formed

module _ (C : Chip) where
  -- refusal 1 goes to ill-formed records, for every call, and to them alone
  abbrev pub RefusesIll : Type 0
  RefusesIll = (c : C.Call) (v : C.State) → C.well v ≡ false → answer C c v ≡ C.refused IllFormed v

  abbrev pub OneOnlyIll : Type 0
  OneOnlyIll = (c : C.Call) (v : C.State) → C.refusal (answer C c v) ≡ Some IllFormed → C.well v ≡ false

  -- 2 is not a chip's to give: it is for a line of a session that is no call
  abbrev pub Never2 : Type 0
  Never2 = (c : C.Call) (v : C.State) → C.refusal (answer C c v) ≡ Some NoFrame → ⊥

  -- a well-formed one is refused for what the operands are refused for, and accepted where they are not
  abbrev pub RefusesOperands : Type 0
  RefusesOperands =
      (c : C.Call) (v : C.State) (r : Refusal) → C.well v ≡ true → C.asks c v ≡ Some r → answer C c v ≡ C.refused r v

  abbrev pub AcceptsWell : Type 0
  AcceptsWell =
      (c : C.Call) (v : C.State) → C.well v ≡ true → C.asks c v ≡ None → answer C c v ≡ C.accepted (C.gives c v) (C.leaves c v)

  -- a refused call shows its refusal and nothing else, and hands the record back
  abbrev pub RefusedLeaves : Type 0
  RefusedLeaves =
      (c : C.Call) (v : C.State) (r : Refusal) → C.refusal (answer C c v) ≡ Some r → answer C c v ≡ C.refused r v

  -- power-up is well formed, an accepted call leaves a well-formed record, and so does every list of calls
  abbrev pub PowerUpWell : Type 0
  PowerUpWell = C.well C.power_up ≡ true

  abbrev pub KeepsWell : Type 0
  KeepsWell = (c : C.Call) (v : C.State) → C.Typed c → C.refusal (answer C c v) ≡ None → C.well (next C c v) ≡ true

  abbrev pub ReachedWell : Type 0
  ReachedWell = (v : C.State) → Reached C v → C.well v ≡ true

  pub record Answers : Type 0 where
    pub refuses_ill : RefusesIll
    pub one_only_ill : OneOnlyIll
    pub never_2 : Never2
    pub refuses_operands : RefusesOperands
    pub accepts_well : AcceptsWell
    pub refused_leaves : RefusedLeaves
    pub power_up_well : PowerUpWell
    pub keeps_well : KeepsWell
    pub reached_well : ReachedWell

-- ---- demand 3: runs

-- a chip that is clocked: the rule for one clock, the call for a run of n clocks, of which a single clock is the run of 1, and the
-- longest run that is accepted
pub record Clocked (C : Chip) : Type 0 where
  pub rule : C.State → C.State
  pub run : ℕ → C.Call
  pub longest : ℕ

module _ (C : Chip) (T : Clocked C) where
  -- what an entry promises that gives the answer r to a run of n clocks
  abbrev pub Ran : C.State → ℕ → C.Answer → Type 0
  Ran v n r = r ≡ answer C (T.run n) v

  -- a single clock is one turn of the rule
  abbrev pub ClockTurns : Type 0
  ClockTurns = (v : C.State) → C.well v ≡ true → answer C (T.run 1) v ≡ C.accepted 0 (T.rule v)

  -- a run leaves what as many single clocks leave
  abbrev pub RunSingle : Type 0
  RunSingle = (n : ℕ) (v : C.State) → n ≤ T.longest → next C (T.run n) v ≡ after n (next C (T.run 1)) v

  -- its answer, lines and all, is that of the last of them; a run of 0 shows a well-formed record as it is
  abbrev pub RunShows : Type 0
  RunShows =
      (n : ℕ) (v : C.State) → suc n ≤ T.longest → answer C (T.run (suc n)) v ≡ answer C (T.run 1) (after n (next C (T.run 1)) v)

  abbrev pub RunOfNone : Type 0
  RunOfNone = (v : C.State) → answer C (T.run 0) v ≡ (if C.well v then C.accepted 0 v else C.refused IllFormed v)

  -- a clocks and then b leave what a + b leave, and the last answer shows the same lines
  abbrev pub RunsAdd : Type 0
  RunsAdd =
      (v : C.State) (a b : ℕ) (r s t : C.Answer) → a + b ≤ T.longest
      → Ran v a r → Ran (C.left r) b s → Ran v (a + b) t → s ≡ t

  pub record Runs : Type 0 where
    pub clock_turns : ClockTurns
    pub run_single : RunSingle
    pub run_shows : RunShows
    pub run_of_none : RunOfNone
    pub runs_add : RunsAdd

-- ---- demand 3: the interrupt line and its forecast

-- a chip with an interrupt line: whether the record has it asserted, what that means in flags and enables, where an answer shows it,
-- the call for a forecast, and the largest forecast of a reached record
pub record Lined (C : Chip) : Type 1 where
  pub irq : C.State → Bool
  pub Raised : C.State → Type 0
  pub asserted : C.Answer → Bool
  pub forecast : C.Call
  pub largest : ℕ

module _ (C : Chip) (T : Clocked C) (L : Lined C) where
  -- whether the line is asserted after k clocks, pins still and no access
  abbrev pub line : ℕ → C.State → Bool
  line k v = L.irq (after k T.rule v)

  -- what an entry promises that gives the forecast f and the answer r: no change of the record, and the truth about the line after any k clocks;
  -- a refused one says 0
  pub record Foretold (v : C.State) (f : Forecast) (r : C.Answer) : Type 0 where
    pub answered : r ≡ answer C L.forecast v
    pub told : C.well v ≡ true → (k : ℕ) → line k v ≡ comes f k
    pub refused : C.well v ≡ false → f ≡ In 0

  -- the line is asserted exactly when an enabled flag is set: in a reached record, and in an accepted answer
  abbrev pub LineOfRecord : Type 0
  LineOfRecord = (v : C.State) → Reached C v → (L.irq v ≡ true) ↔ L.Raised v

  abbrev pub LineExact : Type 0
  LineExact =
      (c : C.Call) (v : C.State) → C.Typed c → Reached C v → C.refusal (answer C c v) ≡ None
      → (L.asserted (answer C c v) ≡ true) ↔ L.Raised (next C c v)

  -- the forecast is the least number of clocks, 0 included, after which the line is asserted; never exactly when no number would do
  abbrev pub ForecastLeast : Type 0
  ForecastLeast =
      (v : C.State) (f : Forecast) (r : C.Answer) (d : ℕ) → Reached C v → Foretold v f r → f ≡ In d
      → (line d v ≡ true) × ((j : ℕ) → j < d → line j v ≡ false)

  abbrev pub ForecastNever : Type 0
  ForecastNever =
      (v : C.State) (f : Forecast) (r : C.Answer) → Reached C v → Foretold v f r → (f ≡ Never) ↔ ((j : ℕ) → line j v ≡ false)

  -- a forecast hands back the record that it was given
  abbrev pub ForecastLeaves : Type 0
  ForecastLeaves = (v : C.State) (f : Forecast) (r : C.Answer) → Foretold v f r → C.left r ≡ v

  -- any two forecasts that the promise allows coincide, and so do their answers
  abbrev pub ForecastOne : Type 0
  ForecastOne = (v : C.State) (f g : Forecast) (r s : C.Answer) → Foretold v f r → Foretold v g s → (f ≡ g) × (r ≡ s)

  pub record Lines : Type 0 where
    pub line_of_record : LineOfRecord
    pub line_exact : LineExact
    pub forecast_least : ForecastLeast
    pub forecast_never : ForecastNever
    pub forecast_leaves : ForecastLeaves
    pub forecast_one : ForecastOne

-- ---- request 14: a forecast keeps its word. The record may be any, well formed or not, except where it has to be reached

module _ (C : Chip) (T : Clocked C) (L : Lined C) where
  -- three calls with nothing between them, each on the record that the one before gave back, and what their entries promise: a forecast f,
  -- a run of m clocks, a forecast g
  pub record Retold (v : C.State) (f : Forecast) (m : ℕ) (g : Forecast) : Type 0 where
    pub before : C.Answer
    pub ran : C.Answer
    pub later : C.Answer
    pub foretold : Foretold C T L v f before
    pub at_most : m ≤ T.longest
    pub run : Ran C T (C.left before) m ran
    pub again : Foretold C T L (C.left ran) g later

  -- a run of m clocks takes m from a forecast of at least as many
  abbrev pub ForecastKeeps : Type 0
  ForecastKeeps = (v : C.State) (f g : Forecast) (k m : ℕ) → Retold v f m g → f ≡ In k → m ≤ k → g ≡ In (k - m)

  -- what is never asserted is never asserted after any run either
  abbrev pub NeverStays : Type 0
  NeverStays = (v : C.State) (f g : Forecast) (m : ℕ) → Retold v f m g → f ≡ Never → g ≡ Never

  -- both by one equation; after a longer run than was forecast it is 0
  abbrev pub ForecastShortened : Type 0
  ForecastShortened = (v : C.State) (f g : Forecast) (m : ℕ) → Retold v f m g → g ≡ shortened m f

  pub record KeepsWord : Type 0 where
    pub forecast_keeps : ForecastKeeps
    pub never_stays : NeverStays
    pub forecast_shortened : ForecastShortened

  -- no forecast of a reached record is above n, unless it is never; one of them is n
  abbrev pub Bounded : ℕ → Type 0
  Bounded n = (v : C.State) (f : Forecast) (r : C.Answer) (d : ℕ) → Reached C v → Foretold C T L v f r → f ≡ In d → d ≤ n

  abbrev pub Attained : ℕ → Type 0
  Attained n = (v : C.State) × (r : C.Answer) × Reached C v × Foretold C T L v (In n) r

  -- both are so of the number that is called the largest, and of no other
  abbrev pub ForecastBound : Type 0
  ForecastBound = Bounded L.largest

  abbrev pub ForecastAttained : Type 0
  ForecastAttained = Attained L.largest

  abbrev pub LargestOne : Type 0
  LargestOne = (n : ℕ) → Bounded n → Attained n → n ≡ L.largest

  pub record LargestForecast : Type 0 where
    pub forecast_bound : ForecastBound
    pub forecast_attained : ForecastAttained
    pub largest_one : LargestOne

-- ---- request 03: what a call cleared

-- the mask of the flags that are set before a call and clear after it; `flags` gives those of a record in one byte
abbrev pub cleared_by : (C : Chip) → (C.State → ℕ) → C.Call → C.State → ℕ
cleared_by C flags c v = gone (flags v) (flags (next C c v))
