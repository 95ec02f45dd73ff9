-- What the three demands and the requests ask of the 6532 beyond the promise of each entry. proofs/Demands.antt has a proof of each statement, under its name in small letters.
use Rattle.std.specs.Prelude.{◌≡◌, not, ◌&&◌, List, ℕ, ◌+◌, ◌≤◌, Some}
use Rattle.clocks.specs.Bits.{bit}
use Rattle.clocks.specs.Forecasts.{shortened}
use Rattle.clocks.specs.declared.Forecast.{Forecast}
use Rattle.clocks.specs.declared.Forecast.TheVariants.{In}
use Rattle.calls.specs.declared.Call32.TheVariants.{Read}
use Rattle.calls.specs.declared.Refusal.{Refusal}
use Rattle.chips.specs.Chips
use Rattle.chips.specs.Chips.{answer}
use Rattle.riot6532.specs.Record.{beside, power_up, reset_of}
use Rattle.riot6532.specs.Flags.{flag_at}
use Rattle.riot6532.specs.Chip.{chip, clocked, lined, largest_forecast, whole, reading_of, whole_reading}
use Rattle.riot6532.specs.declared.Io.{Io}
use Rattle.riot6532.specs.declared.Riot.{Riot}
use Rattle.riot6532.specs.declared.IoAnswer.{IoAnswer}
use Rattle.chips.specs.declared.Reading.{Reading}

-- refusals, and well-formed records
abbrev pub Answers : Type 0
Answers = Chips.Answers chip

-- runs and single clocks
abbrev pub Runs : Type 0
Runs = Chips.Runs chip clocked

-- the interrupt line and its forecast
abbrev pub Lines : Type 0
Lines = Chips.Lines chip clocked lined

-- request 14, of what `run` and `forecast` give back, with the pins still and no access: a forecast k is k - m after a run of m clocks, m at
-- most k, and 0 after a longer one; never stays never
abbrev pub KeepsWord : Type 0
KeepsWord = Chips.KeepsWord chip clocked lined

-- a run of a clocks and then one of b leave and show what one of a + b does, up to 4,294,967,295
abbrev pub RunsAdd : Type 0
RunsAdd = Chips.RunsAdd chip clocked

-- after any calls from power-up a forecast is never or at most 261,121; some calls make it 261,121; no other number has both
abbrev pub LargestForecast : Type 0
LargestForecast = Chips.LargestForecast chip clocked lined

-- the same of `Io`, whose entries promise the chip's answers with any RAM beside it
abbrev pub RanIo : Io → ℕ → IoAnswer → Type 0
RanIo io n r = (m : List ℕ) → Chips.Ran chip clocked (beside m io) n (whole m r)

abbrev pub ForetoldIo : Io → Forecast → IoAnswer → Type 0
ForetoldIo io f r = (m : List ℕ) → Chips.Foretold chip clocked lined (beside m io) f (whole m r)

abbrev pub ForecastShortenedIo : Type 0
ForecastShortenedIo =
    (io : Io) (f g : Forecast) (n : ℕ) (before ran later : IoAnswer) → n ≤ clocked.longest
    → ForetoldIo io f before → RanIo before.io n ran → ForetoldIo ran.io g later → g ≡ shortened n f

abbrev pub RunsAddIo : Type 0
RunsAddIo =
    (io : Io) (a b : ℕ) (r s t : IoAnswer) → a + b ≤ clocked.longest
    → RanIo io a r → RanIo r.io b s → RanIo io (a + b) t → s ≡ t

abbrev pub ForecastBoundIo : Type 0
ForecastBoundIo =
    (m : List ℕ) (io : Io) (f : Forecast) (r : IoAnswer) (d : ℕ)
    → Chips.Reached chip (beside m io) → ForetoldIo io f r → f ≡ In d → d ≤ largest_forecast

-- a reset leaves power-up as it is
abbrev pub PowerUpReset : Type 0
PowerUpReset = reset_of power_up ≡ power_up

-- any two answers without the RAM that a promise allows coincide, and so do the RAMs beside them, since together they are the chip's answer
abbrev pub WholeOne : Type 0
WholeOne = (m n : List ℕ) (r s : IoAnswer) → whole m r ≡ whole n s → (m ≡ n) × (r ≡ s)

-- and so do any two readings
abbrev pub WholeReadingOne : Type 0
WholeReadingOne = (m n : List ℕ) (r s : Reading IoAnswer) → whole_reading m r ≡ whole_reading n s → (m ≡ n) × (r ≡ s)

-- request 03: a read's answer, beside its mask, is that of the call
abbrev pub ReadAnswers : Type 0
ReadAnswers = (a : ℕ) (v : Riot) → (reading_of a v).answer ≡ answer chip (Read a) v

-- bit k of the mask says whether the read found flag k set and left it clear
abbrev pub ClearedByBit : Type 0
ClearedByBit =
    (a k : ℕ) (v : Riot)
    → bit k (reading_of a v).cleared ≡ (flag_at k v.io && not (flag_at k (reading_of a v).answer.riot.io))

-- the mask of a refused read is 0
abbrev pub RefusedClearsNone : Type 0
RefusedClearsNone = (a : ℕ) (v : Riot) (r : Refusal) → (reading_of a v).answer.refusal ≡ Some r → (reading_of a v).cleared ≡ 0
