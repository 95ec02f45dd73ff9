-- What the demands and request 01 ask of the 6525 beyond the promise of each entry. proofs/Demands.antt has a proof of each statement, under its name in small letters.
use Rattle.std.specs.Prelude.{◌≡◌, true, false, not, ◌&&◌, ◌||◌, ◌↔◌, ℕ, ◌<◌, None}
use Rattle.clocks.specs.Bits.{bit}
use Rattle.calls.specs.declared.Call25.{Call25}
use Rattle.calls.specs.declared.Call25.TheVariants.{Write, Read, Run}
use Rattle.chips.specs.Chips
use Rattle.chips.specs.Chips.{answer, next}
use Rattle.inputs.specs.Inputs.{interrupts, priority, ended}
use Rattle.inputs.specs.Demands.{Through, Raised}
use Rattle.tpi6525.specs.Record.{well_formed, with_inputs, reset_of, power_up}
use Rattle.tpi6525.specs.Chip.{chip, clocked}
use Rattle.tpi6525.specs.declared.Tpi.{Tpi}

-- refusals, and well-formed records
abbrev pub Answers : Type 0
Answers = Chips.Answers chip

-- runs and single clocks
abbrev pub Runs : Type 0
Runs = Chips.Runs chip clocked

-- a run of any length leaves every record as it was handed in, and shows what a run of no clocks does
abbrev pub Still : Type 0
Still = (n : ℕ) (v : Tpi) → (next chip (Run n) v ≡ v) × (answer chip (Run n) v ≡ answer chip (Run 0) v)

-- a reset leaves power-up as it is
abbrev pub PowerUpReset : Type 0
PowerUpReset = reset_of power_up ≡ power_up

-- an accepted answer shows the interrupt asserted exactly when the record that it hands back has an input that asserts it
abbrev pub RaisedIn : Tpi → Type 0
RaisedIn v = Raised v.cr v.c.ddr v.inputs

abbrev pub InterruptExact : Type 0
InterruptExact =
    (c : Call25) (v : Tpi) → (answer chip c v).refusal ≡ None → ((answer chip c v).irq ≡ true) ↔ RaisedIn (next chip c v)

-- ---- the active interrupt register: the byte that a read gives, and what is left then

abbrev pub air_read : Tpi → ℕ
air_read v = (answer chip (Read 7) v).«data»

abbrev pub ThroughIn : Tpi → ℕ → Type 0
ThroughIn v = Through v.c.ddr v.inputs

-- with priority a bit is set exactly where that input is the highest that is latched and not masked
abbrev pub AirHighest : Type 0
AirHighest =
    (v : Tpi) (k : ℕ) → well_formed v ≡ true → interrupts v.cr ≡ true → priority v.cr ≡ true
    → (bit k (air_read v) ≡ true) ↔ (ThroughIn v k × ((j : ℕ) → k < j → ThroughIn v j → ⊥))

-- without it exactly where the input is latched and not masked; out of interrupt mode nowhere
abbrev pub AirAll : Type 0
AirAll =
    (v : Tpi) (k : ℕ) → well_formed v ≡ true → interrupts v.cr ≡ true → priority v.cr ≡ false
    → (bit k (air_read v) ≡ true) ↔ ThroughIn v k

abbrev pub AirNone : Type 0
AirNone = (v : Tpi) → interrupts v.cr ≡ false → air_read v ≡ 0

-- the read takes what it gave out of the latch and into service, and leaves all else
pub record AirTakes (v : Tpi) : Type 0 where
  pub from_latch : (k : ℕ) → bit k (next chip (Read 7) v).inputs.latch ≡ (bit k v.inputs.latch && not (bit k (air_read v)))
  pub into_service : (k : ℕ) → bit k (next chip (Read 7) v).inputs.service ≡ (bit k v.inputs.service || bit k (air_read v))
  pub nothing_else : next chip (Read 7) v ≡ with_inputs (next chip (Read 7) v).inputs v

abbrev pub AirTaken : Type 0
AirTaken = (v : Tpi) → AirTakes v

-- one that gives 0, refused ones among them, changes nothing
abbrev pub AirIdle : Type 0
AirIdle = (v : Tpi) → air_read v ≡ 0 → next chip (Read 7) v ≡ v

-- the interrupt is not asserted after a read of it
abbrev pub AirReleases : Type 0
AirReleases = (v : Tpi) → (answer chip (Read 7) v).irq ≡ false

-- a write of it ends service, whatever the byte, and changes nothing else
abbrev pub AirEnds : Type 0
AirEnds = (v : Tpi) (x : ℕ) → well_formed v ≡ true → next chip (Write 7 x) v ≡ with_inputs (ended v.cr v.inputs) v

-- no write of CR or of the mask changes latch or service
abbrev pub ControlLeaves : Type 0
ControlLeaves = (v : Tpi) (x : ℕ) → ((next chip (Write 5 x) v).inputs ≡ v.inputs) × ((next chip (Write 6 x) v).inputs ≡ v.inputs)
