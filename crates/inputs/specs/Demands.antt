-- What request 01 asks of the inputs, said of each input by itself. proofs/Demands.antt has a proof of each statement, under its name in small letters.
use Rattle.std.specs.Prelude.{◌≡◌, true, false, not, ◌&&◌, ◌||◌, ◌↔◌, ℕ, ◌<◌}
use Rattle.clocks.specs.Bits.{bit}
use Rattle.inputs.specs.Inputs.{interrupts, priority, well_inputs, idle, edge_at, pinned, shown, asserted, taken, ended, kept}
use Rattle.inputs.specs.declared.Inputs.{Inputs}

-- input k is latched, and the mask lets it through
abbrev pub Through : ℕ → Inputs → ℕ → Type 0
Through mask v k = (bit k v.latch ≡ true) × (bit k mask ≡ true)

-- with priority the register shows an input exactly when it is the highest of these
abbrev pub ShowsHighest : Type 0
ShowsHighest =
    (cr mask : ℕ) (v : Inputs) (k : ℕ) → well_inputs v ≡ true → interrupts cr ≡ true → priority cr ≡ true
    → (bit k (shown cr mask v) ≡ true) ↔ (Through mask v k × ((j : ℕ) → k < j → Through mask v j → ⊥))

-- without priority it shows exactly these
abbrev pub ShowsAll : Type 0
ShowsAll =
    (cr mask : ℕ) (v : Inputs) (k : ℕ) → well_inputs v ≡ true → interrupts cr ≡ true → priority cr ≡ false
    → (bit k (shown cr mask v) ≡ true) ↔ Through mask v k

-- and out of interrupt mode none
abbrev pub ShowsNone : Type 0
ShowsNone = (cr mask : ℕ) (v : Inputs) → interrupts cr ≡ false → shown cr mask v ≡ 0

-- why the interrupt is asserted: in interrupt mode an input is shown; with priority all that are in service are lower, and without it none is
-- in service
pub record Raised (cr mask : ℕ) (v : Inputs) : Type 0 where
  pub mode : interrupts cr ≡ true
  pub input : ℕ
  pub seen : bit input (shown cr mask v) ≡ true
  pub higher : priority cr ≡ true → (j : ℕ) → bit j v.service ≡ true → j < input
  pub alone : priority cr ≡ false → (j : ℕ) → bit j v.service ≡ false

abbrev pub AssertedExact : Type 0
AssertedExact = (cr mask : ℕ) (v : Inputs) → well_inputs v ≡ true → (asserted cr mask v ≡ true) ↔ Raised cr mask v

-- in interrupt mode an input is latched by its own edge and by no other, and stays latched
abbrev pub PinnedExact : Type 0
PinnedExact =
    (cr old new : ℕ) (v : Inputs) (k : ℕ) → k < 5 → interrupts cr ≡ true
    → bit k (pinned cr old new v).latch ≡ (bit k v.latch || edge_at k cr old new)

-- a read of the register moves from the latch into service what it showed, and nothing else; one that shows nothing changes nothing
abbrev pub TakenExact : Type 0
TakenExact =
    (s : ℕ) (v : Inputs) (k : ℕ)
    → (bit k (taken s v).latch ≡ (bit k v.latch && not (bit k s)))
    × (bit k (taken s v).service ≡ (bit k v.service || bit k s))

abbrev pub TakenNone : Type 0
TakenNone = (v : Inputs) → taken 0 v ≡ v

-- and the interrupt is not asserted then
abbrev pub TakenReleases : Type 0
TakenReleases = (cr mask : ℕ) (v : Inputs) → well_inputs v ≡ true → asserted cr mask (taken (shown cr mask v) v) ≡ false

-- a write of it with priority leaves all in service but the highest, each of which has another above it; without priority it leaves none. The
-- latch stays
abbrev pub EndedHighest : Type 0
EndedHighest =
    (cr : ℕ) (v : Inputs) (k : ℕ) → well_inputs v ≡ true → interrupts cr ≡ true → priority cr ≡ true
    → ((bit k (ended cr v).service ≡ true)
    ↔ ((bit k v.service ≡ true) × ((j : ℕ) × (k < j) × (bit j v.service ≡ true))))
    × ((ended cr v).latch ≡ v.latch)

abbrev pub EndedAll : Type 0
EndedAll =
    (cr : ℕ) (v : Inputs) → interrupts cr ≡ true → priority cr ≡ false → ended cr v ≡ record { latch = v.latch; service = 0 }

-- a write of port C in interrupt mode leaves an input latched that was latched and is written as 1
abbrev pub KeptExact : Type 0
KeptExact =
    (cr x : ℕ) (v : Inputs) (k : ℕ) → interrupts cr ≡ true → bit k (kept cr x v).latch ≡ (bit k v.latch && bit k x)

-- out of interrupt mode no edge and no write changes anything
abbrev pub OutOfMode : Type 0
OutOfMode =
    (cr old new x : ℕ) (v : Inputs) → interrupts cr ≡ false
    → (pinned cr old new v ≡ v) × (ended cr v ≡ v) × (kept cr x v ≡ v)

-- five inputs stay five, whatever is asked of them
pub record StaysWell : Type 0 where
  pub at_reset : well_inputs idle ≡ true
  pub by_pins : (cr old new : ℕ) (v : Inputs) → well_inputs v ≡ true → well_inputs (pinned cr old new v) ≡ true
  pub by_read : (cr mask : ℕ) (v : Inputs) → well_inputs v ≡ true → well_inputs (taken (shown cr mask v) v) ≡ true
  pub by_end : (cr : ℕ) (v : Inputs) → well_inputs v ≡ true → well_inputs (ended cr v) ≡ true
  pub by_write : (cr x : ℕ) (v : Inputs) → well_inputs v ≡ true → well_inputs (kept cr x v) ≡ true
