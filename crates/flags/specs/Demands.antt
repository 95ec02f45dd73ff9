-- What demand 2 asks of the flags beyond the promises. proofs/Demands.antt has a proof of each statement, under its name in small letters.
use Rattle.std.specs.Prelude.{◌≡◌, Bool, ◌&&◌, ◌||◌, ℕ, ◌<◌, eqb, if◌then◌else◌}
use Rattle.clocks.specs.Bits.{bit, with_clear}
use Rattle.flags.specs.Flags.{edge1, edge2, raised, interrupt, shown, enabled}
use Rattle.flags.specs.declared.Side.TheVariants.{A, B}

-- seven flags and seven enables stay seven, whatever sets or clears them
abbrev pub RaisedSeven : Type 0
RaisedSeven = (pcr old new ifr : ℕ) → ifr < 128 → raised pcr old new ifr < 128

abbrev pub ClearedSeven : Type 0
ClearedSeven = (m ifr : ℕ) → ifr < 128 → with_clear m ifr < 128

abbrev pub EnabledSeven : Type 0
EnabledSeven = (x ier : ℕ) → ier < 128 → enabled x ier < 128

-- flag k is set by the edge of its own line and by no other
abbrev pub edge_at : ℕ → ℕ → ℕ → ℕ → Bool
edge_at k pcr old new =
    eqb k 0 && edge2 A pcr old new
    || (eqb k 1 && edge1 A pcr old new || (eqb k 3 && edge2 B pcr old new || eqb k 4 && edge1 B pcr old new))

abbrev pub RaisedByBit : Type 0
RaisedByBit = (k pcr old new ifr : ℕ) → bit k (raised pcr old new ifr) ≡ (bit k ifr || edge_at k pcr old new)

-- a read of IFR shows the interrupt in bit 7 and the flags in the others
abbrev pub ShownByBit : Type 0
ShownByBit = (k ifr ier : ℕ) → bit k (shown ifr ier) ≡ (if eqb k 7 then interrupt ifr ier else bit k ifr)

-- an enable that the byte names goes by its bit 7, and the others stay
abbrev pub EnabledByBit : Type 0
EnabledByBit = (k x ier : ℕ) → k < 7 → bit k (enabled x ier) ≡ (if bit k x then bit 7 x else bit k ier)
