-- The 6525's interrupt inputs. Input k is bit k of the latch and of what is in service, and I4 is the highest of the five.
-- Bits of CR: 0 (MC) is interrupt mode, 1 (IP) priority, 2 (IE3) and 3 (IE4) choose the edges of I3 and I4.
use Rattle.std.specs.Prelude.{Bool, false, not, ◌&&◌, ℕ, zero, suc, ◌%◌, ◌^◌, eqb, ltb, leb, if◌then◌else◌}
use Rattle.std.specs.Int.Bits.{bit_and}
use Rattle.clocks.specs.Bits.{bit, with_set, with_clear, with_bit}
use Rattle.ports.specs.Ports.{edge}
use Rattle.inputs.specs.declared.Inputs.{Inputs}

abbrev pub interrupts : ℕ → Bool
interrupts cr = bit 0 cr

abbrev pub priority : ℕ → Bool
priority cr = bit 1 cr

-- the record: five bits each; a reset leaves none of them set
abbrev pub well_inputs : Inputs → Bool
well_inputs v = ltb v.latch 32 && ltb v.service 32

abbrev pub idle : Inputs
idle = record { latch = 0; service = 0 }

-- ---- edges

-- whether input k is latched by its rise: I4 where IE4 is set, I3 where IE3 is; all else is latched by a fall
abbrev pub rises : ℕ → ℕ → Bool
rises cr k = if eqb k 4 then bit 3 cr else (if eqb k 3 then bit 2 cr else false)

-- whether input k made its edge, from the old level to the new
abbrev pub edge_at : ℕ → ℕ → ℕ → ℕ → Bool
edge_at k cr old new = edge (rises cr k) (bit k old) (bit k new)

-- those of the lowest n inputs that did
unfoldable pub edges_of : ℕ → ℕ → ℕ → ℕ → ℕ
edges_of zero cr old new = 0
edges_of (suc n) cr old new = with_bit n (edge_at n cr old new) (edges_of n cr old new)

-- in interrupt mode edges are latched, masked or not
unfoldable pub pinned : ℕ → ℕ → ℕ → Inputs → Inputs
pinned cr old new v =
    if interrupts cr then record { latch = with_set (edges_of 5 cr old new) v.latch; service = v.service } else v

-- ---- the active interrupt register

-- the weight of the highest set bit among the low n of x; 0 where none is set
unfoldable pub highest_of : ℕ → ℕ → ℕ
highest_of zero x = 0
highest_of (suc n) x = if bit n x then 2 ^ n else highest_of n x

-- latched and not masked; the mask is the low five bits of port C's direction byte, and a 1 lets an input through
abbrev pub unmasked : ℕ → Inputs → ℕ
unmasked mask v = bit_and v.latch (mask % 32)

-- in interrupt mode the register shows these, with priority only the highest (of a byte, the high three bits of which are 0); else it shows 0
unfoldable pub shown : ℕ → ℕ → Inputs → ℕ
shown cr mask v =
    if interrupts cr then if priority cr then highest_of 8 (unmasked mask v) else unmasked mask v else 0

-- what is in service holds the shown inputs back: with priority one that is not above the highest in service, without it all of them
abbrev pub held_back : ℕ → ℕ → Inputs → Bool
held_back cr s v = if priority cr then leb s (highest_of 8 v.service) else not (eqb v.service 0)

-- the interrupt is asserted while something is shown that is not held back
unfoldable pub asserted : ℕ → ℕ → Inputs → Bool
asserted cr mask v = not (eqb (shown cr mask v) 0) && not (held_back cr (shown cr mask v) v)

-- ---- accesses

-- a read of the register takes what it showed out of the latch, and into service
abbrev pub taken : ℕ → Inputs → Inputs
taken s v = record { latch = with_clear s v.latch; service = with_set s v.service }

-- in interrupt mode a write of it, of any byte, ends a service: with priority that of the highest, without it all of them
unfoldable pub ended : ℕ → Inputs → Inputs
ended cr v =
    if interrupts cr then
    record {
      latch = v.latch;
      service = if priority cr then with_clear (highest_of 8 v.service) v.service else 0;
    } else
    v

-- a write of port C in interrupt mode takes out of the latch what is written as 0; a 1 sets nothing
unfoldable pub kept : ℕ → ℕ → Inputs → Inputs
kept cr x v = if interrupts cr then record { latch = bit_and v.latch x; service = v.service } else v
