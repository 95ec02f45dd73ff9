-- What sets, clears, enables and shows the flags of the 6522.
-- Bits of IFR: 0 CA2, 1 CA1, 2 SR, 3 CB2, 4 CB1, 5 T2, 6 T1. Bits of the control levels: 0 CA1, 1 CA2, 2 CB1, 3 CB2.
use Rattle.std.specs.Prelude.{Bool, not, ◌&&◌, ◌||◌, ℕ, ◌/◌, ◌%◌, eqb, ltb, if◌then◌else◌}
use Rattle.clocks.specs.Bits.{bit, with_set, with_clear, with_bit, shares}
use Rattle.ports.specs.Ports.{edge}
use Rattle.flags.specs.declared.Side.{Side}
use Rattle.flags.specs.declared.Side.TheVariants.{A, B}

-- a number of port A and its lines CA1 and CA2, and one of port B and its lines CB1 and CB2
abbrev pub of_side : Side → ℕ → ℕ → ℕ
of_side A x y = x
of_side B x y = y

-- ---- PCR

-- PCR has a code of three bits for CA2 and one for CB2
abbrev pub code : Side → ℕ → ℕ
code s pcr = pcr / of_side s 2 32 % 8

-- codes 4 and 5, handshake and pulse outputs, are left out of this bench
abbrev pub allowed_code : ℕ → Bool
allowed_code code = not (eqb code 4) && not (eqb code 5)

abbrev pub allowed_pcr : ℕ → Bool
allowed_pcr pcr = allowed_code (code A pcr) && allowed_code (code B pcr)

-- ---- edges of the control lines, from the old levels to the new

-- an edge of CA1 or CB1: PCR has a bit for each, 1 for a rise
abbrev pub edge1 : Side → ℕ → ℕ → ℕ → Bool
edge1 s pcr old new = edge (bit (of_side s 0 4) pcr) (bit (of_side s 0 2) old) (bit (of_side s 0 2) new)

-- an edge of CA2 or CB2: codes 0 and 1 see a fall, 2 and 3 a rise, the output codes nothing
abbrev pub edge2 : Side → ℕ → ℕ → ℕ → Bool
edge2 s pcr old new =
    ltb (code s pcr) 4 && edge (ltb 1 (code s pcr)) (bit (of_side s 1 3) old) (bit (of_side s 1 3) new)

-- an edge sets its flag
abbrev pub set : ℕ → Bool → ℕ → ℕ
set m edge ifr = if edge then with_set m ifr else ifr

-- IFR after the edges of a port's lines: the masks of CA1 and CA2 are 2 and 1, those of CB1 and CB2 are 16 and 8
abbrev pub raised_at : Side → ℕ → ℕ → ℕ → ℕ → ℕ
raised_at s pcr old new ifr =
    set (of_side s 1 8) (edge2 s pcr old new) (set (of_side s 2 16) (edge1 s pcr old new) ifr)

-- and of all four
unfoldable pub raised : ℕ → ℕ → ℕ → ℕ → ℕ
raised pcr old new ifr = raised_at A pcr old new (raised_at B pcr old new ifr)

-- whether CA1's edge takes IFR1 from 0 to 1, or CB1's edge IFR4: then the port's new lines are kept
unfoldable pub keeps : Side → ℕ → ℕ → ℕ → ℕ → Bool
keeps s pcr old new ifr = edge1 s pcr old new && not (bit (of_side s 1 4) ifr)

-- ---- flags that an access clears

-- codes that keep CA2's or CB2's flag apart from its port
abbrev pub independent : ℕ → Bool
independent code = eqb code 1 || eqb code 3

-- an access to port A clears IFR1 (mask 2), and IFR0 with it (3) unless CA2 is independent; one to port B clears IFR4 (16), and IFR3 with
-- it (24) unless CB2 is
abbrev pub side_clears : Side → ℕ → ℕ
side_clears s pcr = if independent (code s pcr) then of_side s 2 16 else of_side s 3 24

-- any access to a port clears its flags, and any access to SR clears IFR2 (4)
unfoldable pub access_clears : ℕ → ℕ → ℕ
access_clears r pcr = if eqb r 0 then side_clears B pcr else (if eqb r 1 then side_clears A pcr else (if eqb r 10 then 4 else 0))

-- besides, a read of T1's low counter clears IFR6 (64), and one of T2's low counter IFR5 (32)
unfoldable pub read_clears : ℕ → ℕ → ℕ
read_clears r pcr = if eqb r 4 then 64 else (if eqb r 8 then 32 else access_clears r pcr)

-- a write of T1's high counter or high latch clears IFR6, one of T2's high counter IFR5, and one of IFR the flags written as 1
unfoldable pub write_clears : ℕ → ℕ → ℕ → ℕ
write_clears r x pcr =
    if eqb r 5 then 64 else
    (if eqb r 7 then 64 else
    (if eqb r 9 then 32 else
    (if eqb r 13 then x % 128 else
    access_clears r pcr)))

-- ---- what IFR shows, and what IER becomes

-- the interrupt line is asserted exactly when IFR and IER share a set bit
abbrev pub interrupt : ℕ → ℕ → Bool
interrupt ifr ier = shares 8 ifr ier

-- a read of IFR shows the interrupt in bit 7
unfoldable pub shown : ℕ → ℕ → ℕ
shown ifr ier = with_bit 7 (interrupt ifr ier) ifr

-- a byte written to IER with bit 7 set turns the bits that it names on, else off
unfoldable pub enabled : ℕ → ℕ → ℕ
enabled x ier = if bit 7 x then with_set (x % 128) ier else with_clear (x % 128) ier
