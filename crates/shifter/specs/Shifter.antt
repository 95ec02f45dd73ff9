-- The shift register: its modes, one shift, one clock, a pulse on CB1, and an access.
use Rattle.std.specs.Prelude.{Bool, true, false, not, ◌&&◌, ◌||◌, ℕ, ◌-◌, ◌*◌, ◌%◌, eqb, if◌then◌else◌}
use Rattle.clocks.specs.Clocks.{in_turn}
use Rattle.clocks.specs.Bits.{bit, with_bit}
use Rattle.shifter.specs.declared.Shifter.{Shifter}

-- ---- the modes, by the number that ACR has in bits 4 to 2

-- modes 2 and 6 shift by the system clock, 3 and 7 by pulses on CB1; every other mode rests
abbrev pub by_clock : ℕ → Bool
by_clock m = eqb m 2 || eqb m 6

abbrev pub by_pulse : ℕ → Bool
by_pulse m = eqb m 3 || eqb m 7

-- 6 and 7 shift out, 2 and 3 in
abbrev pub outward : ℕ → Bool
outward m = eqb m 6 || eqb m 7

-- 1, 4 and 5, in which T2 would time the shifts, are left out of this bench
abbrev pub allowed_mode : ℕ → Bool
allowed_mode m = not (eqb m 1) && not (eqb m 4) && not (eqb m 5)

-- ---- one shift

-- a mode that shifts out takes its own bit 7, and one that shifts in the level that is offered
abbrev pub taken : Bool → Shifter → Bool
taken level s = if outward s.mode then bit 7 s.byte else level

-- the shifts to come before a shift: none stand for 8
abbrev pub to_come : Shifter → ℕ
to_come s = if eqb s.left 0 then 8 else s.left

-- every bit moves up a place, and what was taken enters bit 0. What leaves bit 7 outward is the CB2 output, which an input shift keeps.
-- The shift that leaves none to come sets the flag
unfoldable pub shifted : Bool → Shifter → Shifter
shifted level s =
    record {
      byte = with_bit 0 (taken level s) (s.byte % 128 * 2);
      left = to_come s - 1;
      half = s.half;
      output = if outward s.mode then bit 7 s.byte else s.output;
      flag = eqb (to_come s - 1) 0 || s.flag;
      mode = s.mode;
    }

-- n shifts, the first with CB2 at the level l 0
abbrev pub shifts : ℕ → (ℕ → Bool) → Shifter → Shifter
shifts n l = in_turn n (λ k. shifted (l k))

-- ---- clocks, pulses, accesses

-- with another half-clock mark
abbrev pub marked : Bool → Shifter → Shifter
marked half s =
    record { byte = s.byte; left = s.left; half = half; output = s.output; flag = s.flag; mode = s.mode }

-- clocks move it in modes 2 and 6, while shifts are to come
abbrev pub counting : Shifter → Bool
counting s = by_clock s.mode && not (eqb s.left 0)

-- then a first clock sets the mark, and a second clears it and shifts; `level` is CB2's outside
unfoldable pub clocked : Bool → Shifter → Shifter
clocked level s = if counting s then (if s.half then marked false (shifted level s) else marked true s) else s

-- a rise of CB1 shifts in modes 3 and 7; `level` is CB2's outside, after the call
unfoldable pub pulsed : Bool → Bool → Shifter → Shifter
pulsed rise level s = if by_pulse s.mode && rise then shifted level s else s

-- an access clears the flag; in the four modes that shift, 8 shifts are then to come and the mark is clear
unfoldable pub accessed : Shifter → Shifter
accessed s =
    record {
      byte = s.byte;
      left = if by_clock s.mode || by_pulse s.mode then 8 else s.left;
      half = if by_clock s.mode || by_pulse s.mode then false else s.half;
      output = s.output;
      flag = false;
      mode = s.mode;
    }
