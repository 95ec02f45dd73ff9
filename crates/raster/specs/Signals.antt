-- The signals of a raster as it is.
use Rattle.std.specs.Prelude.{ℕ, ◌+◌, ◌*◌, ◌/◌, ◌%◌, Bool, true, false, not, ◌&&◌, ◌||◌, ltb, ◌==◌, nat_le, nat_lt, if◌then◌else◌}
use Rattle.clocks.specs.Bits.{bit}
use Rattle.raster.specs.declared.Registers.{Registers}
use Rattle.raster.specs.declared.Line.{Line}
use Rattle.raster.specs.declared.Frame.{Frame}
use Rattle.raster.specs.declared.Raster.{Raster}
use Rattle.raster.specs.declared.Signals.{Signals}

-- MA: with R8 bit 2 set the row counts in the high six bits and the column in the low byte, both from the frame's start;
-- clear, the column counts from the row's start through all fourteen bits
unfoldable pub ma_of : Registers → Line → Frame → ℕ
ma_of r l f =
    if bit 2 r.r8
    then (f.frame_start / 256 + f.row) % 64 * 256 + (f.frame_start % 256 + l.column) % 256
    else (f.row_start + l.column) % 16384

-- RA: the line of the row, in adjust the adjust line
abbrev pub ra_of : Frame → ℕ
ra_of f = if f.adjusting then f.adjust else f.scan

-- blanking: from row R6 on, and in adjust
abbrev pub blanking_of : Registers → Frame → Bool
blanking_of r f = nat_le r.r6 f.row || f.adjusting

-- DE, unskewed: no blanking, and one of the first R1 columns
abbrev pub de_of : Registers → Line → Frame → Bool
de_of r l f = not (blanking_of r f) && nat_lt l.column r.r1

-- the cursor's mode, R10 bits 6..5: always, never, the first 8 of every 16 fields, the first 16 of 32
unfoldable pub blink_of : Registers → ℕ → Bool
blink_of r field =
    if r.r10 / 32 % 4 == 0 then true else
    (if r.r10 / 32 % 4 == 1 then false else
    (if r.r10 / 32 % 4 == 2 then ltb (field % 16) 8 else
    nat_lt field 16))

-- the cursor is here: at its address, on its lines (first in R10's low five bits, last in R11), in its mode
unfoldable pub marked_of : Registers → ℕ → ℕ → ℕ → Bool
marked_of r ma ra field = ma == r.r14 * 256 + r.r15 && nat_le (r.r10 % 32) ra && nat_le ra r.r11 && blink_of r field

-- CURSOR, unskewed: DE, and the cursor is here
abbrev pub cursor_of : Registers → Line → Frame → Bool
cursor_of r l f = de_of r l f && marked_of r (ma_of r l f) (ra_of f) f.field

unfoldable pub signals_of : Raster → Signals
signals_of v =
    record {
      de = de_of v.registers v.line v.frame;
      cursor = cursor_of v.registers v.line v.frame;
      ma = ma_of v.registers v.line v.frame;
      ra = ra_of v.frame;
      blanking = blanking_of v.registers v.frame;
    }
