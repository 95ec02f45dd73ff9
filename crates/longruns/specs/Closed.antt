-- What the code computes of a frame at once: where line ends bring it, VSYNC apart.
use Rattle.std.specs.Prelude.{ℕ, ◌+◌, ◌-◌, ◌*◌, ◌/◌, ◌%◌, ◌<◌, ◌≤◌, true, false, nat_lt, if◌then◌else◌}
use Rattle.clocks.specs.Clocks.{after}
use Rattle.raster.specs.Record.{start_of}
use Rattle.raster.specs.Clock.{with_row, with_scan, with_adjust, with_row_start, new_frame, frame_moved}
use Rattle.raster.specs.declared.Registers.{Registers}
use Rattle.raster.specs.declared.Frame.{Frame}
use Rattle.raster.specs.declared.Raster.{Raster}

-- the ranges that the counters of a frame have to be in, and those of the registers that they are held against
pub record Counters (r : Registers) (f : Frame) : Type 0 where
  pub r4 : r.r4 < 128
  pub r5 : r.r5 < 32
  pub r9 : r.r9 < 32
  pub start : start_of r < 16384
  pub row : f.row < 128
  pub scan : f.scan < 32
  pub adjust : f.adjust < 32
  pub row_start : f.row_start < 16384

-- the rows after this one: to R4, round 128 rows if need be
unfoldable pub rows_after : Registers → Frame → ℕ
rows_after r f = (r.r4 + 128 - f.row) % 128

-- the line ends before the one that starts a new frame: in adjust to R5, round 32 lines if need be;
-- else to R9 in this row, through each row after it, and through R5 lines of adjust
unfoldable pub ends_before : Registers → Frame → ℕ
ends_before r f =
    if f.adjusting
    then (r.r5 + 31 - f.adjust) % 32
    else (r.r9 + 32 - f.scan) % 32 + rows_after r f * (r.r9 + 1) + r.r5

-- the frame with s rows still to come, and u scan lines of its row
unfoldable pub in_row : Registers → Frame → ℕ → ℕ → Frame
in_row r f s u =
    with_row ((r.r4 + 128 - s) % 128)
    (with_scan ((r.r9 + 32 - u) % 32)
    (with_adjust false f.adjust (with_row_start ((f.row_start + r.r1 * (rows_after r f - s)) % 16384) f)))

-- the frame at adjust line a, all its rows done
unfoldable pub in_adjust : Registers → Frame → ℕ → Frame
in_adjust r f a =
    with_row r.r4
    (with_scan 0 (with_adjust true a (with_row_start ((f.row_start + r.r1 * (rows_after r f + 1)) % 16384) f)))

-- the rows still to come, x line ends before the one that ends the last row; a first row that is longer than the others, being entered above
-- R9, does not count for more than one
abbrev pub rows_left : Registers → Frame → ℕ → ℕ
rows_left r f x = if nat_lt (rows_after r f) (x / (r.r9 + 1)) then rows_after r f else x / (r.r9 + 1)

-- there are no more of them than there were, their lines are no more than x, and what is left of x is no more than one row can have
abbrev pub LeftFits : Registers → Frame → ℕ → ℕ → Type 0
LeftFits r f x s = (s ≤ rows_after r f) × (s * (r.r9 + 1) ≤ x) × (x - s * (r.r9 + 1) ≤ 31)

abbrev pub at_row : Registers → Frame → ℕ → Frame
at_row r f x = in_row r f (rows_left r f x) (x - rows_left r f x * (r.r9 + 1))

-- the frame k line ends before the one that starts a new frame
unfoldable pub place_of : Registers → Frame → ℕ → Frame
place_of r f k =
    if f.adjusting then with_adjust true ((r.r5 + 31 - k) % 32) f else
    (if nat_lt k r.r5 then in_adjust r f (r.r5 - 1 - k) else
    at_row r f (k - r.r5))

-- a frame with another field number
abbrev pub with_field : ℕ → Frame → Frame
with_field x f =
    record {
      row = f.row;
      scan = f.scan;
      adjusting = f.adjusting;
      adjust = f.adjust;
      row_start = f.row_start;
      frame_start = f.frame_start;
      vsync = f.vsync;
      field = x;
    }

-- the first line of the frame that comes q frames after the next
unfoldable pub frame_on : Registers → Frame → ℕ → Frame
frame_on r f q = with_field (((new_frame r f).field + q) % 32) (new_frame r f)

-- a leap over k line ends comes to the start of a line, with no HSYNC, and VSYNC as it was
abbrev pub leapt_of : ℕ → Raster → Raster
leapt_of k v =
    record {
      registers = v.registers;
      line = record { column = 0; hsync = 0 };
      frame = after k (frame_moved v.registers) v.frame;
    }
