-- One clock of the line and of the frame, step by step, in document 01's order.
use Rattle.std.specs.Prelude.{ℕ, ◌+◌, ◌-◌, ◌/◌, ◌%◌, Bool, true, false, not, ◌&&◌, ◌==◌, nat_eq, if◌then◌else◌}
use Rattle.raster.specs.Record.{start_of}
use Rattle.raster.specs.declared.Registers.{Registers}
use Rattle.raster.specs.declared.Line.{Line}
use Rattle.raster.specs.declared.Frame.{Frame}
use Rattle.raster.specs.declared.Raster.{Raster}

-- a frame with one part another
abbrev pub with_row : ℕ → Frame → Frame
with_row x f =
    record {
      row = x;
      scan = f.scan;
      adjusting = f.adjusting;
      adjust = f.adjust;
      row_start = f.row_start;
      frame_start = f.frame_start;
      vsync = f.vsync;
      field = f.field;
    }

abbrev pub with_scan : ℕ → Frame → Frame
with_scan x f =
    record {
      row = f.row;
      scan = x;
      adjusting = f.adjusting;
      adjust = f.adjust;
      row_start = f.row_start;
      frame_start = f.frame_start;
      vsync = f.vsync;
      field = f.field;
    }

abbrev pub with_adjust : Bool → ℕ → Frame → Frame
with_adjust b x f =
    record {
      row = f.row;
      scan = f.scan;
      adjusting = b;
      adjust = x;
      row_start = f.row_start;
      frame_start = f.frame_start;
      vsync = f.vsync;
      field = f.field;
    }

abbrev pub with_row_start : ℕ → Frame → Frame
with_row_start x f =
    record {
      row = f.row;
      scan = f.scan;
      adjusting = f.adjusting;
      adjust = f.adjust;
      row_start = x;
      frame_start = f.frame_start;
      vsync = f.vsync;
      field = f.field;
    }

abbrev pub with_vsync : ℕ → Frame → Frame
with_vsync x f =
    record {
      row = f.row;
      scan = f.scan;
      adjusting = f.adjusting;
      adjust = f.adjust;
      row_start = f.row_start;
      frame_start = f.frame_start;
      vsync = x;
      field = f.field;
    }

-- ---- the line

-- what is left of a pulse falls, down to 0, where subtraction stops
abbrev pub fallen : ℕ → ℕ
fallen x = x - 1

-- the line ends where the column is R0, and only there
abbrev pub ends_line : Registers → Line → Bool
ends_line r l = l.column == r.r0

-- the column: 0 after the line's end, else the next of 256
abbrev pub next_column : Registers → Line → ℕ
next_column r l = if ends_line r l then 0 else (l.column + 1) % 256

-- HSYNC starts where the column comes to R2, for as many clocks as R3's low four bits say, so 0 makes none
unfoldable pub line_clocked : Registers → Line → Line
line_clocked r l =
    record {
      column = next_column r l;
      hsync = if next_column r l == r.r2 then r.r3 % 16 else fallen l.hsync;
    }

-- ---- a line end

-- a new frame: first row and line, no adjust, both starts from R12/R13, the next of 32 fields; a running VSYNC goes on
unfoldable pub new_frame : Registers → Frame → Frame
new_frame r f =
    record {
      row = 0;
      scan = 0;
      adjusting = false;
      adjust = 0;
      row_start = start_of r;
      frame_start = start_of r;
      vsync = f.vsync;
      field = (f.field + 1) % 32;
    }

-- in adjust: the next of 32 adjust lines, and a new frame where that is R5
unfoldable pub adjust_moved : Registers → Frame → Frame
adjust_moved r f =
    if (f.adjust + 1) % 32 == r.r5 then new_frame r f else with_adjust f.adjusting ((f.adjust + 1) % 32) f

-- a row is done: scan line 0, and the row start grows by R1
abbrev pub row_done : Registers → Frame → Frame
row_done r f = with_scan 0 (with_row_start ((f.row_start + r.r1) % 16384) f)

-- after row R4 a new frame or, where R5 is not 0, adjust line 0; after any other the next of 128 rows
unfoldable pub row_ended : Registers → Frame → Frame
row_ended r f =
    if f.row == r.r4
    then (if nat_eq r.r5 0 then new_frame r (row_done r f) else with_adjust true 0 (row_done r f))
    else with_row ((f.row + 1) % 128) (row_done r f)

-- in adjust by the adjust line; else the row ends at scan line R9, and before that comes the next of 32 scan lines
unfoldable pub frame_moved : Registers → Frame → Frame
frame_moved r f =
    if f.adjusting then adjust_moved r f else
    (if f.scan == r.r9 then row_ended r f else
    with_scan ((f.scan + 1) % 32) f)

-- how many lines a VSYNC takes: R3's high four bits, where 0 counts as 16
abbrev pub vsync_width : Registers → ℕ
vsync_width r = if r.r3 / 16 == 0 then 16 else r.r3 / 16

-- VSYNC starts at the first line of row R7, outside adjust
unfoldable pub vsync_started : Registers → Frame → Frame
vsync_started r f =
    with_vsync
    (if not f.adjusting && f.row == r.r7 && f.scan == 0 then vsync_width r else f.vsync)
    f

-- a line end: VSYNC falls, the counters move, VSYNC may start
unfoldable pub line_ended : Registers → Frame → Frame
line_ended r f = vsync_started r (frame_moved r (with_vsync (fallen f.vsync) f))

-- ---- the clock

-- the frame moves where the line ends
abbrev pub frame_clocked : Registers → Line → Frame → Frame
frame_clocked r l f = if ends_line r l then line_ended r f else f

-- line and frame by their own steps, each of the raster before the clock
unfoldable pub raster_clocked : Raster → Raster
raster_clocked v =
    record {
      registers = v.registers;
      line = line_clocked v.registers v.line;
      frame = frame_clocked v.registers v.line v.frame;
    }
