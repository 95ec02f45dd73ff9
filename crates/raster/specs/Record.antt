-- The raster: which ones are well formed, what power-up gives, and what a reset changes.
use Rattle.std.specs.Prelude.{ℕ, ◌+◌, ◌*◌, Bool, true, false, not, ◌&&◌, ◌||◌, List, [], ◌∷◌, ◌==◌, if◌then◌else◌}
use Rattle.clocks.specs.Bits.{bit}
use Rattle.clocks.specs.Ranges.{within}
use Rattle.raster.specs.declared.Registers.{Registers}
use Rattle.raster.specs.declared.Line.{Line}
use Rattle.raster.specs.declared.Frame.{Frame}
use Rattle.raster.specs.declared.Raster.{Raster}

-- R8 without the bits that ask for what is not built: interlace, transparent addressing
abbrev pub allowed_r8 : ℕ → Bool
allowed_r8 x = not (bit 0 x || bit 1 x || bit 3 x || bit 6 x || bit 7 x)

-- ---- ranges

-- how many values register k has: 7 bits, 6 bits, 5 bits, and 8 for the others
abbrev pub size_of : ℕ → ℕ
size_of k =
    if k == 4 || k == 6 || k == 7 || k == 10 then 128 else
    (if k == 12 || k == 14 || k == 18 then 64 else
    (if k == 5 || k == 9 || k == 11 then 32 else
    256))

-- the registers by number, and the range of each
abbrev pub numbered : Registers → List (ℕ × ℕ)
numbered r =
    (0, r.r0) ∷ (1, r.r1) ∷ (2, r.r2) ∷ (3, r.r3) ∷ (4, r.r4) ∷ (5, r.r5) ∷ (6, r.r6) ∷ (7, r.r7) ∷ (8, r.r8) ∷ (9, r.r9)
    ∷ (10, r.r10) ∷ (11, r.r11) ∷ (12, r.r12) ∷ (13, r.r13) ∷ (14, r.r14) ∷ (15, r.r15) ∷ (18, r.r18) ∷ (19, r.r19) ∷ []

abbrev pub ranged : List (ℕ × ℕ) → List (ℕ × ℕ)
ranged [] = []
ranged (p ∷ s) = (p.1, size_of p.0) ∷ ranged s

-- the column is a byte, HSYNC has at most 15 clocks left
abbrev pub line_ranges : Line → List (ℕ × ℕ)
line_ranges l = (l.column, 256) ∷ (l.hsync, 16) ∷ []

-- VSYNC has at most 16 lines left
abbrev pub frame_ranges : Frame → List (ℕ × ℕ)
frame_ranges f =
    (f.row, 128)
    ∷ (f.scan, 32)
    ∷ (f.adjust, 32)
    ∷ (f.row_start, 16384)
    ∷ (f.frame_start, 16384)
    ∷ (f.vsync, 17)
    ∷ (f.field, 32)
    ∷ []

-- ---- well-formed rasters

unfoldable pub well_registers : Registers → Bool
well_registers r = within true (ranged (numbered r)) && allowed_r8 r.r8

unfoldable pub well_line : Line → Bool
well_line l = within true (line_ranges l)

unfoldable pub well_frame : Frame → Bool
well_frame f = within true (frame_ranges f)

-- no relation between fields is asked
unfoldable pub well_raster : Raster → Bool
well_raster v = well_registers v.registers && well_line v.line && well_frame v.frame

-- ---- power-up and reset

-- the display start that R12 and R13 hold
abbrev pub start_of : Registers → ℕ
start_of r = r.r12 * 256 + r.r13

-- a frame at its first line, no VSYNC running, both starts at s
abbrev pub first_frame : ℕ → Frame
first_frame s =
    record {
      row = 0;
      scan = 0;
      adjusting = false;
      adjust = 0;
      row_start = s;
      frame_start = s;
      vsync = 0;
      field = 0;
    }

-- a reset goes to the first line of a frame at R12/R13, with no sync; the registers stay
unfoldable pub restarted : Raster → Raster
restarted v =
    record {
      registers = v.registers;
      line = record { column = 0; hsync = 0 };
      frame = first_frame (start_of v.registers);
    }

-- all registers 0
abbrev pub no_registers : Registers
no_registers =
    record {
      r0 = 0;
      r1 = 0;
      r2 = 0;
      r3 = 0;
      r4 = 0;
      r5 = 0;
      r6 = 0;
      r7 = 0;
      r8 = 0;
      r9 = 0;
      r10 = 0;
      r11 = 0;
      r12 = 0;
      r13 = 0;
      r14 = 0;
      r15 = 0;
      r18 = 0;
      r19 = 0;
    }

-- power-up: all registers 0, and the rest as a reset leaves it
unfoldable pub raster_up : Raster
raster_up = record { registers = no_registers; line = record { column = 0; hsync = 0 }; frame = first_frame 0 }
