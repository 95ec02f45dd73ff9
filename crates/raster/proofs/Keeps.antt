-- A clock, a write and a reset keep a raster well formed.
use Rattle.std.proofs.Common.{◌≡◌, ℕ, ◌%◌, ◌<◌, true, false, not, ◌&&◌, eqb, List, [], ◌∷◌, refl, mod-lt, arith, eqb-true, if◌then◌else◌}
use borrow.Author.Tests.{not-false}
use Rattle.std.proofs.lemmas.Bool.Decides.{nat_tests}
use Rattle.clocks.specs.Bits.{bit}
use Rattle.clocks.specs.Ranges.{within}
use Rattle.clocks.proofs.Tests.{picked}
use Rattle.clocks.proofs.Ranges.{All}
use Rattle.raster.specs.Record.{allowed_r8, size_of, ranged, numbered, well_registers, well_line, well_frame, well_raster, restarted, raster_up}
use Rattle.raster.specs.Access.{put, stored}
use Rattle.raster.specs.Clock.{with_vsync, fallen, ends_line, line_clocked, new_frame, adjust_moved, row_ended, frame_moved, vsync_started, line_ended, raster_clocked}
use Rattle.raster.specs.Signals.{ma_of, signals_of}
use Rattle.raster.specs.declared.Registers.{Registers}
use Rattle.raster.specs.declared.Line.{Line}
use Rattle.raster.specs.declared.Frame.{Frame}
use Rattle.raster.specs.declared.Raster.{Raster}
use Rattle.raster.proofs.Formed.{FormedRegisters, FormedLine, FormedFrame, formed, well}

pub power_up_well : well_raster raster_up ≡ true
unfolding within well_registers well_line well_frame well_raster raster_up bit
power_up_well = refl

-- ---- a clock

module _ (r : Registers) (k : FormedRegisters r) where
  new_frame_kept : (f : Frame) → FormedFrame f → FormedFrame (new_frame r f)
  unfolding new_frame
  new_frame_kept f h = grind (arith, nat_tests)

  adjust_moved_kept : (f : Frame) → FormedFrame f → FormedFrame (adjust_moved r f)
  unfolding adjust_moved
  adjust_moved_kept f h = grind (arith, nat_tests, new_frame_kept)

  row_ended_kept : (f : Frame) → FormedFrame f → FormedFrame (row_ended r f)
  unfolding row_ended
  row_ended_kept f h = grind (arith, nat_tests, new_frame_kept)

  moved_kept : (f : Frame) → FormedFrame f → FormedFrame (frame_moved r f)
  unfolding frame_moved
  moved_kept f h = grind (arith, nat_tests, adjust_moved_kept, row_ended_kept)

  pub line_ended_kept : (f : Frame) → FormedFrame f → FormedFrame (line_ended r f)
  unfolding line_ended vsync_started
  line_ended_kept f h = grind (arith, nat_tests, moved_kept (with_vsync (fallen f.vsync) f) (search arith))

  line_kept : (l : Line) → FormedLine l → FormedLine (line_clocked r l)
  unfolding line_clocked
  line_kept l h = grind (arith, nat_tests)

pub clocked_well : (v : Raster) → well_raster v ≡ true → well_raster (raster_clocked v) ≡ true
unfolding raster_clocked
clocked_well v w =
    let h = formed v w in
    let r = v.registers in
    well _ (record {
      registers = h.registers;
      allowed = h.allowed;
      line = line_kept r h.registers v.line h.line;
      frame = picked FormedFrame (ends_line r v.line) (line_ended_kept r h.registers v.frame h.frame) h.frame;
    })

pub ma_small : (v : Raster) → (signals_of v).ma < 16384
unfolding signals_of ma_of
ma_small v = grind (arith, nat_tests)

-- ---- a reset

pub restarted_well : (v : Raster) → well_raster v ≡ true → well_raster (restarted v) ≡ true
unfolding restarted
restarted_well v w =
    let h = formed v w in
    well _ (record { registers = h.registers; allowed = h.allowed; line = search arith; frame = search arith })

-- ---- a write

size_above : (k : ℕ) → 0 < size_of k
size_above k = grind (arith, nat_tests)

-- numbered values, with x for that of k
puts : ℕ → ℕ → List (ℕ × ℕ) → List (ℕ × ℕ)
puts k x [] = []
puts k x (p ∷ s) = (p.0, if eqb k p.0 then x else p.1) ∷ puts k x s

puts_kept : (k x : ℕ) (s : List (ℕ × ℕ)) → x < size_of k → All (ranged s) → All (ranged (puts k x s))
unfolding puts
puts_kept k x [] b h = tt
puts_kept k x (p ∷ s) b h = grind (arith, nat_tests, puts_kept k x s b h.1)

put_kept : (k x : ℕ) (r : Registers) → x < size_of k → FormedRegisters r → FormedRegisters (put k x r)
unfolding puts
put_kept k x r b h = puts_kept k x (numbered r) b h

-- a byte, where it is no form of R8 that is refused
pub stored_well :
    (k x : ℕ) (v : Raster) → x < 256 → (eqb k 8 && not (allowed_r8 x)) ≡ false → well_raster v ≡ true → well_raster (stored k x v) ≡ true
unfolding stored
stored_well k x v b e w =
    let h = formed v w in
    well _ (record {
      registers = put_kept k (x % size_of k) v.registers (mod-lt x (size_above k)) h.registers;
      allowed = grind (arith, nat_tests, eqb-true, not-false, h.allowed);
      line = h.line;
      frame = h.frame;
    })
