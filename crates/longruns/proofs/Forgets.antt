-- What is left of a pulse is forgotten: two screens that differ in HSYNC and VSYNC alone are one after some clocks and line ends.
use Rattle.std.proofs.Common.{◌≡◌, ℕ, zero, suc, ◌+◌, ◌-◌, ◌%◌, ◌≤◌, Bool, true, false, not, ◌&&◌, eqb, sym, refl, ap, ◌∙◌, arith, if◌then◌else◌}
use native.Mathlib.Nat.{sub-zero}
use Rattle.std.proofs.lemmas.Bool.Decides.{nat_tests}
use Rattle.clocks.specs.Clocks.{after}
use Rattle.clocks.proofs.Tests.{on_true, on_false}
use Rattle.raster.specs.Clock.{with_vsync, new_frame, adjust_moved, row_ended, frame_moved, vsync_width, vsync_started, line_ended, line_clocked, raster_clocked}
use Rattle.raster.specs.declared.Registers.{Registers}
use Rattle.raster.specs.declared.Frame.{Frame}
use Rattle.raster.specs.declared.Raster.{Raster}
use Rattle.longruns.specs.Ends.{ends_next, ends_of}

-- ---- a pulse

-- two pulses: as much is left of both, or of neither more than b
pub data Near (b x y : ℕ) : Type 0 where
  same : x ≡ y → Near b x y
  low : x ≤ b → y ≤ b → Near b x y

-- both start, or both fall
near_step : (b x y : ℕ) (t : Bool) (w : ℕ) → Near b x y → Near (b - 1) (if t then w else x - 1) (if t then w else y - 1)
near_step b x y true w n = same refl
near_step b x y false w (same e) = same (ap (λ (z : ℕ). z - 1) e)
near_step b x y false w (low p q) = low (omega arith) (omega arith)

near_none : (b x y : ℕ) → b ≡ 0 → Near b x y → x ≡ y
near_none b x y z (same e) = e
near_none b x y z (low p q) = omega arith

-- ---- VSYNC

-- what VSYNC has left does not matter to the counters
pub moved_vsync : (r : Registers) (x : ℕ) (f : Frame) → frame_moved r (with_vsync x f) ≡ with_vsync x (frame_moved r f)
unfolding frame_moved adjust_moved row_ended new_frame
moved_vsync r x f = grind (arith, nat_tests)

-- VSYNC starts by the counters alone
abbrev starts : Registers → Frame → Bool
starts r f = not f.adjusting && eqb f.row r.r7 && eqb f.scan 0

-- what is left of VSYNC after a line end that leaves the counters of f
abbrev vsync_on : Registers → Frame → ℕ → ℕ
vsync_on r f y = if starts r f then vsync_width r else y - 1

line_ended_vsync : (r : Registers) (y : ℕ) (f : Frame) → line_ended r (with_vsync y f) ≡ with_vsync (vsync_on r (frame_moved r f) y) (frame_moved r f)
unfolding line_ended vsync_started
line_ended_vsync r y f = ap (vsync_started r) (moved_vsync r (y - 1) f)

-- line ends, but for VSYNC
pub lines_moved :
    (r : Registers) (k : ℕ) (f : Frame) → after k (line_ended r) f ≡ with_vsync (after k (line_ended r) f).vsync (after k (frame_moved r) f)
unfolding after
lines_moved r zero f = refl
lines_moved r (suc k) f =
    let g = after k (line_ended r) f in
    let m = after k (frame_moved r) f in
    let e = ap (line_ended r) (lines_moved r k f) ∙ line_ended_vsync r g.vsync m in
    e ∙ ap (λ (x : Frame). with_vsync x.vsync (frame_moved r m)) (sym e)

-- ---- the screen

abbrev pub screen : Registers → ℕ → ℕ → ℕ → Frame → Raster
screen r x h y f = record { registers = r; line = record { column = x; hsync = h }; frame = with_vsync y f }

-- two screens with the same registers, column and counters: HSYNC within a, VSYNC within b
pub record Alike (r : Registers) (a b : ℕ) (v w : Raster) : Type 0 where
  pub column : ℕ
  pub frame : Frame
  pub hsync : ℕ
  pub hsync' : ℕ
  pub vsync : ℕ
  pub vsync' : ℕ
  pub left : v ≡ screen r column hsync vsync frame
  pub right : w ≡ screen r column hsync' vsync' frame
  pub near_h : Near a hsync hsync'
  pub near_v : Near b vsync vsync'

module _ (r : Registers) where
  -- one clock
  abbrev column_on : ℕ → ℕ
  column_on x = if eqb x r.r0 then 0 else (x + 1) % 256

  abbrev hsync_on : ℕ → ℕ → ℕ
  hsync_on x h = if eqb (column_on x) r.r2 then r.r3 % 16 else h - 1

  screen_clocked :
      (x h y : ℕ) (f : Frame) (t : Bool) → eqb x r.r0 ≡ t
      → raster_clocked (screen r x h y f)
      ≡ screen r (column_on x) (hsync_on x h) (if t then vsync_on r (frame_moved r f) y else y) (if t then frame_moved r f else f)
  unfolding raster_clocked line_clocked
  screen_clocked x h y f true e =
      ap (λ (g : Frame). record { registers = r; line = record { column = column_on x; hsync = hsync_on x h }; frame = g })
      (on_true (eqb x r.r0) _ _ e ∙ line_ended_vsync r y f)
  screen_clocked x h y f false e =
      ap (λ (g : Frame). record { registers = r; line = record { column = column_on x; hsync = hsync_on x h }; frame = g })
      (on_false (eqb x r.r0) _ _ e)

  near_line : (b y y' : ℕ) (t : Bool) (f : Frame) → Near b y y'
      → Near (b - (if t then 1 else 0)) (if t then vsync_on r f y else y) (if t then vsync_on r f y' else y')
  near_line b y y' true f n = near_step b y y' (starts r f) (vsync_width r) n
  near_line b y y' false f n = rw sub-zero n

  alike_clock : (a b : ℕ) (v w : Raster) → Alike r a b v w → Alike r (a - 1) (b - ends_next v) (raster_clocked v) (raster_clocked w)
  alike_clock a b v w k =
      let x = k.column in
      record {
        column = _;
        frame = if eqb x r.r0 then frame_moved r k.frame else k.frame;
        hsync = _;
        hsync' = _;
        vsync = _;
        vsync' = _;
        left = ap raster_clocked k.left ∙ screen_clocked x k.hsync k.vsync k.frame (eqb x r.r0) refl;
        right = ap raster_clocked k.right ∙ screen_clocked x k.hsync' k.vsync' k.frame (eqb x r.r0) refl;
        near_h = near_step a k.hsync k.hsync' (eqb (column_on x) r.r2) (r.r3 % 16) k.near_h;
        near_v = rw (ap ends_next k.left) (near_line b k.vsync k.vsync' (eqb x r.r0) (frame_moved r k.frame) k.near_v);
      }

  alike_as : (v w : Raster) {a b c d : ℕ} → a ≡ c → b ≡ d → Alike r a b v w → Alike r c d v w
  alike_as v w e o k = rw (← e, ← o) k

  alike_after :
      (n a b : ℕ) (v w : Raster) → Alike r a b v w
      → Alike r (a - n) (b - ends_of n v) (after n raster_clocked v) (after n raster_clocked w)
  unfolding after ends_of
  alike_after zero a b v w k = alike_as v w (sym (sub-zero a)) (sym (sub-zero b)) k
  alike_after (suc n) a b v w k =
      let p : a - n - 1 ≡ a - suc n = omega arith in
      let q : b - ends_of n v - ends_next (after n raster_clocked v) ≡ b - (ends_of n v + ends_next (after n raster_clocked v)) = omega arith in
      alike_as _ _ p q (alike_clock _ _ _ _ (alike_after n a b v w k))

  -- as many clocks and line ends as can be left of the two pulses
  pub forgotten :
      (n a b : ℕ) (v w : Raster) → Alike r a b v w → a ≤ n → b ≤ ends_of n v → after n raster_clocked v ≡ after n raster_clocked w
  forgotten n a b v w k p q =
      let j = alike_after n a b v w k in
      let x = near_none (a - n) _ _ (omega arith) j.near_h in
      let y = near_none (b - ends_of n v) _ _ (omega arith) j.near_v in
      j.left ∙ (λ t. screen r j.column (x t) (y t) j.frame) ∙ sym j.right
