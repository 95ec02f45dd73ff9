-- A leap: lines left out of a run, where at least sixteen are left that make up for HSYNC and VSYNC.
use Rattle.std.proofs.Common.{◌≡◌, ℕ, suc, ◌+◌, ◌-◌, ◌*◌, ◌/◌, ◌%◌, ◌<◌, ◌≤◌, Bool, true, ◌&&◌, ltb, sym, refl, ap, ◌∙◌, mul-le-mul_right, add-mul, div-add-mod', le-div_iff_mul-le, arith, ltb-true}
use Rattle.clocks.specs.Clocks.{after}
use Rattle.clocks.proofs.Clocks.{after_add, after_keeps}
use Rattle.clocks.proofs.Tests.{both}
use Rattle.raster.specs.Record.{well_raster}
use Rattle.raster.specs.Clock.{frame_moved, line_ended, raster_clocked}
use Rattle.raster.specs.Closed.{gap}
use Rattle.raster.specs.declared.Registers.{Registers}
use Rattle.raster.specs.declared.Frame.{Frame}
use Rattle.raster.specs.declared.Raster.{Raster}
use Rattle.raster.proofs.Formed.{formed}
use Rattle.raster.proofs.Keeps.{clocked_well}
use Rattle.raster.proofs.Runs.{raster}
use Rattle.longruns.specs.Ends.{ends_of}
use Rattle.longruns.specs.Closed.{Counters, leapt_of}
use Rattle.longruns.proofs.Lines.{Passed, Lined, lines_on, from_start}
use Rattle.longruns.proofs.Forgets.{low, moved_vsync, lines_moved, Alike, forgotten}

-- line ends of the counters leave VSYNC
vsync_stays : (r : Registers) (f : Frame) (k : ℕ) → (after k (frame_moved r) f).vsync ≡ f.vsync
vsync_stays r f k =
    after_keeps (λ (x : Frame). x.vsync ≡ f.vsync) (frame_moved r)
    (λ x e. ap (λ (y : Frame). y.vsync) (moved_vsync r x.vsync x) ∙ e)
    k f refl

module _ (v : Raster) (w : well_raster v ≡ true) where
  abbrev r : Registers
  r = v.registers

  pub counters : Counters r v.frame
  counters =
      let h = formed v w in
      let a = h.registers in
      let b = h.frame in
      record {
        r4 = omega arith;
        r5 = omega arith;
        r9 = omega arith;
        start = omega arith;
        row = omega arith;
        scan = omega arith;
        adjust = omega arith;
        row_start = omega arith;
      }

  abbrev width : ℕ
  width = r.r0 + 1

  module _ (k : ℕ) where
    abbrev on : Frame
    on = after (suc k) (line_ended r) v.frame

    lined : Lined r v.line v.frame (suc (gap v.line.column r.r0) + k * width) (suc k)
    lined =
        let h = formed v w in
        let b = h.registers in
        let c = h.line in
        lines_on r (omega arith) (omega arith) k v.line (omega arith) v.frame

    on_well : well_raster (raster r lined.line on) ≡ true
    on_well =
        rw (← ap (λ (p : Passed). p.raster) lined.lined)
        (after_keeps (λ (u : Raster). well_raster u ≡ true) raster_clocked clocked_well _ v w)

    alike : Alike r 16 16 (raster r lined.line on) (leapt_of (suc k) v)
    alike =
        let h = formed v w in
        let i = formed _ on_well in
        let b = h.line in
        let c = h.frame in
        let d = i.line in
        let e = i.frame in
        let s = vsync_stays r v.frame (suc k) in
        let z = lined.column in
        let g = lines_moved r (suc k) v.frame in
        record {
          column = 0;
          frame = after (suc k) (frame_moved r) v.frame;
          hsync = lined.line.hsync;
          hsync' = (leapt_of (suc k) v).line.hsync;
          vsync = on.vsync;
          vsync' = (after (suc k) (frame_moved r) v.frame).vsync;
          left = λ j. raster r (record { column = z j; hsync = lined.line.hsync }) (g j);
          right = refl;
          near_h = low (omega arith) (omega arith);
          near_v = low (omega arith) (omega arith);
        }

    many : (t : ℕ) → 16 * width ≤ t → 16 ≤ ends_of t (raster r lined.line on)
    many t l =
        let h = formed v w in
        let b = h.registers in
        rw (from_start r (omega arith) (omega arith) t lined.line lined.column on)
        ((le-div_iff_mul-le {k = width} {x = 16} {y = t} (omega arith)).1 l)

    leap :
        (n t : ℕ) → n ≡ suc (gap v.line.column r.r0) + k * width + t → 16 * width ≤ t
        → after n raster_clocked v ≡ after t raster_clocked (leapt_of (suc k) v)
    leap n t e l =
        ap (λ (x : ℕ). after x raster_clocked v) e
        ∙ after_add _ t raster_clocked v
        ∙ ap (λ (p : Passed). after t raster_clocked p.raster) lined.lined
        ∙ forgotten r t 16 16 _ _ alike (omega arith) (many t l)

  -- as the code comes to it: c lines are left, and d is one less
  module _ (n a c d : ℕ) (e : a ≡ gap v.line.column r.r0) (o : c ≡ suc d) (h : 16 ≤ c) where
    abbrev past : ℕ
    past = n - a - 1

    leap_far :
        a < n → c < past / width
        → after n raster_clocked v ≡ after (past % width + c * width) raster_clocked (leapt_of (past / width - d) v)
    leap_far l q =
        let k = past / width - c in
        let s : suc k ≡ past / width - d = omega arith in
        let m : past / width * width ≡ k * width + c * width =
        ap (λ (x : ℕ). x * width) (omega arith) ∙ add-mul k c width in
        let t : n ≡ suc (gap v.line.column r.r0) + k * width + (past % width + c * width) =
        omega (arith, div-add-mod' past width, m) in
        leap k n (past % width + c * width) t (omega (arith, mul-le-mul_right width h))
        ∙ ap (λ (x : ℕ). after (past % width + c * width) raster_clocked (leapt_of x v)) s

-- what the test for a leap says of n clocks, a of them before the one that ends the line
pub record Far (v : Raster) (n a : ℕ) : Type 0 where
  pub well : well_raster v ≡ true
  pub ends : a ≡ gap v.line.column v.registers.r0
  pub past : a < n
  pub lines : 20 ≤ (n - a - 1) / (v.registers.r0 + 1)

pub far_is :
    (v : Raster) (n a : ℕ) (b : Bool)
    → b ≡ (ltb (gap v.line.column v.registers.r0 + 20 * (v.registers.r0 + 1)) n && well_raster v)
    → b ≡ true → a ≡ gap v.line.column v.registers.r0 → Far v n a
far_is v n a b e t q =
    let p = both _ _ (sym e ∙ t) in
    let h : gap v.line.column v.registers.r0 + 20 * (v.registers.r0 + 1) < n = ltb-true _ _ p.0 in
    let l = (le-div_iff_mul-le {k = v.registers.r0 + 1} {x = 20} {y = n - a - 1} (omega arith)).1 (omega arith) in
    record { well = p.1; ends = q; past = omega arith; lines = l }

module _ {v : Raster} {n a : ℕ} (f : Far v n a) where
  -- the leap, with c lines left and d one less
  pub leaps :
      (c d : ℕ) → c ≡ suc d → 16 ≤ c → c < 20
      → after n raster_clocked v
      ≡ after ((n - a - 1) % (v.registers.r0 + 1) + c * (v.registers.r0 + 1)) raster_clocked
      (leapt_of ((n - a - 1) / (v.registers.r0 + 1) - d) v)
  leaps c d o h l =
      let p = f.past in
      let q = f.lines in
      leap_far v f.well n a c d f.ends o h p (omega arith)
