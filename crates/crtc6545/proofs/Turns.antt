-- The turns of a run: of two runs in a row, and how many there can be.
use Rattle.std.specs.Prelude.{Option, None, Some}
use mathlib.Core.Path.{◌≡◌, refl, sym, ap, ◌∙◌}
use mathlib.Core.Bool.{Bool, true, false}
use Prim.Native.Nat.{ℕ, zero, suc, ◌+◌, ◌/◌, ◌<◌, ◌≤◌, zero-le}
use native.Mathlib.Nat.{zero-add, add-zero}
use native.Mathlib.Omega.{arith}
use borrow.Author.Tests.{ne_eqb}
use Rattle.std.proofs.lemmas.Bool.Decides.{nat_tests}
use Rattle.clocks.specs.Clocks.{after}
use Rattle.clocks.proofs.Tests.{on_true, on_false}
use Rattle.chips.specs.Chips.{first}
use Rattle.chips.proofs.Chips.{accepts_only_well, runs_well}
use Rattle.calls.specs.declared.Call45.TheVariants.{Run}
use Rattle.calls.specs.declared.Refusal.{Refusal}
use Rattle.calls.specs.declared.Refusal.TheVariants.{IllFormed}
use Rattle.raster.specs.Clock.{raster_clocked}
use Rattle.raster.specs.declared.Raster.{Raster}
use Rattle.raster.proofs.Formed as Rasters
use Rattle.longruns.specs.Ends.{ends_of, turns_of}
use Rattle.longruns.proofs.Lines.{ends_add, ends_most, turns_few}
use Rattle.crtc6545.specs.Record.{well_formed}
use Rattle.crtc6545.specs.Clock.{clock_of, joined, longest_run, run_asks}
use Rattle.crtc6545.specs.Chip.{chip, accepted, refused, clocked, running_of}
use Rattle.crtc6545.specs.Demands
use Rattle.crtc6545.specs.declared.Crtc.{Crtc}
use Rattle.crtc6545.specs.declared.Running.{Running}
use Rattle.crtc6545.proofs.Formed.{formed}
use Rattle.crtc6545.proofs.Lawful.{run_taken, lawful, ticks}
use Rattle.crtc6545.proofs.Readings.{running, runs, runs_none}

-- ---- clocks of the raster

turns_join : (a b : ℕ) (v : Raster) → turns_of (a + b) v ≡ joined (turns_of a v) (turns_of b (after a raster_clocked v))
unfolding after turns_of
turns_join zero b v = ap (λ (k : ℕ). turns_of k v) (zero-add b)
turns_join (suc a) zero v =
    ap (λ (k : ℕ). turns_of k v) (add-zero (suc a)) ∙ sym (rw (ne_eqb (ends_of (suc a) v + 1) 0 (omega arith)))
turns_join (suc a) (suc b) v =
    let e : suc a + suc b ≡ suc (a + suc b) = omega arith in
    let y = ends_of (suc b) (after (suc a) raster_clocked v) in
    ap (λ (k : ℕ). turns_of k v) e
    ∙ ap (λ (k : ℕ). k + 1) (sym (ap (λ (k : ℕ). ends_of k v) e) ∙ ends_add (suc a) (suc b) v)
    ∙ sym (rw (ne_eqb (ends_of (suc a) v + 1) 0 (omega arith), ne_eqb (y + 1) 0 (omega arith)) (omega arith))

-- ---- runs, accepted and refused

raster_after : (n : ℕ) (v : Crtc) → (after n clock_of v).raster ≡ after n raster_clocked v.raster
unfolding after clock_of
raster_after zero v = refl
raster_after (suc n) v = ap raster_clocked (raster_after n v)

module _ (n : ℕ) (b : Bool) (v : Crtc) where
  running_well : well_formed v ≡ true → n ≤ longest_run b → running_of n b v ≡ running (turns_of n v.raster) (accepted 0 (after n clock_of v))
  running_well w h = runs n b v None (sym (on_true (well_formed v) _ _ w ∙ run_taken n b h)) refl

  running_ill : well_formed v ≡ false → running_of n b v ≡ running 0 (refused IllFormed v)
  running_ill w = runs_none n b v (Some IllFormed) (sym (on_false (well_formed v) _ _ w)) IllFormed refl

  -- a property of 0, and of the turns of a run that is not refused
  turns_by :
      (P : ℕ → Type 0) → P 0 → (well_formed v ≡ true → run_asks n b ≡ None → P (turns_of n v.raster)) → P (running_of n b v).turns
  turns_by P p q = go (first chip (Run n b) v) refl
    where
      go : (k : Option Refusal) → first chip (Run n b) v ≡ k → P (running_of n b v).turns
      go (Some r) z = rw (ap (λ (x : Running). x.turns) (runs_none n b v _ refl r z)) p
      go None z =
          let w = accepts_only_well chip (Run n b) v _ refl z in
          rw (ap (λ (x : Running). x.turns) (runs n b v _ refl z)) (q w (sym (on_true (well_formed v) _ _ w) ∙ z))

-- ---- the demands

pub turns_add : Demands.TurnsAdd
unfolding accepted refused
turns_add b v m n h = go (well_formed v) refl
  where
    go :
        (t : Bool) → well_formed v ≡ t
        → (running_of (m + n) b v).turns ≡ joined (running_of m b v).turns (running_of n b (running_of m b v).answer.crtc).turns
    go true w =
        unfold accepted in
        rw (running_well (m + n) b v w h, running_well m b v w (omega arith), running_well n b (after m clock_of v) (runs_well chip lawful (clocked b) (ticks b) m v w) (omega arith), raster_after m v)
        (turns_join m n v.raster)
    go false w =
        unfold refused in
        rw (running_ill (m + n) b v w, running_ill m b v w, running_ill n b v w)

pub turns_most : Demands.TurnsMost
turns_most b v n = turns_by n b v (λ k. k ≤ n / (v.raster.registers.r0 + 1) + 2) zero-le (λ w e. most n w)
  where
    most : (n : ℕ) → well_formed v ≡ true → turns_of n v.raster ≤ n / (v.raster.registers.r0 + 1) + 2
    most zero w = unfold turns_of in zero-le
    most (suc n) w =
        let f = Rasters.formed v.raster (formed v w).raster in
        let r = f.registers in
        let l = f.line in
        let m = ends_most v.raster.registers (omega arith) (omega arith) (suc n) v.raster.line (omega arith) v.raster.frame in
        unfold turns_of in omega arith

pub turns_fit : Demands.TurnsFit
turns_fit v n = turns_by n true v (λ k. k < 4294967296) (omega arith) (λ w e. omega (arith, turns_few n v.raster, short e))
  where
    short : run_asks n true ≡ None → n ≤ 4294967290
    short e = grind (arith, nat_tests)

pub turns_apart : Demands.TurnsApart
turns_apart v n h = go (well_formed v) refl
  where
    go : (t : Bool) → well_formed v ≡ t → running_of n true v ≡ running_of n false v
    go true w = running_well n true v w h ∙ sym (running_well n false v w (omega arith))
    go false w = running_ill n true v w ∙ sym (running_ill n false v w)
