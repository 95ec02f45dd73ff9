-- The outcomes of the 6545, each tested by computing its clocks one by one.
use mathlib.Core.Path.{◌≡◌}
use mathlib.Core.Bool.{Bool, true, ◌&&◌}
use Prim.Native.Nat.{ℕ, ◌*◌, ◌/◌, ◌%◌}
use lib.Dec.{eqb}
use borrow.Author.Tests.{eqb-true}
use Rattle.clocks.proofs.Tests.{both}
use Rattle.raster.specs.Signals.{signals_of}
use Rattle.crtc6545.specs.Clock.{clock_of}
use Rattle.crtc6545.specs.declared.Crtc.{Crtc}
use Rattle.marked.specs.Cases.{field45, Outcome45, frame_of◌clocks, start◌row◌column◌MA◌, Shows45}
use Rattle.marked.proofs.Tests.{along, along_holds}

-- after k clocks, as many frames are over as n clocks go into k
abbrev counts : ℕ → ℕ → Crtc → Bool
counts n k v = eqb v.raster.frame.field (k / n % 32)

abbrev pub passes45 : Outcome45 → Crtc → Bool
passes45 (frame_of n clocks) v = along clock_of (counts n) (32 * n) 0 v
passes45 (start s row r column c MA x) v =
    eqb v.raster.frame.frame_start s
    && eqb v.raster.frame.row r
    && eqb v.raster.line.column c
    && eqb (signals_of v.raster).ma x

pub passes45_holds : (o : Outcome45) (v : Crtc) → passes45 o v ≡ true → Shows45 o v
passes45_holds (frame_of n clocks) v e =
    λ k h. eqb-true (field45 k v) (k / n % 32) (along_holds clock_of (counts n) (32 * n) v e k h)
passes45_holds (start s row r column c MA x) v h =
    let d = both _ _ h in
    let b = both _ _ d.0 in
    let a = both _ _ b.0 in
    record {
      started = eqb-true _ s a.0;
      at_row = eqb-true _ r a.1;
      at_column = eqb-true _ c b.1;
      shown = eqb-true _ x d.1;
    }
