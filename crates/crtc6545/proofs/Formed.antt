-- What the test of a well-formed record says, and the test from what it says.
use mathlib.Core.Path.{◌≡◌}
use mathlib.Core.Bool.{true}
use Prim.Native.Nat.{◌<◌}
use Rattle.clocks.proofs.Ranges.{within_all, all_within}
use Rattle.raster.specs.Record.{well_raster}
use Rattle.crtc6545.specs.Record.{well_formed}
use Rattle.crtc6545.specs.declared.Crtc.{Crtc}

pub record Formed (v : Crtc) : Type 0 where
  pub raster : well_raster v.raster ≡ true
  pub r16 : v.light.r16 < 64
  pub address : v.address < 32
  pub r17 : v.light.r17 < 256

pub formed : (v : Crtc) → well_formed v ≡ true → Formed v
unfolding well_formed
formed v w =
    let h = within_all (well_raster v.raster) _ w in
    record { raster = h.0; r16 = h.1.0; address = h.1.1.0; r17 = h.1.1.1.0 }

pub well : (v : Crtc) → Formed v → well_formed v ≡ true
unfolding well_formed
well v h = all_within (well_raster v.raster) _ h.raster (h.r16, (h.address, (h.r17, tt)))
