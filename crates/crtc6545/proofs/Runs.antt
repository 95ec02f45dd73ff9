-- n clocks: the strobe is the first one's, the kept signals are those before the last, and the raster runs by itself.
use mathlib.Core.Path.{◌≡◌, refl, ap, ◌∙◌}
use Prim.Native.Nat.{ℕ, zero, suc}
use native.Mathlib.Omega.{arith}
use Rattle.std.proofs.lemmas.Bool.Decides.{nat_tests}
use Rattle.clocks.specs.Clocks.{after}
use Rattle.raster.specs.Clock.{raster_clocked}
use Rattle.raster.specs.Signals.{signals_of}
use Rattle.crtc6545.specs.Clock.{strobed, kept_of, clock_of}
use Rattle.crtc6545.specs.declared.Light.{Light}
use Rattle.crtc6545.specs.declared.Crtc.{Crtc}

-- a strobe leaves none waiting
strobed_once : (x y : ℕ) (p : Light) → strobed x (strobed y p) ≡ strobed y p
unfolding strobed
strobed_once x y p = grind (arith, nat_tests)

-- the record with its raster n + 1 clocks on and the pen's part as given
abbrev pub moved : ℕ → Light → Crtc → Crtc
moved n p v =
    record {
      raster = raster_clocked (after n raster_clocked v.raster);
      address = v.address;
      light = p;
      kept = kept_of (after n raster_clocked v.raster);
    }

pub after_moved : (n : ℕ) (v : Crtc) → after (suc n) clock_of v ≡ moved n (strobed (signals_of v.raster).ma v.light) v
unfolding after clock_of
after_moved zero v = refl
after_moved (suc n) v = ap clock_of (after_moved n v) ∙ rw (strobed_once _ (signals_of v.raster).ma v.light)
