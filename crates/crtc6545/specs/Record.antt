-- The record: which records are well formed, what power-up gives, and what a reset changes.
use Rattle.std.specs.Prelude.{Bool, false, [], ◌∷◌}
use Rattle.clocks.specs.Ranges.{within}
use Rattle.raster.specs.Record.{well_raster, raster_up, restarted}
use Rattle.crtc6545.specs.declared.Crtc.{Crtc}

-- the raster well formed, R16 of six bits, R17 of eight, an address register of five; no relation between fields is asked
unfoldable pub well_formed : Crtc → Bool
well_formed v = within (well_raster v.raster) ((v.light.r16, 64) ∷ (v.address, 32) ∷ (v.light.r17, 256) ∷ [])

-- reset starts the raster again, with no kept signal and no waiting strobe;
-- the registers, the address register, the pen's level, its R16/R17 and full stay
unfoldable pub reset_of : Crtc → Crtc
reset_of v =
    record {
      raster = restarted v.raster;
      address = v.address;
      light =
          record {
            r16 = v.light.r16;
            r17 = v.light.r17;
            full = v.light.full;
            pen = v.light.pen;
            waiting = false;
          };
      kept = record { de = false; cursor = false };
    }

-- power-up: registers and address register 0, pen low, not full, and the rest as a reset leaves it
unfoldable pub power_up : Crtc
power_up =
    record {
      raster = raster_up;
      address = 0;
      light = record { r16 = 0; r17 = 0; full = false; pen = false; waiting = false };
      kept = record { de = false; cursor = false };
    }
