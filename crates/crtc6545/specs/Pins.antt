-- What a new level of the light pen leaves.
use Rattle.std.specs.Prelude.{not, ◌&&◌, ◌||◌, ℕ, eqb, ltb, Option, None, Some, if◌then◌else◌}
use Rattle.calls.specs.declared.Refusal.{Refusal}
use Rattle.calls.specs.declared.Refusal.TheVariants.{NoLevel}
use Rattle.crtc6545.specs.declared.Crtc.{Crtc}

-- a rise makes a strobe wait, and nothing but a clock or a reset ends the wait
unfoldable pub pins_of : ℕ → Crtc → Crtc
pins_of x v =
    record {
      raster = v.raster;
      address = v.address;
      light =
          record {
            r16 = v.light.r16;
            r17 = v.light.r17;
            full = v.light.full;
            pen = eqb x 1;
            waiting = v.light.waiting || not v.light.pen && eqb x 1;
          };
      kept = v.kept;
    }

-- a pen level above 1 is no level
abbrev pub pins_asks : ℕ → Option Refusal
pins_asks x = if ltb 1 x then Some NoLevel else None
