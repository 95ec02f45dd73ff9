-- What a read gives and leaves, what a write leaves, and which operands are refused.
use Rattle.std.specs.Prelude.{Bool, not, ◌&&◌, ◌||◌, ℕ, ◌+◌, ◌%◌, eqb, ltb, Option, None, Some, if◌then◌else◌}
use Rattle.calls.specs.declared.Refusal.{Refusal}
use Rattle.calls.specs.declared.Refusal.TheVariants.{NoRegister, LeftOut}
use Rattle.raster.specs.Record.{allowed_r8}
use Rattle.raster.specs.Access.{stored}
use Rattle.raster.specs.Signals.{signals_of}
use Rattle.crtc6545.specs.declared.Crtc.{Crtc}

-- ---- reads

-- the status: bit 6 (64) pen full, bit 5 (32) blanking
unfoldable pub status_of : Crtc → ℕ
status_of v = (if v.light.full then 64 else 0) + (if (signals_of v.raster).blanking then 32 else 0)

-- register k: R14 to R17 read back, the others read 0
unfoldable pub register_of : ℕ → Crtc → ℕ
register_of k v =
    if eqb k 14 then v.raster.registers.r14 else
    (if eqb k 15 then v.raster.registers.r15 else
    (if eqb k 16 then v.light.r16 else
    (if eqb k 17 then v.light.r17 else
    0)))

-- address 0 gives the status, address 1 the register that the address register names
abbrev pub data_of : ℕ → Crtc → ℕ
data_of a v = if eqb a 0 then status_of v else register_of v.address v

-- nothing drives R31
abbrev pub undriven_of : ℕ → Crtc → Bool
undriven_of a v = eqb a 1 && eqb v.address 31

-- at address 1 a read of R16 or R17 clears full; every other read leaves the record
unfoldable pub read_of : ℕ → Crtc → Crtc
read_of a v =
    record {
      raster = v.raster;
      address = v.address;
      light =
          record {
            r16 = v.light.r16;
            r17 = v.light.r17;
            full = v.light.full && not (eqb a 1 && (eqb v.address 16 || eqb v.address 17));
            pen = v.light.pen;
            waiting = v.light.waiting;
          };
      kept = v.kept;
    }

-- an address above 1 names no register
abbrev pub read_asks : ℕ → Option Refusal
read_asks a = if ltb 1 a then Some NoRegister else None

-- ---- writes

-- address 0 takes the low five bits into the address register, address 1 writes the register that it names
unfoldable pub write_of : ℕ → ℕ → Crtc → Crtc
write_of a x v =
    record {
      raster = if eqb a 0 then v.raster else stored v.address x v.raster;
      address = if eqb a 0 then x % 32 else v.address;
      light = v.light;
      kept = v.kept;
    }

-- a write of R8 with a bit set that picks something left out
abbrev pub refused_form : ℕ → ℕ → Crtc → Bool
refused_form a x v = eqb a 1 && eqb v.address 8 && not (allowed_r8 x)

-- an address above 1 names no register; a form of R8 that is not allowed is left out
abbrev pub write_asks : ℕ → ℕ → Crtc → Option Refusal
write_asks a x v = if ltb 1 a then Some NoRegister else (if refused_form a x v then Some LeftOut else None)
