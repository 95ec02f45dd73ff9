-- The record: which ones are well formed, what it has at power-up, and what a reset does to it.
use Rattle.std.specs.Prelude.{Bool, true, false, ◌&&◌, ℕ, ◌/◌, ◌%◌, ltb, leb}
use Rattle.ports.specs.Ports.{fresh, silent}
use Rattle.flags.specs.Flags.{allowed_pcr}
use Rattle.timers.specs.First.{mark_fits}
use Rattle.shifter.specs.Shifter.{allowed_mode}
use Rattle.via6522.specs.declared.Count1.{Count1}
use Rattle.via6522.specs.declared.Count2.{Count2}
use Rattle.via6522.specs.declared.Serial.{Serial}
use Rattle.via6522.specs.declared.Via.{Via}

-- bits 4 to 2 of ACR are the shift mode
abbrev pub mode_of : ℕ → ℕ
mode_of acr = acr / 4 % 8

abbrev pub allowed_acr : ℕ → Bool
allowed_acr acr = allowed_mode (mode_of acr)

-- no flag and no enable above the seven, no mode that is left out, the reload mark only where T1 reads 65,535, four control levels, and
-- at most eight shifts to come
abbrev pub well_formed : Via → Bool
well_formed v =
    ltb v.ifr 128
    && ltb v.ier 128
    && allowed_acr v.acr
    && allowed_pcr v.pcr
    && mark_fits v.t1.mark v.t1.counter
    && ltb v.control 16
    && leb v.sr.left 8

-- T1 disarmed and with no reload to come, and its level high
abbrev pub idle1 : Count1 → Count1
idle1 t = record { counter = t.counter; latch = t.latch; armed = false; mark = false; level = true }

abbrev pub idle2 : Count2 → Count2
idle2 t = record { counter = t.counter; low = t.low; armed = false }

-- no shift to come, the half-clock mark and the CB2 output clear
abbrev pub idle3 : Serial → Serial
idle3 s = record { byte = s.byte; left = 0; half = false; output = false }

-- a reset clears ports, modes, flags and enables, disarms the timers and stops the shifts; counters, latches, SR's byte, the kept lines and
-- the levels outside stay
unfoldable pub reset_of : Via → Via
reset_of v =
    record {
      a = silent v.a;
      kept_a = v.kept_a;
      b = silent v.b;
      kept_b = v.kept_b;
      t1 = idle1 v.t1;
      t2 = idle2 v.t2;
      sr = idle3 v.sr;
      acr = 0;
      pcr = 0;
      ifr = 0;
      ier = 0;
      control = v.control;
    }

-- at power-up counters and latches are all ones, every level outside is high, SR's byte is 0, nothing is kept, and the rest is as after a
-- reset
abbrev pub power_up : Via
power_up =
    record {
      a = fresh;
      kept_a = 0;
      b = fresh;
      kept_b = 0;
      t1 = record { counter = 65535; latch = 65535; armed = false; mark = false; level = true };
      t2 = record { counter = 65535; low = 255; armed = false };
      sr = record { byte = 0; left = 0; half = false; output = false };
      acr = 0;
      pcr = 0;
      ifr = 0;
      ier = 0;
      control = 15;
    }
