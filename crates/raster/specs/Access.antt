-- What a write of a register leaves.
use Rattle.std.specs.Prelude.{ℕ, ◌%◌, ◌==◌, if◌then◌else◌}
use Rattle.raster.specs.Record.{size_of}
use Rattle.raster.specs.declared.Registers.{Registers}
use Rattle.raster.specs.declared.Raster.{Raster}

-- register k takes x; R16, R17 and those above R19 take nothing
abbrev pub put : ℕ → ℕ → Registers → Registers
put k x r =
    record {
      r0 = if k == 0 then x else r.r0;
      r1 = if k == 1 then x else r.r1;
      r2 = if k == 2 then x else r.r2;
      r3 = if k == 3 then x else r.r3;
      r4 = if k == 4 then x else r.r4;
      r5 = if k == 5 then x else r.r5;
      r6 = if k == 6 then x else r.r6;
      r7 = if k == 7 then x else r.r7;
      r8 = if k == 8 then x else r.r8;
      r9 = if k == 9 then x else r.r9;
      r10 = if k == 10 then x else r.r10;
      r11 = if k == 11 then x else r.r11;
      r12 = if k == 12 then x else r.r12;
      r13 = if k == 13 then x else r.r13;
      r14 = if k == 14 then x else r.r14;
      r15 = if k == 15 then x else r.r15;
      r18 = if k == 18 then x else r.r18;
      r19 = if k == 19 then x else r.r19;
    }

-- a write keeps as many bits of the value as the register has
unfoldable pub stored : ℕ → ℕ → Raster → Raster
stored k x v = record { registers = put k (x % size_of k) v.registers; line = v.line; frame = v.frame }
