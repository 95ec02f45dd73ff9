-- The interrupt line, and the record with other flags or another shift register.
use Rattle.std.specs.Prelude.{Bool, ℕ}
use Rattle.clocks.specs.Bits.{with_clear}
use Rattle.flags.specs.Flags.{interrupt}
use Rattle.via6522.specs.declared.Serial.{Serial}
use Rattle.via6522.specs.declared.Via.{Via}

-- the line is asserted while a flag is set whose enable is set
abbrev pub irq_of : Via → Bool
irq_of v = interrupt v.ifr v.ier

abbrev pub with_ifr : ℕ → Via → Via
with_ifr x v =
    record {
      a = v.a;
      kept_a = v.kept_a;
      b = v.b;
      kept_b = v.kept_b;
      t1 = v.t1;
      t2 = v.t2;
      sr = v.sr;
      acr = v.acr;
      pcr = v.pcr;
      ifr = x;
      ier = v.ier;
      control = v.control;
    }

-- the record with another shift register; its flag stays
abbrev pub with_sr : Serial → Via → Via
with_sr s v =
    record {
      a = v.a;
      kept_a = v.kept_a;
      b = v.b;
      kept_b = v.kept_b;
      t1 = v.t1;
      t2 = v.t2;
      sr = s;
      acr = v.acr;
      pcr = v.pcr;
      ifr = v.ifr;
      ier = v.ier;
      control = v.control;
    }

-- the flags of a mask cleared
abbrev pub cleared : ℕ → Via → Via
cleared m v = with_ifr (with_clear m v.ifr) v
