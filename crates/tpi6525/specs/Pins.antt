-- The levels outside.
use Rattle.std.specs.Prelude.{ℕ}
use Rattle.inputs.specs.Inputs.{pinned}
use Rattle.ports.specs.Ports.{under}
use Rattle.tpi6525.specs.declared.Tpi.{Tpi}

-- the new levels are taken over; those of port C are the inputs', whose edges are from the levels before the call, whatever the directions
abbrev pub pins_of : ℕ → ℕ → ℕ → Tpi → Tpi
pins_of pa pb pc v =
    record {
      a = under pa v.a;
      b = under pb v.b;
      c = under pc v.c;
      cr = v.cr;
      inputs = pinned v.cr v.c.outside pc v.inputs;
    }
