-- The levels outside.
use Rattle.std.specs.Prelude.{◌||◌, ℕ}
use Rattle.clocks.specs.Bits.{bit}
use Rattle.ports.specs.Ports.{edge, under}
use Rattle.riot6532.specs.Record.{beside}
use Rattle.riot6532.specs.declared.Io.{Io}
use Rattle.riot6532.specs.declared.Riot.{Riot}

-- the new levels are taken over, and the chosen edge of PA7's sets its flag, enabled or not
abbrev pub io_pinned : ℕ → ℕ → Io → Io
io_pinned pa pb io =
    record {
      a = under pa io.a;
      b = under pb io.b;
      timer = io.timer;
      pa7 =
          record {
            flag = io.pa7.flag || edge io.pa7.rising (bit 7 io.a.outside) (bit 7 pa);
            enable = io.pa7.enable;
            rising = io.pa7.rising;
          };
    }

abbrev pub pins_of : ℕ → ℕ → Riot → Riot
pins_of pa pb v = beside v.ram (io_pinned pa pb v.io)
