-- What the code holds while it goes through lines: the bench without the 6532's RAM, which is lent beside it.
use Rattle.std.specs.Prelude.{List, ℕ}
use Rattle.replies.specs.declared.Reply.{Reply}
use Rattle.riot6532.specs.Record.{beside}
use Rattle.session.specs.declared.Bench.{Bench}
use Rattle.session.specs.declared.Core.{Core}
use Rattle.session.specs.declared.Stepped.{Stepped}

-- the bench that a RAM and a core are, and its core
abbrev pub joined : List ℕ → Core → Bench
joined m c = record { via = c.via; tpi = c.tpi; riot = beside m c.io; crtc = c.crtc }

abbrev pub core_of : Bench → Core
core_of b = record { via = b.via; tpi = b.tpi; io = b.riot.io; crtc = b.crtc }

-- what a frame leaves of RAM and core, and its reply
abbrev pub stepped : List ℕ → Core → Reply → Stepped
stepped m c r = record { bench = joined m c; reply = r }
