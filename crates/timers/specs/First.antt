-- T1, the first timer: which counter its mark goes with, and one clock of it.
use Rattle.std.specs.Prelude.{ℕ, ◌-◌, Bool, true, false, not, ◌&&◌, ◌||◌, ◌==◌, if◌then◌else◌}
use Rattle.timers.specs.declared.T1.{T1}

-- a set mark goes with a counter of 65,535, a clear one with any
abbrev pub mark_fits : Bool → ℕ → Bool
mark_fits mark counter = not mark || counter == 65535

-- T1 counting, at c
abbrev pub at : ℕ → T1 → T1
at c t =
    record {
      counter = c;
      latch = t.latch;
      armed = t.armed;
      mark = false;
      level = t.level;
      flag = t.flag;
      free = t.free;
    }

-- every passing of zero sets the mark. Free-run also sets the flag and inverts the level, and leaves the arming. An armed
-- one-shot also sets the flag and disarms, and its level goes high; a disarmed one sets the mark alone
abbrev pub passed : T1 → T1
passed t =
    record {
      counter = 65535;
      latch = t.latch;
      armed = t.free && t.armed;
      mark = true;
      level = if t.free then not t.level else t.armed || t.level;
      flag = t.free || t.armed || t.flag;
      free = t.free;
    }

-- a reload that is due takes the whole clock; else the counter falls, and 0 is followed by the passing
unfoldable pub clocked : T1 → T1
clocked t =
    if t.mark then at t.latch t else
    (if t.counter == 0 then passed t else
    at (t.counter - 1) t)
