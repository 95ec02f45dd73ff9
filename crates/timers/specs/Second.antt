-- T2, the second timer: one count and one clock of it.
use Rattle.std.specs.Prelude.{Bool, not, ◌&&◌, ◌||◌, ◌==◌, if◌then◌else◌}
use Rattle.clocks.specs.Clocks.{lower}
use Rattle.timers.specs.declared.T2.{T2}

-- the counter goes round; only the wrap of an armed timer sets the flag, and no later one does
unfoldable pub counted : T2 → T2
counted t =
    record {
      counter = lower 65536 t.counter;
      low = t.low;
      armed = t.armed && not (t.counter == 0);
      flag = t.armed && t.counter == 0 || t.flag;
      pulse = t.pulse;
    }

-- a clock counts unless pulses do
unfoldable pub clocked : T2 → T2
clocked t = if t.pulse then t else counted t

-- a fall of PB6 counts where pulses do
unfoldable pub pulsed : Bool → T2 → T2
pulsed fall t = if t.pulse && fall then counted t else t
