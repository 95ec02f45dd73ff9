-- The pair: when it is well formed, and one clock, which is one of each timer.
use Rattle.std.specs.Prelude.{Bool}
use Rattle.timers.specs.First as First
use Rattle.timers.specs.Second as Second
use Rattle.timers.specs.declared.Timers.{Timers}

abbrev pub well_formed : Timers → Bool
well_formed p = First.mark_fits p.t1.mark p.t1.counter

abbrev pub clocked : Timers → Timers
clocked p = record { t1 = First.clocked p.t1; t2 = Second.clocked p.t2 }
