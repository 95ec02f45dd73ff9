-- The outcome of the 6532: a test of it by when its timer's flag is due, and why a record that passes it shows the outcome.
use mathlib.Core.Path.{◌≡◌, ap, ◌∙◌}
use mathlib.Core.Bool.{Bool, true, ◌&&◌}
use Rattle.clocks.specs.declared.Forecast.TheVariants.{In}
use Rattle.clocks.proofs.Tests.{both}
use Rattle.interval.specs.Timer.{well_timed}
use Rattle.interval.specs.Closed.{due_of}
use Rattle.interval.proofs.Runs.{flag_due}
use Rattle.riot6532.specs.declared.Riot.{Riot}
use Rattle.riot6532.proofs.Lines.{timer_after}
use Rattle.marked.specs.Cases.{Outcome32, timer_flag_at, Shows32}
use Rattle.marked.proofs.Tests.{same, same_comes}

abbrev pub passes32 : Outcome32 → Riot → Bool
passes32 (timer_flag_at n) v = well_timed v.io.timer && same (due_of v.io.timer) (In n)

pub passes32_holds : (o : Outcome32) (v : Riot) → passes32 o v ≡ true → Shows32 o v
passes32_holds (timer_flag_at n) v h =
    let t = v.io.timer in
    let b = both _ _ h in
    λ k. ap (λ (u : Riot). u.io.timer.flag) (timer_after k v) ∙ flag_due t b.0 k ∙ same_comes (due_of t) (In n) b.1 k
