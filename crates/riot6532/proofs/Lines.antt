-- Clocks move only the timer; so the timer says when the interrupt line is asserted.
use Rattle.std.specs.Prelude.{if◌then◌else◌}
use mathlib.Core.Path.{◌≡◌, refl, sym, ap, ap₂, ◌∙◌}
use mathlib.Core.Bool.{Bool, true, false, ◌&&◌, ◌||◌}
use mathlib.Core.Logic.{◌↔◌}
use Prim.Native.Nat.{ℕ}
use lib.Dec.{leb-zero}
use native.Mathlib.Omega.{arith}
use Rattle.std.proofs.lemmas.Bool.Decides.{nat_tests}
use Rattle.clocks.specs.Clocks.{after}
use Rattle.clocks.specs.Forecasts.{comes}
use Rattle.clocks.specs.declared.Forecast.{Forecast}
use Rattle.clocks.specs.declared.Forecast.TheVariants.{Never, In}
use Rattle.clocks.proofs.Clocks.{part_after, after_keeps}
use Rattle.clocks.proofs.Forecasts.{gate_comes, sooner_comes}
use Rattle.interval.specs.Timer.{well_timed, clocked, Due}
use Rattle.interval.specs.declared.Timer.{Timer}
use Rattle.interval.proofs.Clocked.{keeps_enable}
use Rattle.riot6532.specs.Record.{beside, with_timer}
use Rattle.riot6532.specs.Flags.{irq_of, Raised}
use Rattle.riot6532.specs.Clock.{clock_of}
use Rattle.riot6532.specs.Closed.{soonest_of}
use Rattle.riot6532.specs.declared.Io.{Io}
use Rattle.riot6532.specs.declared.Riot.{Riot}

abbrev timer_of : Riot → Timer
timer_of v = v.io.timer

abbrev with_timer_of : Riot → Timer → Riot
with_timer_of v t = beside v.ram (with_timer t v.io)

pub timer_after : (n : ℕ) (v : Riot) → after n clock_of v ≡ with_timer_of v (after n clocked (timer_of v))
timer_after =
    part_after clocked timer_of with_timer_of
    (record { put_get = λ v. refl; put_put = λ v t u. refl; get_put = λ v. refl })

enable_after : (n : ℕ) (t : Timer) → (after n clocked t).enable ≡ t.enable
enable_after n t = after_keeps (λ u. u.enable ≡ t.enable) clocked (λ u e. keeps_enable u ∙ e) n t refl

-- the line, any number of clocks ahead
pub line_due :
    (v : Riot) (f : Forecast) → well_timed v.io.timer ≡ true → Due v.io.timer f
    → (k : ℕ) → irq_of (after k clock_of v).io ≡ comes (soonest_of f v.io) k
line_due v f w d k =
    let t = v.io.timer in
    let other = v.io.pa7.flag && v.io.pa7.enable in
    ap (λ (u : Riot). irq_of u.io) (timer_after k v)
    ∙ ap₂ (λ (f e : Bool). f && e || other) (d.told w k) (enable_after k t)
    ∙ sym
    (sooner_comes (if t.enable then f else Never) (if other then In 0 else Never) k
    ∙ ap₂ ◌||◌ (gate_comes t.enable f k) (stands other))
  where
    stands : (b : Bool) → comes (if b then In 0 else Never) k ≡ b
    stands true = leb-zero k
    stands false = refl

-- the line's test, both ways
pub raised : (io : Io) → (irq_of io ≡ true) ↔ Raised io
raised io = grind (arith, nat_tests)
