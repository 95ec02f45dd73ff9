-- What every call keeps of the timer.
use mathlib.Core.Path.{◌≡◌}
use mathlib.Core.Bool.{Bool, true, false}
use Prim.Native.Nat.{ℕ, ◌<◌}
use native.Mathlib.Omega.{arith}
use Rattle.std.proofs.lemmas.Bool.Decides.{nat_tests}
use Rattle.clocks.proofs.Clocks.{after_keeps}
use Rattle.calls.specs.Calls.{Typed32}
use Rattle.calls.specs.declared.Call32.{Call32}
use Rattle.calls.specs.declared.Call32.TheVariants.{Reset, Write, Read, Pins, Run, Forecast}
use Rattle.interval.specs.Timer.{well_timed, loaded, flagged, clocked}
use Rattle.interval.specs.Demands as Interval
use Rattle.interval.specs.declared.Timer.{Timer}
use Rattle.interval.proofs.Sound.{load_well, clock_well}
use Rattle.riot6532.specs.Record.{well_formed}
use Rattle.riot6532.specs.Access.{io_written, write_of, io_read, read_of}
use Rattle.riot6532.specs.Clock.{clock_of}
use Rattle.riot6532.specs.Chip.{leaves_of}
use Rattle.riot6532.specs.declared.Riot.{Riot}

-- what a load gives, a clock keeps and a change of flag and enable keeps, every call keeps
module _ (P : Timer → Type 0)
    (load : (choice x : ℕ) (e : Bool) → x < 256 → P (loaded choice x e))
    (tick : (t : Timer) → P t → P (clocked t))
    (mark : (f e : Bool) (t : Timer) → P t → P (flagged f e t)) where
  abbrev Of : Riot → Type 0
  Of v = P v.io.timer

  read_kept : (a : ℕ) (v : Riot) → Of v → Of (read_of a v)
  unfolding read_of io_read
  read_kept a v p = grind (arith, nat_tests)

  write_kept : (a x : ℕ) (v : Riot) → x < 256 → Of v → Of (write_of a x v)
  unfolding write_of io_written
  write_kept a x v h p = grind (arith, nat_tests)

  leaves_kept : (c : Call32) (v : Riot) → Typed32 c → Of v → Of (leaves_of c v)
  leaves_kept Reset v h p = mark false false v.io.timer p
  leaves_kept (Write a x) v h p = write_kept a x v h.1 p
  leaves_kept (Read a) v h p = read_kept a v p
  leaves_kept (Pins pa pb) v h p = p
  leaves_kept (Run n) v h p = after_keeps Of clock_of (λ u. tick u.io.timer) n v p
  leaves_kept Forecast v h p = p

-- that it is well formed, and that loads and clocks lead to it
pub leaves_well : (c : Call32) (v : Riot) → Typed32 c → well_formed v ≡ true → well_formed (leaves_of c v) ≡ true
leaves_well = leaves_kept (λ t. well_timed t ≡ true) (λ k x e h. load_well k x e) clock_well (λ f e t w. w)

pub leaves_reached :
    (c : Call32) (v : Riot) → Typed32 c → Interval.Reached v.io.timer → Interval.Reached (leaves_of c v).io.timer
leaves_reached = leaves_kept Interval.Reached Interval.by_load Interval.by_clock Interval.by_flags
