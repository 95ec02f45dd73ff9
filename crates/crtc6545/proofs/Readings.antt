-- A run, where the refusal that applies first is known.
use Rattle.std.specs.Prelude.{Option, None, Some}
use mathlib.Core.Path.{◌≡◌, ap}
use mathlib.Core.Bool.{Bool}
use Prim.Native.Nat.{ℕ}
use Rattle.clocks.specs.Clocks.{after}
use Rattle.chips.specs.Chips.{first}
use Rattle.chips.proofs.Chips.{accepts, refuses}
use Rattle.calls.specs.declared.Call45.TheVariants.{Run}
use Rattle.calls.specs.declared.Refusal.{Refusal}
use Rattle.longruns.specs.Ends.{turns_of}
use Rattle.crtc6545.specs.Clock.{clock_of}
use Rattle.crtc6545.specs.Chip.{chip, accepted, refused, with_turns, running_of}
use Rattle.crtc6545.specs.declared.Crtc.{Crtc}
use Rattle.crtc6545.specs.declared.Answer.{Answer}
use Rattle.crtc6545.specs.declared.Running.{Running}

abbrev pub running : ℕ → Answer → Running
running k r = record { turns = k; answer = r }

module _ (n : ℕ) (b : Bool) (v : Crtc) (k : Option Refusal) (e : k ≡ first chip (Run n b) v) where
  pub runs : k ≡ None → running_of n b v ≡ running (turns_of n v.raster) (accepted 0 (after n clock_of v))
  unfolding running_of accepted
  runs z = ap (with_turns n v) (accepts chip (Run n b) v k e z)

  pub runs_none : (r : Refusal) → k ≡ Some r → running_of n b v ≡ running 0 (refused r v)
  unfolding running_of refused
  runs_none r z = ap (with_turns n v) (refuses chip (Run n b) v k e r z)
