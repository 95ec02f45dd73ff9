-- The statements of specs/Demands.antt, proved.
use Rattle.std.specs.Prelude.{None}
use mathlib.Core.Path.{◌≡◌, refl, sym, ap, ◌∙◌}
use mathlib.Core.Bool.{true, false, not, ◌&&◌, ◌||◌, and-true, or-false}
use mathlib.Core.Logic.{◌↔◌}
use Prim.Native.Nat.{ℕ}
use Rattle.clocks.specs.Bits.{bit}
use Rattle.clocks.proofs.Bits.{bit_none}
use Rattle.clocks.proofs.Options.{none_some}
use Rattle.calls.specs.declared.Call25.TheVariants.{Write, Read, Run}
use Rattle.calls.specs.declared.Refusal.TheVariants.{IllFormed}
use Rattle.chips.specs.Chips.{answer}
use Rattle.chips.proofs.Chips
use Rattle.chips.proofs.Chips.{accepts_well, by_refusal}
use Rattle.inputs.specs.Inputs.{taken}
use Rattle.inputs.specs.declared.Inputs.{Inputs}
use Rattle.inputs.proofs.Demands as Inputs
use Rattle.tpi6525.specs.Record.{with_inputs}
use Rattle.tpi6525.specs.Signals.{air_of}
use Rattle.tpi6525.specs.Access.{data_of, read_of, inputs_after, write_of}
use Rattle.tpi6525.specs.Chip.{chip, clocked}
use Rattle.tpi6525.specs.Demands
use Rattle.tpi6525.specs.Demands.{RaisedIn, air_read}
use Rattle.tpi6525.specs.declared.Tpi.{Tpi}
use Rattle.tpi6525.specs.declared.Answer.{Answer}
use Rattle.tpi6525.proofs.Lawful.{leaves_well, lawful, ticks}

pub answers : Demands.Answers
answers = Chips.answers chip lawful

pub runs : Demands.Runs
runs = Chips.runs chip lawful clocked ticks

-- a run of n clocks has the answer of a run of none, by the definition
pub still : Demands.Still
unfolding answer
still n v = (by_refusal chip lawful (Run n) v (λ r. r.tpi ≡ v) (λ w. refl) (λ r w z. refl) (λ w z. refl), refl)

pub power_up_reset : Demands.PowerUpReset
power_up_reset = refl

pub interrupt_exact : Demands.InterruptExact
interrupt_exact c v =
    by_refusal chip lawful c v (λ r. r.refusal ≡ None → (r.irq ≡ true) ↔ RaisedIn r.tpi)
    (λ w z. absurd (none_some IllFormed (sym z)))
    (λ r w n z. absurd (none_some r (sym z)))
    (λ w n z. let u = chip.leaves c v in Inputs.asserted_exact u.cr u.c.ddr u.inputs (leaves_well c v w))

-- what a read of the active interrupt register shows of a well-formed record
air_is : (v : Tpi) → chip.well v ≡ true → air_read v ≡ air_of v
unfolding data_of
air_is v w = ap (λ (r : Answer). r.«data») (accepts_well chip lawful (Read 7) v w refl)

pub air_highest : Demands.AirHighest
air_highest v k w m p = rw (air_is v w) (Inputs.shows_highest v.cr v.c.ddr v.inputs k w m p)

pub air_all : Demands.AirAll
air_all v k w m p = rw (air_is v w) (Inputs.shows_all v.cr v.c.ddr v.inputs k w m p)

pub air_none : Demands.AirNone
unfolding data_of
air_none v m =
    by_refusal chip lawful (Read 7) v (λ r. r.«data» ≡ 0) (λ w. refl) (λ r w z. refl)
    (λ w z. Inputs.shows_none v.cr v.c.ddr v.inputs m)

-- what holds of the read that takes what it shows, and of one that shows 0 and changes nothing, holds of every read
module _ (v : Tpi) (P : ℕ → Tpi → Type 0) where
  air_read_lem : P (air_of v) (with_inputs (taken (air_of v) v.inputs) v) → P 0 v → P (air_read v) (answer chip (Read 7) v).tpi
  unfolding data_of read_of
  air_read_lem p q = by_refusal chip lawful (Read 7) v (λ r. P r.«data» r.tpi) (λ w. q) (λ r w z. q) (λ w z. p)

pub air_taken : Demands.AirTaken
air_taken v =
    record {
      from_latch =
          λ k. air_read_lem v (λ d u. bit k u.inputs.latch ≡ (bit k v.inputs.latch && not (bit k d)))
          (Inputs.taken_exact (air_of v) v.inputs k).0
          (sym (rw (bit_none k, and-true)));
      into_service =
          λ k. air_read_lem v (λ d u. bit k u.inputs.service ≡ (bit k v.inputs.service || bit k d))
          (Inputs.taken_exact (air_of v) v.inputs k).1
          (sym (rw (bit_none k, or-false)));
      nothing_else = air_read_lem v (λ d u. u ≡ with_inputs u.inputs v) refl refl;
    }

pub air_idle : Demands.AirIdle
air_idle v =
    air_read_lem v (λ d u. d ≡ 0 → u ≡ v)
    (λ z. ap (λ (i : Inputs). with_inputs i v) (ap (λ (s : ℕ). taken s v.inputs) z ∙ Inputs.taken_none v.inputs))
    (λ z. refl)

pub air_releases : Demands.AirReleases
unfolding read_of
air_releases v =
    by_refusal chip lawful (Read 7) v (λ r. r.irq ≡ false) (λ w. refl) (λ r w z. refl)
    (λ w z. Inputs.taken_releases v.cr v.c.ddr v.inputs w)

pub air_ends : Demands.AirEnds
unfolding write_of inputs_after
air_ends v x w = ap (λ (r : Answer). r.tpi) (accepts_well chip lawful (Write 7 x) v w refl)

-- a write of a register that the inputs do not hear of
other_leaves : (v : Tpi) (r x : ℕ) → inputs_after r x v ≡ v.inputs → (answer chip (Write r x) v).tpi.inputs ≡ v.inputs
unfolding write_of
other_leaves v r x e =
    by_refusal chip lawful (Write r x) v (λ r. r.tpi.inputs ≡ v.inputs) (λ w. refl) (λ r w z. refl) (λ w z. e)

pub control_leaves : Demands.ControlLeaves
unfolding inputs_after
control_leaves v x = (other_leaves v 5 x refl, other_leaves v 6 x refl)
