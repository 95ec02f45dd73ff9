-- Five inputs stay five.
use mathlib.Core.Path.{◌≡◌}
use mathlib.Core.Bool.{true}
use Prim.Native.Nat.{ℕ, ◌%◌, ◌<◌, ◌≤◌}
use native.Mathlib.Omega.{arith}
use lib.Bits.{bit_and, and_le_l, and_le_r, or_lt}
use Rattle.std.proofs.lemmas.Bool.Decides.{nat_tests}
use Rattle.clocks.specs.Bits.{with_set, with_clear}
use Rattle.clocks.proofs.Tests.{picked}
use Rattle.inputs.specs.Inputs.{interrupts, priority, well_inputs, edges_of, pinned, highest_of, unmasked, shown, taken, ended, kept}
use Rattle.inputs.specs.declared.Inputs.{Inputs}
use Rattle.inputs.proofs.Top.{highest_le}
use Rattle.inputs.proofs.Masks.{edges_lt}

pub record Sound (v : Inputs) : Type 0 where
  pub latch : v.latch < 32
  pub service : v.service < 32

pub sound : (v : Inputs) → well_inputs v ≡ true → Sound v
sound v w = grind (arith, nat_tests)

pub well : (v : Inputs) → Sound v → well_inputs v ≡ true
well v h = grind (arith, nat_tests)

cleared : (m x : ℕ) → with_clear m x ≤ x
unfolding with_clear
cleared m x = omega arith

pub unmasked_lt : (mask : ℕ) (v : Inputs) → unmasked mask v < 32
unmasked_lt mask v = omega (arith, and_le_r v.latch (mask % 32))

pub shown_lt : (cr mask : ℕ) (v : Inputs) → shown cr mask v < 32
unfolding shown
shown_lt cr mask v =
    let h = unmasked_lt mask v in
    let l = highest_le 8 (unmasked mask v) (omega (arith, h)) in
    picked (λ (s : ℕ). s < 32) (interrupts cr)
    (picked (λ (s : ℕ). s < 32) (priority cr) (omega (arith, h, l)) h)
    (omega arith)

pub pinned_well : (cr old new : ℕ) (v : Inputs) → well_inputs v ≡ true → well_inputs (pinned cr old new v) ≡ true
unfolding pinned with_set
pinned_well cr old new v w =
    let h = sound v w in
    picked (λ (u : Inputs). well_inputs u ≡ true) (interrupts cr)
    (well _ (record { latch = or_lt 5 v.latch (edges_of 5 cr old new) h.latch (edges_lt 5 cr old new); service = h.service }))
    w

pub taken_well : (s : ℕ) (v : Inputs) → s < 32 → well_inputs v ≡ true → well_inputs (taken s v) ≡ true
unfolding with_set
taken_well s v l w =
    let h = sound v w in
    let c : with_clear s v.latch < 32 = omega (arith, cleared s v.latch, h.latch) in
    well (taken s v) (record { latch = c; service = or_lt 5 v.service s h.service l })

pub ended_well : (cr : ℕ) (v : Inputs) → well_inputs v ≡ true → well_inputs (ended cr v) ≡ true
unfolding ended
ended_well cr v w =
    let h = sound v w in
    let c = cleared (highest_of 8 v.service) v.service in
    picked (λ (u : Inputs). well_inputs u ≡ true) (interrupts cr)
    (well _ (record { latch = h.latch; service = picked (λ (s : ℕ). s < 32) (priority cr) (omega (arith, c, h.service)) (omega arith) }))
    w

pub kept_well : (cr x : ℕ) (v : Inputs) → well_inputs v ≡ true → well_inputs (kept cr x v) ≡ true
unfolding kept
kept_well cr x v w =
    let h = sound v w in
    let c : bit_and v.latch x < 32 = omega (arith, and_le_l v.latch x, h.latch) in
    picked (λ (u : Inputs). well_inputs u ≡ true) (interrupts cr) (well _ (record { latch = c; service = h.service })) w
