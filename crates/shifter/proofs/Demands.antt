-- The statements of specs/Demands.antt, proved.
use mathlib.Core.Path.{◌≡◌, refl, sym, ap, ◌∙◌}
use mathlib.Core.Bool.{Bool, true}
use Prim.Native.Nat.{ℕ, ◌-◌, ◌<◌}
use native.Mathlib.Decide.{dec_lt}
use native.Mathlib.Omega.{arith}
use lib.Dec.{eqb}
use borrow.Author.Tests.{eq-eqb, ne_eqb}
use Rattle.clocks.specs.Clocks.{in_turn}
use Rattle.clocks.specs.Bits.{bit}
use Rattle.clocks.proofs.Bits.{same_bits}
use Rattle.clocks.proofs.Clocks.{turns_keep}
use Rattle.clocks.proofs.Forecasts.{comes_one}
use Rattle.clocks.proofs.Tests.{on_true, on_false}
use Rattle.shifter.specs.Shifter.{outward, taken, shifted, shifts, accessed}
use Rattle.shifter.specs.Demands
use Rattle.shifter.proofs.Runs.{flag_due}
use Rattle.shifter.proofs.Shifts.{mode_kept, flag_before, flag_at_last, byte_kept, took, top_at}

pub eight_out : Demands.EightOut
unfolding in_turn shifted
eight_out l s o b =
    (λ k h. leaves k h (shifts k l s).output, same_bits 8 _ _ (byte_kept l s 8 b) b bits)
  where
    -- what shift k takes outward
    leaves : (k : ℕ) → k < 8 → (level : Bool) → taken level (shifts k l s) ≡ bit (7 - k) s.byte
    leaves k h level =
        on_true (outward (shifts k l s).mode) (bit 7 (shifts k l s).byte) level (ap outward (mode_kept l s k) ∙ o) ∙ top_at l s k h

    bits : (j : ℕ) → j < 8 → bit j (shifts 8 l s).byte ≡ bit j s.byte
    bits j h =
        let e : j ≡ 7 - (7 - j) = omega arith in
        ap (λ (i : ℕ). bit i (shifts 8 l s).byte) e
        ∙ took l s (7 - j) (omega arith)
        ∙ leaves (7 - j) (omega arith) (l (7 - j))
        ∙ ap (λ (i : ℕ). bit i s.byte) (sym e)

pub eight_in : Demands.EightIn
unfolding shifted
eight_in l s o = (
  λ k h. took l s k h ∙ on_false (outward (shifts k l s).mode) _ (l k) (ap outward (mode_kept l s k) ∙ o),
  (turns_keep (λ u. (u.mode ≡ s.mode) × (u.output ≡ s.output)) (λ k. shifted (l k))
      (λ k u e. (e.0, on_false (outward u.mode) _ u.output (ap outward e.0 ∙ o) ∙ e.1)) 8 s (refl, refl)).1,
)

pub eighth_flags : Demands.EighthFlags
eighth_flags l s n h e f = go (dec_lt n 8)
  where
    go : Dec (n < 8) → (shifts n l s).flag ≡ eqb n 8
    go (yes g) = flag_before l s n (omega arith) ∙ f ∙ sym (ne_eqb n 8 (omega arith))
    go (no g) =
        let z : n ≡ 8 = omega arith in
        ap (λ (m : ℕ). (shifts m l s).flag) z ∙ flag_at_last l s 7 (sym e) ∙ sym (eq-eqb n 8 z)

pub sixteen_clocks : Demands.SixteenClocks
unfolding accessed
sixteen_clocks level s n m = flag_due (accessed s) level n ∙ rw m

pub due_one : Demands.DueOne
due_one s f g a b = comes_one f g (λ k. sym (a true k) ∙ b true k)
