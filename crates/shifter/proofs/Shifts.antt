-- Shifts on end: how many are left to come, and the byte bit by bit. What a shift takes enters bit 0, and climbs a place with each later one.
use Rattle.std.specs.Prelude.{if◌then◌else◌}
use mathlib.Core.Path.{◌≡◌, refl, sym, ap, ◌∙◌}
use mathlib.Core.Bool.{Bool, true, ◌||◌}
use Prim.Native.Nat.{ℕ, zero, suc, ◌+◌, ◌-◌, ◌*◌, ◌/◌, ◌%◌, ◌<◌, ◌≤◌}
use native.Mathlib.Nat.{add-zero, zero-add, add-suc}
use native.Mathlib.Omega.{arith}
use lib.Dec.{eqb}
use borrow.Author.Tests.{eq-eqb, ne_eqb}
use Rattle.clocks.specs.Clocks.{in_turn}
use Rattle.clocks.specs.Bits.{bit}
use Rattle.clocks.proofs.Clocks.{turns_keep}
use Rattle.clocks.proofs.Bits.{bit_suc, bit_mod, bit_here, bit_other, with_lt}
use Rattle.shifter.specs.Shifter.{taken, to_come, shifted, shifts}
use Rattle.shifter.specs.declared.Shifter.{Shifter}

-- ---- how many are to come

-- there is one to make, where none stand for some
pub some_to_come : (m n : ℕ) → 1 ≤ m → 1 ≤ (if eqb n 0 then m else n)
some_to_come m zero h = h
some_to_come m (suc n) h = rw (ne_eqb (suc n) 0 (omega arith)) (omega arith)

-- where some are to come, a shift takes one of them
one_fewer : (s : Shifter) → 0 < s.left → to_come s - 1 ≡ s.left - 1
one_fewer s h = rw (ne_eqb s.left 0 (omega arith))

module _ (l : ℕ → Bool) (s : Shifter) where
  pub mode_kept : (n : ℕ) → (shifts n l s).mode ≡ s.mode
  unfolding shifted
  mode_kept n = turns_keep (λ u. u.mode ≡ s.mode) (λ k. shifted (l k)) (λ k u e. e) n s refl

  pub left_after : (n : ℕ) → n ≤ s.left → (shifts n l s).left ≡ s.left - n
  unfolding in_turn shifted
  left_after zero h = omega arith
  left_after (suc n) h =
      let e = left_after n (omega arith) in
      one_fewer (shifts n l s) (omega arith) ∙ omega arith

  -- the last one sets the flag, and none before it
  pub flag_before : (n : ℕ) → n < s.left → (shifts n l s).flag ≡ s.flag
  unfolding in_turn shifted
  flag_before zero h = refl
  flag_before (suc n) h =
      let u = shifts n l s in
      let e = left_after n (omega arith) in
      ap (λ (x : ℕ). eqb x 0 || u.flag) (one_fewer u (omega arith))
      ∙ rw (ne_eqb (u.left - 1) 0 (omega arith)) (flag_before n (omega arith))

  pub flag_at_last : (n : ℕ) → suc n ≡ s.left → (shifts (suc n) l s).flag ≡ true
  unfolding in_turn shifted
  flag_at_last n h =
      let u = shifts n l s in
      let e = left_after n (omega arith) in
      ap (λ (x : ℕ). eqb x 0 || u.flag) (one_fewer u (omega arith)) ∙ rw (eq-eqb (u.left - 1) 0 (omega arith))

-- ---- bit by bit

enters : (level : Bool) (s : Shifter) → bit 0 (shifted level s).byte ≡ taken level s
unfolding shifted
enters level s = bit_here 0 (taken level s) (s.byte % 128 * 2)

climbs_one : (level : Bool) (s : Shifter) (j : ℕ) → j < 7 → bit (suc j) (shifted level s).byte ≡ bit j s.byte
unfolding shifted
climbs_one level s j h =
    let e : s.byte % 128 * 2 / 2 ≡ s.byte % 128 = omega arith in
    bit_other 0 (taken level s) (suc j) (s.byte % 128 * 2) (λ z. omega arith)
    ∙ bit_suc j (s.byte % 128 * 2)
    ∙ ap (bit j) e
    ∙ bit_mod 7 j s.byte h

module _ (l : ℕ → Bool) (s : Shifter) where
  climbs : (m i j : ℕ) → j + i < 8 → bit (j + i) (shifts (m + i) l s).byte ≡ bit j (shifts m l s).byte
  unfolding in_turn
  climbs m zero j h = rw (add-zero, add-zero)
  climbs m (suc i) j h =
      rw (add-suc, add-suc) (climbs_one (l (m + i)) (shifts (m + i) l s) (j + i) (omega arith) ∙ climbs m i j (omega arith))

  pub byte_kept : (n : ℕ) → s.byte < 256 → (shifts n l s).byte < 256
  unfolding shifted
  byte_kept n h =
      turns_keep (λ u. u.byte < 256) (λ k. shifted (l k))
      (λ k u e. with_lt 8 0 (taken (l k) u) (u.byte % 128 * 2) (omega arith) (omega arith)) n s h

  -- what shift k takes is in bit 7 - k after eight of them
  pub took : (k : ℕ) → k < 8 → bit (7 - k) (shifts 8 l s).byte ≡ taken (l k) (shifts k l s)
  unfolding in_turn
  took k h =
      let e : 8 ≡ suc k + (7 - k) = omega arith in
      (λ i. bit (sym (zero-add (7 - k)) i) (shifts (e i) l s).byte)
      ∙ climbs (suc k) (7 - k) 0 (omega arith)
      ∙ enters (l k) (shifts k l s)

  -- bit 7 before shift k is bit 7 - k of the byte at first
  pub top_at : (k : ℕ) → k < 8 → bit 7 (shifts k l s).byte ≡ bit (7 - k) s.byte
  unfolding in_turn
  top_at k h =
      let e : 7 ≡ 7 - k + k = omega arith in
      (λ i. bit (e i) (shifts (sym (zero-add k) i) l s).byte) ∙ climbs 0 k (7 - k) (omega arith)
