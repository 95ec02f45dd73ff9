-- What is kept of a line, at the front of a buffer.
use mathlib.Core.Path.{◌≡◌, refl, ◌∙◌}
use mathlib.Core.List.{List}
use mathlib.Core.Logic.{◌⊎◌, inl, inr}
use Prim.Native.Nat.{ℕ, ◌+◌, ◌-◌, ◌<◌, ◌≤◌, min}
use native.Mathlib.Omega.{arith}
use lib.ListN.{length, take, drop, length-drop}
use lib.Seq.{take_at, drop_at, length-take-le}
use Rattle.std.specs.List.{copy_within}
use Rattle.clocks.proofs.Lists.{drop_take, take_min}
use Rattle.lines.specs.Keeps.{Keeps}

-- nothing is moved where the places are none of the buffer's
pub keeps_none : (buf : List ℕ) (used n most : ℕ) → (used ≤ n → n ≤ length buf → ⊥) → Keeps buf buf used n most 0
keeps_none buf used n most h = record { moved = λ a b. absurd (h a b); refused = λ w. (refl, refl) }

pub keeps :
    (buf now : List ℕ) (used n most k : ℕ) → now ≡ copy_within buf used (used + k) 0 → used ≤ n → n ≤ length buf → k ≡ min most (n - used)
    → Keeps buf now used n most k
keeps buf now used n most k f h l e =
    let n₁ : used + k - used ≡ k = omega arith in
    let n₂ : 0 + k ≡ k = omega arith in
    let s : length (take k (drop used buf)) ≡ k = length-take-le k (drop used buf) (simp length-drop (omega (arith, e))) in
    record { moved = λ a b. (e, rw (f, n₁, n₂) (take_at (take k (drop used buf)) (drop k buf) k s ∙ rw (drop_take, take_min, ← e)), rw (f, n₁, n₂) (drop_at (take k (drop used buf)) (drop k buf) k s)); refused = λ w. absurd (wrong w) }
  where
    wrong : (n < used) ⊎ (length buf < n) → ⊥
    wrong (inl q) = omega arith
    wrong (inr q) = omega arith
