-- The four choices of the divider.
use Rattle.std.proofs.Common.{◌≡◌, ℕ, zero, suc, ◌≤◌, ltb, refl, ◌∙◌, arith, le-ltb, ne_eqb, if◌then◌else◌}
use Rattle.interval.specs.Timer.{divider_of}

-- a choice k is its own place i, or has x if it is above 3; what follows from each place, with its divider, follows from k
pub by_choice :
    {A : Type 0} (i k x : ℕ) → i ≡ (if ltb k 4 then k else x)
    → (i ≡ 0 → divider_of k ≡ 1 → A)
    → (i ≡ 1 → divider_of k ≡ 8 → A)
    → (i ≡ 2 → divider_of k ≡ 64 → A)
    → (i ≡ 3 → divider_of k ≡ 1024 → A)
    → (i ≡ x → divider_of k ≡ 1024 → A)
    → A
by_choice i zero x e p q r s t = p e refl
by_choice i (suc zero) x e p q r s t = q e refl
by_choice i (suc (suc zero)) x e p q r s t = r e refl
by_choice i (suc (suc (suc zero))) x e p q r s t = s e refl
by_choice {A} i (suc (suc (suc (suc k)))) x e p q r s t = above (suc (suc (suc (suc k)))) (omega arith) e t
  where
    above : (k : ℕ) → 4 ≤ k → i ≡ (if ltb k 4 then k else x) → (i ≡ x → divider_of k ≡ 1024 → A) → A
    above k h e t =
        t (e ∙ rw (le-ltb k 4 h)) (rw (ne_eqb k 0 (omega arith), ne_eqb k 1 (omega arith), ne_eqb k 2 (omega arith)))
