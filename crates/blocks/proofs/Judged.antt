-- Which sessions are refused.
use mathlib.Core.Path.{◌≡◌, refl, ap, sym}
use mathlib.Core.Bool.{true≢false}
use mathlib.Core.List.{List}
use Prim.Native.Nat.{ℕ, ◌<◌, ◌≤◌}
use native.Mathlib.Decide.{dec_lt}
use native.Mathlib.Omega.{arith}
use borrow.Author.Tests.{lt-ltb, le-ltb}
use lib.ListN.{length}
use Rattle.std.specs.Prelude.{Result, Ok, Err, is_ok}
use Rattle.marks.specs.declared.Refusal.{Refusal}
use Rattle.marks.specs.declared.Refusal.TheVariants.{FileTooLong, TooManyLines}
use Rattle.marks.specs.Matches.{match_of}
use Rattle.blocks.specs.Blocks.{written_out}
use Rattle.blocks.specs.Judged.{refusal_of}

module _ {A : Type 0} (line : A → List ℕ) (size : ℕ) (xs : List A) where
  pub too_long : 32768 < size → Err FileTooLong ≡ refusal_of line size xs
  unfolding refusal_of
  too_long h = rw (lt-ltb 32768 size h)

  -- what is accepted is not too long, stands not too deep, is matched, and has not too many lines
  pub accepted_all : refusal_of line size xs ≡ Ok tt → (size ≤ 32768) × (match_of line xs ≡ Ok tt) × (length (written_out line xs) ≤ 1000000)
  unfolding refusal_of
  accepted_all e = go (dec_lt 32768 size) (match_of line xs) refl (dec_lt 1000000 (length (written_out line xs)))
    where
      below : {a b : ℕ} → (a < b → ⊥) → b ≤ a
      below n = omega arith

      refused : (r : Refusal) → ◌≡◌ {A = Result (Unit {0}) Refusal} (Err r) (Ok tt) → ⊥
      refused r e = true≢false (sym (ap is_ok e))

      go :
          Dec (32768 < size) → (m : Result (Unit {0}) Refusal) → match_of line xs ≡ m → Dec (1000000 < length (written_out line xs))
          → (size ≤ 32768) × (match_of line xs ≡ Ok tt) × (length (written_out line xs) ≤ 1000000)
      go (yes a) m f c = absurd (refused FileTooLong (rw (lt-ltb 32768 size a) at e))
      go (no a) (Err r) f c = absurd (refused r (rw (le-ltb 32768 size (below a), f) at e))
      go (no a) (Ok u) f (yes c) = absurd (refused TooManyLines (rw (le-ltb 32768 size (below a), f, lt-ltb 1000000 (length (written_out line xs)) c) at e))
      go (no a) (Ok u) f (no c) = (below a, f, below c)

  pub accepted_by : size ≤ 32768 → match_of line xs ≡ Ok tt → length (written_out line xs) ≤ 1000000 → refusal_of line size xs ≡ Ok tt
  unfolding refusal_of
  accepted_by a b c = rw (le-ltb 32768 size a, b, le-ltb 1000000 (length (written_out line xs)) c)
