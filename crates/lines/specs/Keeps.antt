-- What is kept of an open line, at the front of the buffer that it came in.
use Rattle.std.specs.Prelude.{ℕ, ◌-◌, ◌<◌, ◌≤◌, min, ◌≡◌, ◌⊎◌, List, length, take, drop}

-- what `keep` leaves of a buffer whose bytes from `used` up to n are an open line: at most so many of them, at its front. Where
-- these are no places of the buffer, it is untouched.
pub record Keeps (before now : List ℕ) (used n most kept : ℕ) : Type 0 where
  pub moved :
      used ≤ n → n ≤ length before
      → (kept ≡ min most (n - used)) × (take kept now ≡ take most (drop used (take n before))) × (drop kept now ≡ drop kept before)
  pub refused : (n < used) ⊎ (length before < n) → (now ≡ before) × (kept ≡ 0)
