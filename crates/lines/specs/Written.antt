-- A buffer that is written to from its front on.
use Rattle.std.specs.Prelude.{ℕ, ◌≡◌, List, length, take, drop}

-- an output buffer after a text was put at its front: that text, and beyond it what was there
pub record Written (before now : List ℕ) (made : ℕ) (x : List ℕ) : Type 0 where
  pub size : made ≡ length x
  pub text : take made now ≡ x
  pub rest : drop made now ≡ drop made before
