-- Values in their ranges.
use Rattle.std.specs.Prelude.{Bool, ◌&&◌, List, [], ◌∷◌, ℕ, ltb}

-- the test t holds, and each value is below the bound beside it
unfoldable pub within : Bool → List (ℕ × ℕ) → Bool
within t [] = t
within t (p ∷ s) = within (t && ltb p.0 p.1) s
