-- What the test of ranges says, and the test from what it says.
use mathlib.Core.Path.{◌≡◌}
use mathlib.Core.Bool.{Bool, true, ◌&&◌}
use mathlib.Core.List.{List, [], ◌∷◌}
use Prim.Native.Nat.{ℕ, ◌<◌}
use lib.Dec.{ltb}
use borrow.Author.Tests.{lt-ltb, ltb-true}
use Rattle.clocks.proofs.Tests.{both}
use Rattle.clocks.specs.Ranges.{within}

-- each value is below the bound beside it
abbrev pub All : List (ℕ × ℕ) → Type 0
All [] = Unit {0}
All (p ∷ s) = (p.0 < p.1) × All s

pub within_all : (t : Bool) (s : List (ℕ × ℕ)) → within t s ≡ true → (t ≡ true) × All s
unfolding within
within_all t [] w = (w, tt)
within_all t (p ∷ s) w =
    let h = within_all (t && ltb p.0 p.1) s w in
    let b = both t (ltb p.0 p.1) h.0 in
    (b.0, (ltb-true p.0 p.1 b.1, h.1))

pub all_within : (t : Bool) (s : List (ℕ × ℕ)) → t ≡ true → All s → within t s ≡ true
unfolding within
all_within t [] e h = e
all_within t (p ∷ s) e h = all_within (t && ltb p.0 p.1) s (rw (e, lt-ltb p.0 p.1 h.0)) h.1
