-- A refusal is known by its number.
use mathlib.Core.Path.{◌≡◌, refl, sym, ap, ◌∙◌}
use Prim.Native.Nat.{ℕ}
use native.Mathlib.Omega.{arith}
use lib.Dec.{eqb}
use Rattle.std.specs.Prelude.{if◌then◌else◌}
use Rattle.calls.specs.Refusals
use Rattle.calls.specs.Refusals.{number_of}
use Rattle.calls.specs.declared.Refusal.{Refusal}
use Rattle.calls.specs.declared.Refusal.TheVariants.{IllFormed, NoFrame, NoRegister, LeftOut, NoLevel, TooLong}

-- the refusal of a number from 1 to 6
with_number : ℕ → Refusal
with_number n =
    if eqb n 1 then IllFormed else
    (if eqb n 2 then NoFrame else
    (if eqb n 3 then NoRegister else
    (if eqb n 4 then LeftOut else
    (if eqb n 5 then NoLevel else TooLong))))

back : (r : Refusal) → with_number (number_of r) ≡ r
unfolding with_number
back IllFormed = refl
back NoFrame = refl
back NoRegister = refl
back LeftOut = refl
back NoLevel = refl
back TooLong = refl

pub number_one : Refusals.NumberOne
number_one r q e = sym (back r) ∙ ap with_number e ∙ back q

pub number_some : Refusals.NumberSome
number_some IllFormed e = omega (arith, e)
number_some NoFrame e = omega (arith, e)
number_some NoRegister e = omega (arith, e)
number_some LeftOut e = omega (arith, e)
number_some NoLevel e = omega (arith, e)
number_some TooLong e = omega (arith, e)
