-- Why a call is refused, and the number that document 01 gives each case.
use Rattle.std.specs.Prelude.{◌≡◌, ℕ}
use Rattle.calls.specs.declared.Refusal.{Refusal}
use Rattle.calls.specs.declared.Refusal.TheVariants.{IllFormed, NoFrame, NoRegister, LeftOut, NoLevel, TooLong}

abbrev pub number_of : Refusal → ℕ
number_of IllFormed = 1
number_of NoFrame = 2
number_of NoRegister = 3
number_of LeftOut = 4
number_of NoLevel = 5
number_of TooLong = 6

-- a number is that of one refusal, and none has the number 0
abbrev pub NumberOne : Type 0
NumberOne = (r q : Refusal) → number_of r ≡ number_of q → r ≡ q

abbrev pub NumberSome : Type 0
NumberSome = (r : Refusal) → number_of r ≡ 0 → ⊥
