-- What the demands ask of marks. proofs/Demands.antt has a proof of each statement, under its name in small letters.
use Rattle.std.specs.Prelude.{◌≡◌}
use Rattle.marks.specs.declared.Refusal.{Refusal}
use Rattle.marks.specs.Refusals.{number_of}

-- a number is that of one refusal alone
abbrev pub NumberOne : Type 0
NumberOne = (r q : Refusal) → number_of r ≡ number_of q → r ≡ q
