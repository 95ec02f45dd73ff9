-- The statements of specs/Demands.antt, proved.
use Rattle.std.specs.Prelude.{if◌then◌else◌}
use Rattle.std.proofs.Common.{◌≡◌, ℕ, refl, ap, sym, ◌∙◌, eqb}
use Rattle.marks.specs.declared.Refusal.{Refusal}
use Rattle.marks.specs.declared.Refusal.TheVariants.{FileTooLong, TooDeep, Unmatched, TooManyLines}
use Rattle.marks.specs.Refusals.{number_of}
use Rattle.marks.specs.Demands as Demands

-- the refusal of a number
refusal_of : ℕ → Refusal
refusal_of n = if eqb n 26 then FileTooLong else (if eqb n 27 then TooDeep else (if eqb n 28 then Unmatched else TooManyLines))

back : (r : Refusal) → refusal_of (number_of r) ≡ r
unfolding refusal_of
back FileTooLong = refl
back TooDeep = refl
back Unmatched = refl
back TooManyLines = refl

pub number_one : Demands.NumberOne
number_one r q e = sym (back r) ∙ ap refusal_of e ∙ back q
