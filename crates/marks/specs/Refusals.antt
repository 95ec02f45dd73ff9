-- Why a session with repeats is refused, and the number that document 02 gives each case.
use Rattle.std.specs.Prelude.{ℕ}
use Rattle.marks.specs.declared.Refusal.{Refusal}
use Rattle.marks.specs.declared.Refusal.TheVariants.{FileTooLong, TooDeep, Unmatched, TooManyLines}

abbrev pub number_of : Refusal → ℕ
number_of FileTooLong = 26
number_of TooDeep = 27
number_of Unmatched = 28
number_of TooManyLines = 29
