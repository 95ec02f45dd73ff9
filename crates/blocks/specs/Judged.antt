-- Which sessions with repeats are refused.
use Rattle.std.specs.Prelude.{List, ℕ, ltb, length, Result, Ok, Err, if◌then◌else◌}
use Rattle.std.specs.Result.{result_and}
use Rattle.marks.specs.declared.Refusal.{Refusal}
use Rattle.marks.specs.declared.Refusal.TheVariants.{FileTooLong, TooManyLines}
use Rattle.marks.specs.Matches.{match_of}
use Rattle.blocks.specs.Blocks.{written_out}

-- why a session of so many bytes and these lines is refused, if it is
unfoldable pub refusal_of : {A : Type 0} → (A → List ℕ) → ℕ → List A → Result (Unit {0}) Refusal
refusal_of line size xs =
    if ltb 32768 size then Err FileTooLong else
    result_and (match_of line xs) (if ltb 1000000 (length (written_out line xs)) then Err TooManyLines else Ok tt)
