-- How the program ends.
use Rattle.std.specs.Prelude.{◌≡◌, true, List, ℕ, length, take, Ok, Err}
use Rattle.marks.specs.declared.Refusal.{Refusal}
use Rattle.session.specs.Steps.{power_up}
use Rattle.session.specs.Sessions.{next_all}
use Rattle.unrolled.specs.Windows.{judged, full_of}
use Rattle.repeats.specs.declared.Ended.{Ended}

-- the bench is what the lines played leave of one at power-up; no line of a refused session is played, and all lines of another are,
-- unless not all could be written
pub record Ends (s : List ℕ) (r : Ended) : Type 0 where
  pub bench : r.bench ≡ next_all power_up (take r.played (full_of s))
  pub refused : (k : Refusal) → judged s ≡ Err k → r.played ≡ 0
  pub accepted : judged s ≡ Ok tt → r.written ≡ true → r.played ≡ length (full_of s)
