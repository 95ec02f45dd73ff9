-- What a call gives for a pair that is lent to it: a number, and the pair as it is then.
use Rattle.std.specs.Prelude.{ℕ, if◌then◌else◌, Result, Ok, Err, ⊤}
use Rattle.calls.specs.Refusals.{number_of}
use Rattle.calls.specs.declared.Refusal.{Refusal}
use Rattle.clocks.specs.Clocks.{after}
use Rattle.timers.specs.Pair.{well_formed, clocked}
use Rattle.timers.specs.declared.Timers.{Timers}

-- the number of what a call gives back: that of the refusal, or 0
abbrev pub number_in : Result ⊤ Refusal → ℕ
number_in (Ok x) = 0
number_in (Err r) = number_of r

-- 1 for an ill-formed pair, 0 for any other
abbrev pub refusal_of : Timers → ℕ
refusal_of p = if well_formed p then 0 else 1

-- an ill-formed pair stays as it is; any other goes by the rule
abbrev pub left_of : (Timers → Timers) → Timers → Timers
left_of rule p = if well_formed p then rule p else p

-- the number that a call gives, and the pair after it
pub record Outcome : Type 0 where
  pub refusal : ℕ
  pub pair : Timers

abbrev pub outcome : ℕ → Timers → Outcome
outcome number p = record { refusal = number; pair = p }

-- the outcome of a call that goes by a rule
abbrev pub lent : (Timers → Timers) → Timers → Outcome
lent rule p = outcome (refusal_of p) (left_of rule p)

-- what `clock_pair` promises: the rule is one clock by value
abbrev pub clock_pair : Timers → Outcome
clock_pair = lent clocked

-- what `run_pair` promises: the rule is n of them
abbrev pub run_pair : ℕ → Timers → Outcome
run_pair n = lent (after n clocked)
