use Rattle.std.proofs.Common.{◌≡◌}
use Rattle.shifter.specs.Shifter.{shifts}
use Rattle.shifter.proofs.Shifter.shifts.Given as goal

-- so many of the shifts are made
abbrev pub invariant-loop : goal.invariant-loop
invariant-loop l = l.self ≡ shifts l.counter (λ k. l.level) l.initial.self
