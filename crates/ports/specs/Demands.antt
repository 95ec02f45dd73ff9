-- What demand 2 asks of ports beyond the promises. proofs/Demands.antt has a proof of each statement, under its name in small letters.
use Rattle.std.specs.Prelude.{◌≡◌, ℕ, ◌<◌, if◌then◌else◌}
use Rattle.clocks.specs.Bits.{bit}
use Rattle.ports.specs.Ports.{lines_for, silent, fresh}
use Rattle.ports.specs.declared.Port.{Port}

-- a line, bit by bit, under any levels outside
abbrev pub LinesByBit : Type 0
LinesByBit =
    (p : Port) (outside k : ℕ) → k < 8 → p.ddr < 256
    → bit k (lines_for outside p) ≡ (if bit k p.ddr then bit k p.output else bit k outside)

-- power-up is as a reset leaves it
abbrev pub FreshSilent : Type 0
FreshSilent = silent fresh ≡ fresh
