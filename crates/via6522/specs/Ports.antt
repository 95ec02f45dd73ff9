-- The lines of port B, and the byte that a read of a port gives. The lines of port A are `lines_of` of the port.
use Rattle.std.specs.Prelude.{◌&&◌, ℕ, if◌then◌else◌}
use Rattle.clocks.specs.Bits.{bit, with_bit}
use Rattle.ports.specs.Ports.{lines_for, lines_of}
use Rattle.via6522.specs.declared.Via.{Via}

-- with the given levels outside, the lines of B are those of any port, but PB7 is T1's level under ACR bit 7
unfoldable pub lines_b : ℕ → Via → ℕ
lines_b outside v =
    if bit 7 v.acr then with_bit 7 v.t1.level (lines_for outside v.b) else
    lines_for outside v.b

-- a read of A shows the lines that CA1's flag kept, while that flag and ACR bit 0 are set
unfoldable pub shown_a : Via → ℕ
shown_a v = if bit 0 v.acr && bit 1 v.ifr then v.kept_a else lines_of v.a

-- a read of B shows those that CB1's flag kept, under ACR bit 1, but only in place of the levels outside: bits that the port or T1
-- drives show their lines
unfoldable pub shown_b : Via → ℕ
shown_b v = lines_b (if bit 1 v.acr && bit 4 v.ifr then v.kept_b else v.b.outside) v
