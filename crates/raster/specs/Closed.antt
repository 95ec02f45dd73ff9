-- What the code computes of a line in one step.
use Rattle.std.specs.Prelude.{ℕ, ◌+◌, ◌-◌, ◌%◌, ◌&&◌, nat_le, nat_lt, if◌then◌else◌}
use Rattle.raster.specs.declared.Registers.{Registers}
use Rattle.raster.specs.declared.Line.{Line}

-- how many clocks a column takes from a to b, line ends apart
abbrev pub gap : ℕ → ℕ → ℕ
gap a b = (b + (256 - a)) % 256

-- what is left of a pulse after k clocks: of w where it starts at clock j of them, else of h
abbrev pub pulse : ℕ → ℕ → ℕ → ℕ → ℕ
pulse j k w h = if nat_lt 0 j && nat_le j k then w - (k - j) else h - k

-- k clocks that end no line
unfoldable pub along_of : ℕ → Registers → Line → Line
along_of k r l =
    record {
      column = (l.column + k) % 256;
      hsync = pulse (gap l.column r.r2) k (r.r3 % 16) l.hsync;
    }
