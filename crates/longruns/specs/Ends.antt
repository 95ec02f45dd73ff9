-- The line ends that clocks pass, and their turns.
use Rattle.std.specs.Prelude.{ℕ, zero, suc, ◌+◌, if◌then◌else◌}
use Rattle.clocks.specs.Clocks.{after}
use Rattle.raster.specs.Clock.{ends_line, raster_clocked}
use Rattle.raster.specs.declared.Raster.{Raster}

-- 1 where the next clock ends a line, else 0: a column that comes to 0 after 255, and not after R0, has ended none
abbrev pub ends_next : Raster → ℕ
ends_next v = if ends_line v.registers v.line then 1 else 0

-- the line ends that n clocks pass
unfoldable pub ends_of : ℕ → Raster → ℕ
ends_of zero v = 0
ends_of (suc n) v = ends_of n v + ends_next (after n raster_clocked v)

-- the turns of n clocks: one more than the line ends that they pass, and none where there is no clock
unfoldable pub turns_of : ℕ → Raster → ℕ
turns_of zero v = 0
turns_of (suc n) v = ends_of (suc n) v + 1
