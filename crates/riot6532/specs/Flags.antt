-- The flags and the interrupt line.
use Rattle.std.specs.Prelude.{◌≡◌, Bool, true, false, ◌&&◌, ◌||◌, ◌⊎◌, ℕ, eqb, if◌then◌else◌}
use Rattle.riot6532.specs.declared.Io.{Io}

-- flag 7 is the timer's, flag 6 PA7's, and there is no other
abbrev pub flag_at : ℕ → Io → Bool
flag_at k io = if eqb k 7 then io.timer.flag else (if eqb k 6 then io.pa7.flag else false)

-- the line is asserted while a flag is set that is enabled
abbrev pub irq_of : Io → Bool
irq_of io = io.timer.flag && io.timer.enable || io.pa7.flag && io.pa7.enable

-- the same in words: the timer's flag and its enable are set, or PA7's are
abbrev pub Raised : Io → Type 0
Raised io =
    ((io.timer.flag ≡ true) × (io.timer.enable ≡ true)) ⊎ ((io.pa7.flag ≡ true) × (io.pa7.enable ≡ true))
