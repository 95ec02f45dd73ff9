-- A window on a list that is longer than any buffer: so many are passed over, then as many are noted as there is room for.
use Rattle.std.specs.Prelude.{◌≡◌, List, [], ◌∷◌, ℕ, ◌+◌, ◌-◌, ◌<◌, ltb, length, take, drop, set, if◌then◌else◌}

-- a window: how many are still to be passed over, how many are noted, and the buffer with those at its front
pub record Window : Type 0 where
  pub skip : ℕ
  pub used : ℕ
  pub seen : List ℕ

abbrev pub window : ℕ → ℕ → List ℕ → Window
window skip used seen = record { skip = skip; used = used; seen = seen }

-- one more comes: it is passed over, or noted where there is room, or too late
unfoldable pub note_of : Window → ℕ → Window
note_of w p =
    if ltb 0 w.skip then window (w.skip - 1) w.used w.seen else
    (if ltb w.used (length w.seen) then window 0 (w.used + 1) (set w.seen w.used p) else
    window 0 w.used w.seen)

unfoldable pub notes : Window → List ℕ → Window
notes w [] = w
notes w (p ∷ ps) = notes (note_of w p) ps

-- the list o came last: until the window was full, so many of it were passed over and so many noted; and if none was passed over, it
-- is what the first `used` end with
pub record Last (o : List ℕ) (passed noted used : ℕ) (l : List ℕ) : Type 0 where
  pub size : used < length l → length o ≡ passed + noted
  pub same : used < length l → passed ≡ 0 → take noted (drop (used - noted) l) ≡ o
