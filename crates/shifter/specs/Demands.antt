-- What request 06 asks of the shift register beyond the promises. proofs/Demands.antt has a proof of each statement, under its name in small letters.
use Rattle.std.specs.Prelude.{◌≡◌, Bool, true, false, ℕ, suc, ◌-◌, ◌<◌, ◌≤◌, eqb, leb}
use Rattle.clocks.specs.Clocks.{after}
use Rattle.clocks.specs.Bits.{bit}
use Rattle.clocks.specs.Forecasts.{comes}
use Rattle.clocks.specs.declared.Forecast.{Forecast}
use Rattle.shifter.specs.Shifter.{by_clock, outward, shifts, clocked, accessed}
use Rattle.shifter.specs.declared.Shifter.{Shifter}

-- eight shifts outward put the byte's bits on CB2, the highest first, and leave the byte as it was, whatever the levels
abbrev pub EightOut : Type 0
EightOut =
    (l : ℕ → Bool) (s : Shifter) → outward s.mode ≡ true → s.byte < 256
    → ((k : ℕ) → k < 8 → (shifts (suc k) l s).output ≡ bit (7 - k) s.byte) × ((shifts 8 l s).byte ≡ s.byte)

-- eight shifts inward leave the eight levels, the first in bit 7, and nothing of the byte before; the CB2 output stays
abbrev pub EightIn : Type 0
EightIn =
    (l : ℕ → Bool) (s : Shifter) → outward s.mode ≡ false
    → ((k : ℕ) → k < 8 → bit (7 - k) (shifts 8 l s).byte ≡ l k) × ((shifts 8 l s).output ≡ s.output)

-- after an access the flag is set by the eighth shift, and in modes 2 and 6 that is clock 16
abbrev pub EighthFlags : Type 0
EighthFlags = (l : ℕ → Bool) (s : Shifter) (n : ℕ) → n ≤ 8 → s.left ≡ 8 → s.flag ≡ false → (shifts n l s).flag ≡ eqb n 8

abbrev pub SixteenClocks : Type 0
SixteenClocks =
    (level : Bool) (s : Shifter) (n : ℕ) → by_clock s.mode ≡ true → (after n (clocked level) (accessed s)).flag ≡ leb 16 n

-- any two results that `due` may give coincide
abbrev pub DueOne : Type 0
DueOne =
    (s : Shifter) (f g : Forecast)
    → ((level : Bool) (k : ℕ) → (after k (clocked level) s).flag ≡ comes f k)
    → ((level : Bool) (k : ℕ) → (after k (clocked level) s).flag ≡ comes g k)
    → f ≡ g
