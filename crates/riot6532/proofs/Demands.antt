-- The statements of specs/Demands.antt, proved.
use Rattle.std.specs.Prelude.{if◌then◌else◌}
use mathlib.Core.Path.{◌≡◌, refl, ap, ap₂, ◌∙◌}
use mathlib.Core.Bool.{Bool, not, ◌&&◌}
use mathlib.Core.List.{[]}
use Prim.Native.Nat.{ℕ}
use lib.Dec.{eqb}
use native.Mathlib.Omega.{arith}
use Rattle.std.proofs.lemmas.Bool.Decides.{nat_tests}
use Rattle.clocks.specs.Bits.{bit, with_bit}
use Rattle.clocks.proofs.Bits.{bit_none, bit_clear, bit_with}
use Rattle.calls.specs.declared.Call32.TheVariants.{Read}
use Rattle.chips.specs.Chips.{next}
use Rattle.chips.proofs.Chips as Chips
use Rattle.riot6532.specs.Record.{beside}
use Rattle.riot6532.specs.Flags.{flag_at}
use Rattle.riot6532.specs.Access.{flags_of}
use Rattle.riot6532.specs.Chip.{chip, clocked, lined, whole, flags, reading_of}
use Rattle.riot6532.specs.Demands
use Rattle.riot6532.specs.declared.Io.{Io}
use Rattle.riot6532.proofs.Lawful.{lawful, ticks}
use Rattle.riot6532.proofs.Watched.{watched}

pub answers : Demands.Answers
answers = Chips.answers chip lawful

pub runs : Demands.Runs
runs = Chips.runs chip lawful clocked ticks

pub lines : Demands.Lines
lines = Chips.lines chip lawful clocked ticks lined watched

-- what request 14 asks
pub keeps_word : Demands.KeepsWord
keeps_word = Chips.keeps_word chip lawful clocked ticks lined watched

pub runs_add : Demands.RunsAdd
runs_add = Chips.runs_add chip lawful clocked ticks

pub largest_forecast_lem : Demands.LargestForecast
largest_forecast_lem = Chips.largest_forecast_lem chip lawful clocked ticks lined watched

pub power_up_reset : Demands.PowerUpReset
power_up_reset = refl

pub whole_one : Demands.WholeOne
whole_one m n r s e = grind (arith, nat_tests)

-- what holds with any RAM beside it holds with an empty one
pub forecast_shortened_io : Demands.ForecastShortenedIo
forecast_shortened_io io f g n before ran later h p q t =
    keeps_word.forecast_shortened (beside [] io) f g n
    (record { before = whole [] before; ran = whole [] ran; later = whole [] later; foretold = p []; at_most = h; run = q []; again = t [] })

pub runs_add_io : Demands.RunsAddIo
runs_add_io io a b r s t h p q e =
    (whole_one [] [] s t (runs_add (beside [] io) a b (whole [] r) (whole [] s) (whole [] t) h (p []) (q []) (e []))).1

pub forecast_bound_io : Demands.ForecastBoundIo
forecast_bound_io m io f r d reached t e = largest_forecast_lem.forecast_bound (beside m io) f (whole m r) d reached (t m) e

pub whole_reading_one : Demands.WholeReadingOne
whole_reading_one m n r s e = grind (arith, nat_tests)

pub read_answers : Demands.ReadAnswers
unfolding reading_of
read_answers a v = refl

-- the byte of the flags, bit by bit
flag_bit : (k : ℕ) (io : Io) → bit k (flags_of io) ≡ flag_at k io
unfolding flags_of
flag_bit k io =
    let t = io.timer.flag in
    let p = io.pa7.flag in
    bit_with 7 t k (with_bit 6 p 0)
    ∙ ap (λ (q : Bool). if eqb k 7 then t else q) (bit_with 6 p k 0 ∙ ap (λ (q : Bool). if eqb k 6 then p else q) (bit_none k))

pub cleared_by_bit : Demands.ClearedByBit
unfolding reading_of
cleared_by_bit a k v =
    let u = next chip (Read a) v in
    bit_clear k (flags_of u.io) (flags_of v.io) ∙ ap₂ (λ (p q : Bool). p && not q) (flag_bit k v.io) (flag_bit k u.io)

pub refused_clears_none : Demands.RefusedClearsNone
unfolding reading_of
refused_clears_none a v r z = Chips.refused_clears chip lawful flags (Read a) v r z
