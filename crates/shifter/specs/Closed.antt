-- What the code computes in place of single clocks. No promise of a public function rests on it: proofs/ shows that the clocks lead there.
use Rattle.std.specs.Prelude.{ℕ, ◌-◌, ◌*◌, if◌then◌else◌}
use Rattle.std.specs.Int.{from_bool}
use Rattle.clocks.specs.declared.Forecast.{Forecast}
use Rattle.clocks.specs.declared.Forecast.TheVariants.{Never, In}
use Rattle.shifter.specs.Shifter.{counting}
use Rattle.shifter.specs.declared.Shifter.{Shifter}

-- the clocks up to the last shift; a set mark stands for one of them
abbrev pub clocks_of : Shifter → ℕ
clocks_of s = 2 * s.left - from_bool s.half

-- when the flag is set
abbrev pub due_of : Shifter → Forecast
due_of s = if s.flag then In 0 else (if counting s then In (clocks_of s) else Never)
