-- What the code computes in place of looking ahead. No promise of a public entry rests on it: proofs/ shows that the clocks lead there.
use Rattle.std.specs.Prelude.{Bool, false, if◌then◌else◌}
use Rattle.clocks.specs.Bits.{bit, with_bit}
use Rattle.clocks.specs.Forecasts.{sooner_of}
use Rattle.clocks.specs.declared.Forecast.{Forecast}
use Rattle.clocks.specs.declared.Forecast.TheVariants.{Never, In}
use Rattle.flags.specs.Flags.{interrupt}
use Rattle.via6522.specs.declared.Via.{Via}

-- whether a flag that no clock moves asserts the line
unfoldable pub steady : Via → Bool
steady v = interrupt (with_bit 6 false (with_bit 5 false (with_bit 2 false v.ifr))) v.ier

-- when the line is asserted, given when the flags of T1, T2 and the shift register are set
unfoldable pub soonest : Via → Forecast → Forecast → Forecast → Forecast
soonest v due1 due2 due3 =
    sooner_of (if bit 6 v.ier then due1 else Never)
    (sooner_of (if bit 5 v.ier then due2 else Never)
    (sooner_of (if bit 2 v.ier then due3 else Never) (if steady v then In 0 else Never)))
