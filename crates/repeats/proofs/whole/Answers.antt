use Rattle.std.specs.Io.KnownBytes.{Appends}
use Rattle.repeats.proofs.Streaming.{all_of_it}
use Rattle.repeats.proofs.whole.Goals as goal

pub returns : goal.returns
returns g c = λ w.
    let s = c.in-Some in
    all_of_it _ _ c.input.new.buf s.n c.input.auto.buf s.ensures.within s.ensures.bytes s.ensures.end (Appends _ _)
    (rw s.ensures.output at (c.answered.ensures.answers w))
