use mathlib.Core.Path.{sym, ◌∙◌, subst}
use native.Mathlib.Omega.{arith}
use Rattle.std.specs.Io.KnownBytes.{Appends}
use Rattle.unrolled.proofs.Windows.{is_accepted, its_lines, its_number}
use Rattle.unrolled.proofs.Demands.{number_alone}
use Rattle.repeats.proofs.answered.Goals as goal

pub windows-requires : goal.windows-requires
windows-requires g c =
    let d = c.in-Lines.ensures in
    (is_accepted (omega arith) (omega arith) d, its_lines (omega arith) (omega arith) d, omega (arith, c.begin.auto.out, c.requires.1))

pub returns-in-Told-clause-answers : goal.returns-in-Told-clause-answers
returns-in-Told-clause-answers g c = λ w.
    let n = its_number (omega arith) (omega arith) c.in-Told.ensures in
    subst (Appends _ _) (n.2.text ∙ sym (number_alone _ n.0 n.1)) (c.write.ensures.bytes w)
