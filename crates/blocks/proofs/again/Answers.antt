use mathlib.Core.Path.{sym, ap, ◌∙◌}
use Prim.Native.Nat.{◌-◌}
use native.Mathlib.Omega.{arith}
use lib.ListN.{drop, length-take}
use Rattle.blocks.specs.Windows.{window, notes}
use Rattle.blocks.proofs.Windows.{none, times_none}
use Rattle.blocks.proofs.Copies.{last, repeating_one, repeating_full, repeating_end}
use Rattle.blocks.proofs.again.Goals as goal

pub returns-then-size-eq0 : goal.returns-then-size-eq0
returns-then-size-eq0 c =
    let a = c.args in
    let l = a.out.now in
    let w = window 0 a.used l in
    sym (ap (notes w) (times_none a.times (last a.size a.used l) (omega (arith, length-take a.size (drop (a.used - a.size) l)))) ∙ none w)

pub returns-then-out-to : goal.returns-then-out-to
returns-then-out-to c =
    let more = c.loop-test.true in
    repeating_full c.loop.invariant _ (omega arith) c.if-out-to.true

pub loop-preserved : goal.loop-preserved
loop-preserved c = let p = c.requires in repeating_one c.loop.invariant _ _ p.0 p.1 c.if-out-to.false c.copied-to.ensures

pub returns : goal.returns
returns c = repeating_end c.loop.invariant _ c.loop.auto.counter-end c.loop-test.false
