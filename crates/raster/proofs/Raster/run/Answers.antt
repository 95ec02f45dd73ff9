use Rattle.std.proofs.Common.{◌<◌, sym, ap, ◌∙◌, arith}
use Rattle.raster.proofs.Runs.{raster, along_after, passed}
use Rattle.raster.specs.declared.Line.{Line}
use Rattle.raster.proofs.Raster.run.Goals as goal

pub loop-ahead-preserved : goal.loop-ahead-preserved
loop-ahead-preserved c =
    let i = c.loop-ahead in
    let v = i.self in
    let e = i.invariant.3 in
    let b0 : v.registers.r0 < 256 = rw e (omega (arith, c.well_formed)) in
    let b2 : v.registers.r2 < 256 = rw e (omega (arith, c.well_formed)) in
    let t =
    passed v.registers b0 b2 v.line i.invariant.2 v.frame i.ahead
    i.left i.invariant.1 (omega arith) _ _ _ c.along-last.ensures c.clocked-self.ensures c.line_ended-self.ensures in
    (t.0 ∙ i.invariant.0, omega arith, omega arith, e)

pub returns : goal.returns
returns c =
    let i = c.loop-ahead in
    let v = i.self in
    let e = i.invariant.3 in
    let b0 : v.registers.r0 < 256 = rw e (omega (arith, c.well_formed)) in
    let b2 : v.registers.r2 < 256 = rw e (omega (arith, c.well_formed)) in
    ap (λ (x : Line). raster v.registers x v.frame) c.along-self.ensures
    ∙ sym (along_after v.registers b0 b2 v.line i.invariant.2 v.frame i.left (omega arith))
    ∙ i.invariant.0
