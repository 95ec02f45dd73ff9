use Rattle.std.proofs.Common.{sym, arith}
use Rattle.longruns.proofs.Lines.{along_ends, ends_some}
use Rattle.longruns.proofs.ends.Goals as goal

pub returns-then-first-n : goal.returns-then-first-n
returns-then-first-n c =
    let v = c.args.raster in
    let e = c.ahead-first.ensures.0 in
    rw e (sym (ends_some v.registers (omega (arith, c.well_formed)) (omega (arith, c.well_formed)) c.args.n v.line (omega (arith, c.well_formed)) v.frame (omega arith)))

pub returns-else-first-n : goal.returns-else-first-n
returns-else-first-n c =
    let v = c.args.raster in
    let e = c.ahead-first.ensures.0 in
    sym (along_ends v.registers (omega (arith, c.well_formed)) (omega (arith, c.well_formed)) v.line (omega (arith, c.well_formed)) v.frame c.args.n (omega arith))
