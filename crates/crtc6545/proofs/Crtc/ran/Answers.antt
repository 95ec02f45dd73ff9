use Prim.Native.Nat.{ℕ, suc, ◌-◌}
use mathlib.Core.Path.{◌≡◌, ◌∙◌, ap, sym}
use native.Mathlib.Omega.{arith}
use Rattle.clocks.specs.Clocks.{after}
use Rattle.raster.specs.declared.Signals.{Signals}
use Rattle.crtc6545.specs.Clock.{strobed, clock_of}
use Rattle.crtc6545.specs.declared.Light.{Light}
use Rattle.crtc6545.proofs.Runs.{moved, after_moved}
use Rattle.crtc6545.proofs.Crtc.ran.Goals as goal

pub returns : goal.returns
returns c =
    let n = c.args.n in
    let v = c.args.self in
    let e : suc (n - 1) ≡ n = omega (arith, c.if-n-eq0.false) in
    let light = c.strobed-self.ensures ∙ ap (λ (x : Signals). strobed x.ma v.light) c.signals-first.ensures in
    rw (c.clocked-self.ensures, c.signals-signals.ensures, c.run-last.ensures)
    (ap (λ (x : Light). moved (n - 1) x v) light ∙ sym (after_moved (n - 1) v) ∙ ap (λ (k : ℕ). after k clock_of v) e)
