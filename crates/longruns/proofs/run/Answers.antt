use Rattle.std.proofs.Common.{ℕ, sym, refl, ◌∙◌, ap₂, lit<, lit≤}
use Rattle.clocks.specs.Clocks.{after}
use Rattle.raster.specs.Clock.{raster_clocked}
use Rattle.raster.specs.declared.Raster.{Raster}
use Rattle.longruns.proofs.Leaps.{far_is, leaps}
use Rattle.longruns.proofs.run.Goals as goal
use Rattle.longruns.proofs.run.Goals.{then-far, else-far}

pub returns : goal.returns
returns c =
    elim c.if-far.branch [
      | then-far w ↦
          c.run.ensures
          ∙ ap₂ (λ (k : ℕ) (x : Raster). after k raster_clocked x) w.left-is (w.raster-is ∙ w.leapt-raster.ensures)
          ∙ sym (leaps (far_is c.args.raster c.args.n _ _ c.far.ensures w.if-far.true w.ahead.ensures.0) _ _ refl (lit≤ tt) (lit< tt))
      | else-far w ↦ c.run.ensures ∙ ap₂ (λ (k : ℕ) (x : Raster). after k raster_clocked x) w.left-is w.raster-is
    ]
