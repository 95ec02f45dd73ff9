use mathlib.Core.Path.{◌∙◌, ap, sym}
use Rattle.calls.specs.declared.Call32.TheVariants.{Run}
use Rattle.clocks.proofs.Tests.{on_true}
use Rattle.chips.proofs.Chips.{accepts, accepts_only_well}
use Rattle.riot6532.specs.Record.{beside, with_timer}
use Rattle.interval.specs.declared.Timer.{Timer}
use Rattle.riot6532.specs.Chip.{chip, accepted, accepted_io, whole}
use Rattle.riot6532.proofs.Lines.{timer_after}
use Rattle.riot6532.proofs.Io.run.Goals as goal

pub returns : goal.returns
returns c = λ m.
    let io = c.args.self in
    let n = c.args.n in
    let moves = c.run-self.ensures ∙ on_true _ _ _ (accepts_only_well chip (Run n) (beside m io) _ c.refusal.ensures c.in_default.is) in
    ap (whole m) (c.accepted.ensures ∙ ap (λ (t : Timer). accepted_io 0 (with_timer t io)) moves)
    ∙ ap (accepted 0) (sym (timer_after n (beside m io)))
    ∙ sym (accepts chip (Run n) (beside m io) _ c.refusal.ensures c.in_default.is)
