use mathlib.Core.Bool.{true≢false}
use mathlib.Core.Path.{◌∙◌, ap, sym}
use Rattle.clocks.specs.Forecasts.{comes}
use Rattle.clocks.specs.declared.Forecast as Forecasts
use Rattle.calls.specs.declared.Call32.TheVariants.{Forecast}
use Rattle.chips.proofs.Chips.{accepts, accepts_only_well}
use Rattle.riot6532.specs.Record.{beside}
use Rattle.riot6532.specs.Chip.{chip, whole}
use Rattle.riot6532.proofs.Lines.{line_due}
use Rattle.riot6532.proofs.Io.forecast.Goals as goal

pub returns : goal.returns
returns c = λ m.
    let io = c.args.self in
    let fine = accepts_only_well chip Forecast (beside m io) _ c.refusal.ensures c.in_default.is in
    record {
      answered = ap (whole m) c.accepted.ensures ∙ sym (accepts chip Forecast (beside m io) _ c.refusal.ensures c.in_default.is);
      told = λ w k.
          line_due (beside m io) _ w c.due.ensures k
          ∙ ap (λ (f : Forecasts.Forecast). comes f k) (sym c.soonest.ensures);
      refused = λ w. absurd (true≢false (sym fine ∙ w));
    }
