use mathlib.Core.Path.{◌∙◌}
use Rattle.riot6532.proofs.Riot.forecast.Goals as goal

pub returns : goal.returns
returns c =
    let v = c.args.self in
    let f = c.forecast-forecast.ensures v.ram in
    record { answered = c.whole.ensures ∙ f.answered; told = f.told; refused = f.refused }
