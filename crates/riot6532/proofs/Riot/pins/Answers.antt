use mathlib.Core.Path.{◌∙◌}
use Rattle.riot6532.proofs.Riot.pins.Goals as goal

pub returns : goal.returns
returns c = c.whole.ensures ∙ c.pins.ensures c.args.self.ram
