use mathlib.Core.Path.{◌∙◌}
use Rattle.riot6532.proofs.Riot.clock.Goals as goal

pub returns : goal.returns
returns c = c.whole.ensures ∙ c.clock.ensures c.args.self.ram
