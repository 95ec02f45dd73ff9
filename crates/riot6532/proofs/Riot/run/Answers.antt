use mathlib.Core.Path.{◌∙◌}
use Rattle.riot6532.proofs.Riot.run.Goals as goal

pub returns : goal.returns
returns c = c.whole.ensures ∙ c.run.ensures c.args.self.ram
