use mathlib.Core.Path.{◌∙◌}
use Rattle.riot6532.proofs.Riot.reset.Goals as goal

pub returns : goal.returns
returns c = c.whole.ensures ∙ c.reset.ensures c.args.self.ram
