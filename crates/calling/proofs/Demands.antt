-- The statements of specs/Demands.antt, proved.
use mathlib.Core.Path.{sym, ap, ◌∙◌}
use Rattle.riot6532.specs.declared.Riot.{Riot}
use Rattle.calling.specs.Demands
use Rattle.calling.proofs.Aheads as Aheads

pub forecast_told : Demands.ForecastTold
forecast_told = Aheads.forecast_told

pub after_one : Demands.AfterOne
after_one before x y io c r s a b =
    let e = a.riot ∙ sym b.riot in
    (ap (λ (v : Riot). v.ram) e, λ i. record { chip = (e i).io; reply = (a.reply ∙ sym b.reply) i })
