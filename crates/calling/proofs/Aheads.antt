-- What a forecast promises is what looking ahead finds, and so the reply to it.
use mathlib.Core.Path.{◌≡◌, refl, sym, ap, ap₂, ◌∙◌}
use mathlib.Core.Bool.{Bool, true, false}
use Prim.Native.Nat.{ℕ, suc, ◌<◌}
use Rattle.clocks.specs.Forecasts.{number_of, first_from}
use Rattle.clocks.specs.declared.Forecast.{Forecast}
use Rattle.clocks.proofs.Forecasts.{AtMost, first_is}
use Rattle.replies.specs.declared.Reply.{Reply}
use Rattle.replies.specs.declared.Reply.TheVariants.{Number}
use Rattle.chips.specs.Chips.{Chip, answer, Clocked, Lined, line, Foretold}
use Rattle.chips.proofs.Chips.{Lawful, refuses_ill, reached_well}
use Rattle.calls.specs.declared.Refusal.TheVariants.{IllFormed}
use Rattle.calls.specs.declared.Call22.TheVariants as Via
use Rattle.calls.specs.declared.Call32.TheVariants as Riot
use Rattle.via6522.specs.Chip as Chip22
use Rattle.via6522.specs.declared.Via.{Via}
use Rattle.via6522.specs.declared.Answer as Answer22
use Rattle.via6522.proofs.Keeps.{Ranged}
use Rattle.via6522.proofs.Lawful as Lawful22
use Rattle.via6522.proofs.Watched as Watched22
use Rattle.riot6532.specs.Chip as Chip32
use Rattle.riot6532.specs.declared.Riot.{Riot}
use Rattle.riot6532.specs.declared.Answer as Answer32
use Rattle.riot6532.proofs.Lawful as Lawful32
use Rattle.riot6532.proofs.Watched as Watched32
use Rattle.calling.specs.Told.{replied, line_of, forecast22, reply22, forecast32, reply32}
use Rattle.calling.specs.Demands

-- of any chip with a line, whose forecast is at most m where the record is well formed
module _ (C : Chip) (S : Lawful C) (T : Clocked C) (L : Lined C) (shown : C.Answer → ℕ) (m : ℕ) (v : C.State) (f : Forecast) (r : C.Answer)
    (most : C.well v ≡ true → AtMost m f) (t : Foretold C T L v f r) where
  looked : C.well v ≡ true → number_of (first_from (suc m) 0 (λ k. line C T L k v)) ≡ number_of f
  looked w = ap number_of (first_is m (λ k. line C T L k v) f (t.told w) (most w))

  -- the reply to a forecast, by the number that was promised and by the one that looking ahead finds
  abbrev ahead : ℕ → C.Answer → Reply
  ahead n a = replied (C.refusal a) (Number (shown a) n)

  ahead_is : ahead (number_of f) r ≡ ahead (number_of (first_from (suc m) 0 (λ k. line C T L k v))) (answer C L.forecast v)
  ahead_is = go (C.well v) refl
    where
      found : ℕ
      found = number_of (first_from (suc m) 0 (λ k. line C T L k v))

      refused : (n k : ℕ) → ahead n (C.refused IllFormed v) ≡ ahead k (C.refused IllFormed v)
      refused n k = rw (S.refusal_refused IllFormed v)

      go : (b : Bool) → C.well v ≡ b → ahead (number_of f) r ≡ ahead found (answer C L.forecast v)
      go true w = ap₂ ahead (sym (looked w)) t.answered
      go false w =
          let e = refuses_ill C S L.forecast v w in
          ap (ahead (number_of f)) (t.answered ∙ e) ∙ refused (number_of f) found ∙ ap (ahead found) (sym e)

pub ahead22_is :
    (v : Via) (f : Forecast) (r : Answer22.Answer) → Ranged v → Foretold Chip22.chip Chip22.clocked Chip22.lined v f r
    → replied r.refusal (Number (line_of r.irq) (number_of f)) ≡ reply22 v Via.Forecast
unfolding forecast22
ahead22_is v f r h t =
    ahead_is Chip22.chip Lawful22.lawful Chip22.clocked Chip22.lined (λ (a : Answer22.Answer). line_of a.irq) 65537 v f r
    (λ w. Watched22.forecast_most v f r h w t) t

pub ahead32_is :
    (v : Riot) (f : Forecast) (r : Answer32.Answer) → v.io.timer.value < 256 → Foretold Chip32.chip Chip32.clocked Chip32.lined v f r
    → replied r.refusal (Number (line_of r.irq) (number_of f)) ≡ reply32 v Riot.Forecast
unfolding forecast32
ahead32_is v f r h t =
    ahead_is Chip32.chip Lawful32.lawful Chip32.clocked Chip32.lined (λ (a : Answer32.Answer). line_of a.irq) 262144 v f r
    (λ w. Watched32.forecast_most v f r h w t) t

pub forecast_told : Demands.ForecastTold
unfolding forecast22 forecast32
forecast_told = (
  λ v f r reached t.
      let w = reached_well Chip22.chip Lawful22.lawful v reached in
      looked Chip22.chip Lawful22.lawful Chip22.clocked Chip22.lined (λ a. 0) 65537 v f r
      (λ w. Watched22.forecast_most v f r (Watched22.reached_ranged v reached) w t) t w,
  λ v f r reached t.
      let w = reached_well Chip32.chip Lawful32.lawful v reached in
      looked Chip32.chip Lawful32.lawful Chip32.clocked Chip32.lined (λ a. 0) 262144 v f r
      (λ w. Watched32.forecast_most v f r (Watched32.reached_byte v reached) w t) t w,
)
