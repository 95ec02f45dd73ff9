-- What is made of an answer is what the call leaves and its reply: forecasts, the 6545's turns, and every call of the 6532.
use Rattle.std.specs.Prelude.{Option, None, Some, is_none, if◌then◌else◌}
use mathlib.Core.Path.{◌≡◌, refl, ap, ap₂, sym, ◌∙◌}
use mathlib.Core.Bool.{true}
use mathlib.Core.List.{List}
use Prim.Native.Nat.{ℕ, ◌%◌, ◌<◌}
use native.Mathlib.Nat.{mod-eq_of_lt}
use Rattle.clocks.specs.Forecasts.{number_of}
use Rattle.clocks.specs.declared.Forecast.{Forecast}
use Rattle.replies.specs.declared.Reply.{Reply}
use Rattle.replies.specs.declared.Reply.TheVariants.{Number}
use Rattle.calls.specs.declared.Refusal.{Refusal}
use Rattle.calls.specs.declared.Call22.TheVariants as Via
use Rattle.calls.specs.declared.Call32.{Call32}
use Rattle.calls.specs.declared.Call32.TheVariants as Riot
use Rattle.calls.specs.declared.Call45.TheVariants as Crtc
use Rattle.chips.specs.Chips.{answer, Foretold}
use Rattle.via6522.specs.Chip as Chip22
use Rattle.via6522.specs.declared.Via.{Via}
use Rattle.via6522.specs.declared.Answer as Answer22
use Rattle.riot6532.specs.Record.{beside}
use Rattle.riot6532.specs.Chip as Chip32
use Rattle.riot6532.specs.Chip.{whole}
use Rattle.riot6532.specs.declared.Io.{Io}
use Rattle.riot6532.specs.declared.Answer as Answer32
use Rattle.riot6532.specs.declared.IoAnswer.{IoAnswer}
use Rattle.longruns.specs.Ends.{turns_of}
use Rattle.crtc6545.specs.Chip as Chip45
use Rattle.crtc6545.specs.declared.Crtc.{Crtc}
use Rattle.crtc6545.proofs.Demands.{turns_fit}
use Rattle.calling.specs.Told.{Kind, told, replied, line_of, kind32, forecast32}
use Rattle.calling.specs.After.{shown22, shown32, shown45, after_of, after22, After32, after45}
use Rattle.calling.proofs.Aheads.{ahead22_is, ahead32_is}

-- turns that are asked for fit the bytes that there are for them, and where a run is refused they do not matter
all_shown :
    (k : Option Refusal) (x l : ℕ) → (if is_none k then x else 0) < 4294967296
    → replied k (Number l (x % 4294967296)) ≡ replied k (Number l (if is_none k then x else 0))
all_shown None x l h = ap (Number l) (mod-eq_of_lt h)
all_shown (Some r) x l h = refl

pub turned45 :
    (n : ℕ) (v : Crtc) → let s = shown45 (answer Chip45.chip (Crtc.Run n true) v) in
    after_of s (Number s.line (turns_of n v.raster % 4294967296)) ≡ after45 v (Crtc.Run n true)
unfolding Chip45.running_of
turned45 n v =
    let s = shown45 (answer Chip45.chip (Crtc.Run n true) v) in
    ap (λ (x : Reply). record { chip = s.chip; reply = x }) (all_shown s.refusal (turns_of n v.raster) s.line (turns_fit v n))

pub foreseen22 :
    (v : Via) (f : Forecast) (r : Answer22.Answer) → v.t1.latch < 65536 → v.t1.counter < 65536 → v.t2.low < 256 → v.t2.counter < 65536
    → Foretold Chip22.chip Chip22.clocked Chip22.lined v f r
    → after_of (shown22 r) (Number (line_of r.irq) (number_of f)) ≡ after22 v Via.Forecast
foreseen22 v f r i j k l t =
    ap₂ (λ (w : Via) (x : Reply). record { chip = w; reply = x }) (ap (λ (a : Answer22.Answer). a.via) t.answered)
    (ahead22_is v f r (record { latch = i; counter = j; low = k; counter2 = l }) t)

pub foreseen32 :
    (m : List ℕ) (io : Io) (f : Forecast) (r : IoAnswer) → io.timer.value < 256
    → Foretold Chip32.chip Chip32.clocked Chip32.lined (beside m io) f (whole m r)
    → After32 m m io Riot.Forecast (after_of (shown32 r) (Number (line_of r.irq) (number_of f)))
foreseen32 m io f r h t =
    record { riot = ap (λ (a : Answer32.Answer). a.riot) t.answered; reply = ahead32_is (beside m io) f (whole m r) h t }
