-- What is told of a chip's answer: the reply to a call.
use Rattle.std.specs.Prelude.{Bool, ℕ, ◌+◌, Option, None, Some, if◌then◌else◌}
use Rattle.clocks.specs.Forecasts.{number_of, first_from}
use Rattle.calls.specs.declared.Refusal.{Refusal}
use Rattle.calls.specs.declared.Call22.{Call22}
use Rattle.calls.specs.declared.Call22.TheVariants as Via
use Rattle.calls.specs.declared.Call25.{Call25}
use Rattle.calls.specs.declared.Call25.TheVariants as Tpi
use Rattle.calls.specs.declared.Call32.{Call32}
use Rattle.calls.specs.declared.Call32.TheVariants as Riot
use Rattle.calls.specs.declared.Call45.{Call45}
use Rattle.calls.specs.declared.Call45.TheVariants as Crtc
use Rattle.replies.specs.declared.Reply.{Reply}
use Rattle.replies.specs.declared.Reply.TheVariants.{Refused, Done, Data, Read, Number}
use Rattle.chips.specs.Chips.{answer, line}
use Rattle.via6522.specs.Chip as Chip22
use Rattle.via6522.specs.declared.Via.{Via}
use Rattle.tpi6525.specs.Chip as Chip25
use Rattle.tpi6525.specs.declared.Tpi.{Tpi}
use Rattle.riot6532.specs.Chip as Chip32
use Rattle.riot6532.specs.declared.Riot.{Riot}
use Rattle.crtc6545.specs.Chip as Chip45
use Rattle.crtc6545.specs.declared.Crtc.{Crtc}
use Rattle.crtc6545.specs.declared.Answer as Answer45

-- what follows the line byte of an accepted call: nothing, the byte that was read, that byte and the mask of the flags that the read
-- cleared, a forecast's number, or the number of turns
pub data Kind : Type 0 where
  nothing : Kind
  a_byte : Kind
  a_byte_and_mask : ℕ → Kind
  a_forecast : Kind
  turns : ℕ → Kind

abbrev pub told : Kind → ℕ → ℕ → ℕ → Reply
told nothing l d n = Done l
told a_byte l d n = Data l d
told (a_byte_and_mask m) l d n = Read l d m
told a_forecast l d n = Number l n
told (turns t) l d n = Number l t

-- a refused call is answered by its refusal alone
abbrev pub replied : Option Refusal → Reply → Reply
replied None r = r
replied (Some k) r = Refused k

-- the line byte: the interrupt line of the 6522, the 6525 and the 6532, and four lines of the 6545 in bits 0 to 3
abbrev pub line_of : Bool → ℕ
line_of irq = if irq then 1 else 0

abbrev pub lines45 : Answer45.Answer → ℕ
lines45 a =
    (if a.de then 1 else 0) + (if a.hsync then 2 else 0) + (if a.vsync then 4 else 0) + (if a.cursor then 8 else 0)

-- ---- the 6522

abbrev pub kind22 : Call22 → Via → Kind
kind22 Via.Reset v = nothing
kind22 (Via.Write r x) v = nothing
kind22 (Via.Read r) v = a_byte_and_mask (Chip22.reading_of r v).cleared
kind22 (Via.Pins pa pb control) v = nothing
kind22 (Via.Run n) v = nothing
kind22 Via.Forecast v = a_forecast

-- its forecast, by looking ahead: no record that its types allow has the line asserted first after more than 65,537 clocks
unfoldable pub forecast22 : Via → ℕ
forecast22 v = number_of (first_from 65538 0 (λ k. line Chip22.chip Chip22.clocked Chip22.lined k v))

abbrev pub reply22 : Via → Call22 → Reply
reply22 v c =
    replied (answer Chip22.chip c v).refusal
    (told (kind22 c v) (line_of (answer Chip22.chip c v).irq) (answer Chip22.chip c v).«data» (forecast22 v))

-- ---- the 6525

-- a read shows its byte and no mask
abbrev pub kind25 : Call25 → Tpi → Kind
kind25 Tpi.Reset v = nothing
kind25 (Tpi.Write r x) v = nothing
kind25 (Tpi.Read r) v = a_byte
kind25 (Tpi.Pins pa pb pc) v = nothing
kind25 (Tpi.Run n) v = nothing

abbrev pub reply25 : Tpi → Call25 → Reply
reply25 v c =
    replied (answer Chip25.chip c v).refusal
    (told (kind25 c v) (line_of (answer Chip25.chip c v).irq) (answer Chip25.chip c v).«data» 0)

-- ---- the 6532

-- every read shows its mask, one of RAM or of a port too
abbrev pub kind32 : Call32 → Riot → Kind
kind32 Riot.Reset v = nothing
kind32 (Riot.Write a x) v = nothing
kind32 (Riot.Read a) v = a_byte_and_mask (Chip32.reading_of a v).cleared
kind32 (Riot.Pins pa pb) v = nothing
kind32 (Riot.Run n) v = nothing
kind32 Riot.Forecast v = a_forecast

-- no record that its types allow has the line asserted first after more than 262,144 clocks
unfoldable pub forecast32 : Riot → ℕ
forecast32 v = number_of (first_from 262145 0 (λ k. line Chip32.chip Chip32.clocked Chip32.lined k v))

abbrev pub reply32 : Riot → Call32 → Reply
reply32 v c =
    replied (answer Chip32.chip c v).refusal
    (told (kind32 c v) (line_of (answer Chip32.chip c v).irq) (answer Chip32.chip c v).«data» (forecast32 v))

-- ---- the 6545

-- a byte that nothing drives is not shown, and turns are shown where they are asked for
abbrev pub kind45 : Call45 → Crtc → Kind
kind45 Crtc.Reset v = nothing
kind45 (Crtc.Write a x) v = nothing
kind45 (Crtc.Read a) v = if (Chip45.reading_of a v).undriven then nothing else a_byte
kind45 (Crtc.Pins pen) v = nothing
kind45 (Crtc.Run n counted) v = if counted then turns (Chip45.running_of n counted v).turns else nothing

abbrev pub reply45 : Crtc → Call45 → Reply
reply45 v c =
    replied (answer Chip45.chip c v).refusal
    (told (kind45 c v) (lines45 (answer Chip45.chip c v)) (answer Chip45.chip c v).«data» 0)
