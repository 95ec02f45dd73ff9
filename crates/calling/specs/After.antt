-- What a call leaves of its chip, beside its reply.
use Rattle.std.specs.Prelude.{◌≡◌, List, ℕ}
use Rattle.replies.specs.declared.Reply.{Reply}
use Rattle.calls.specs.declared.Call22.{Call22}
use Rattle.calls.specs.declared.Call25.{Call25}
use Rattle.calls.specs.declared.Call32.{Call32}
use Rattle.calls.specs.declared.Call45.{Call45}
use Rattle.chips.specs.Chips.{next}
use Rattle.via6522.specs.Chip as Chip22
use Rattle.via6522.specs.declared.Via.{Via}
use Rattle.via6522.specs.declared.Answer as Answer22
use Rattle.tpi6525.specs.Chip as Chip25
use Rattle.tpi6525.specs.declared.Tpi.{Tpi}
use Rattle.tpi6525.specs.declared.Answer as Answer25
use Rattle.riot6532.specs.Record.{beside}
use Rattle.riot6532.specs.Chip as Chip32
use Rattle.riot6532.specs.declared.Io.{Io}
use Rattle.riot6532.specs.declared.IoAnswer.{IoAnswer}
use Rattle.crtc6545.specs.Chip as Chip45
use Rattle.crtc6545.specs.declared.Crtc.{Crtc}
use Rattle.crtc6545.specs.declared.Answer as Answer45
use Rattle.calling.specs.Told.{replied, line_of, lines45, reply22, reply25, reply32, reply45}
use Rattle.calling.specs.declared.After.{After}
use Rattle.calling.specs.declared.Shown.{Shown}

-- what a reply is made of, of each chip's answer
abbrev pub shown22 : Answer22.Answer → Shown Via
shown22 a = record { chip = a.via; refusal = a.refusal; line = line_of a.irq; «data» = a.«data» }

abbrev pub shown25 : Answer25.Answer → Shown Tpi
shown25 a = record { chip = a.tpi; refusal = a.refusal; line = line_of a.irq; «data» = a.«data» }

abbrev pub shown32 : IoAnswer → Shown Io
shown32 a = record { chip = a.io; refusal = a.refusal; line = line_of a.irq; «data» = a.«data» }

abbrev pub shown45 : Answer45.Answer → Shown Crtc
shown45 a = record { chip = a.crtc; refusal = a.refusal; line = lines45 a; «data» = a.«data» }

-- what is left of the chip, and this reply, unless the call was refused
abbrev pub after_of : {C : Type 0} → Shown C → Reply → After C
after_of s r = record { chip = s.chip; reply = replied s.refusal r }

-- what a call leaves of a chip, and its reply
abbrev pub after22 : Via → Call22 → After Via
after22 v c = record { chip = next Chip22.chip c v; reply = reply22 v c }

abbrev pub after25 : Tpi → Call25 → After Tpi
after25 v c = record { chip = next Chip25.chip c v; reply = reply25 v c }

abbrev pub after45 : Crtc → Call45 → After Crtc
after45 v c = record { chip = next Chip45.chip c v; reply = reply45 v c }

-- of the 6532, with its RAM before and after
pub record After32 (before now : List ℕ) (io : Io) (c : Call32) (r : After Io) : Type 0 where
  pub riot : beside now r.chip ≡ next Chip32.chip c (beside before io)
  pub reply : r.reply ≡ reply32 (beside before io) c
