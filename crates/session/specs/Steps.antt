-- One frame on the bench: the chip that it names answers, and its answer is the reply.
use Rattle.std.specs.Prelude.{Option, None, Some}
use Rattle.frames.specs.declared.Frame.{Frame}
use Rattle.frames.specs.declared.Frame.TheVariants.{To22, To25, To32, To45}
use Rattle.calls.specs.declared.Refusal.TheVariants.{NoFrame}
use Rattle.replies.specs.declared.Reply.TheVariants.{Refused}
use Rattle.chips.specs.Chips.{next}
use Rattle.via6522.specs.Chip as Chip22
use Rattle.tpi6525.specs.Chip as Chip25
use Rattle.riot6532.specs.Chip as Chip32
use Rattle.crtc6545.specs.Chip as Chip45
use Rattle.via6522.specs.declared.Via.{Via}
use Rattle.tpi6525.specs.declared.Tpi.{Tpi}
use Rattle.riot6532.specs.declared.Riot.{Riot}
use Rattle.crtc6545.specs.declared.Crtc.{Crtc}
use Rattle.calling.specs.Told.{reply22, reply25, reply32, reply45}
use Rattle.session.specs.declared.Bench.{Bench}
use Rattle.session.specs.declared.Stepped.{Stepped}

-- the bench with another state of one chip
abbrev pub with_via : Via → Bench → Bench
with_via v b = record { via = v; tpi = b.tpi; riot = b.riot; crtc = b.crtc }

abbrev pub with_tpi : Tpi → Bench → Bench
with_tpi v b = record { via = b.via; tpi = v; riot = b.riot; crtc = b.crtc }

abbrev pub with_riot : Riot → Bench → Bench
with_riot v b = record { via = b.via; tpi = b.tpi; riot = v; crtc = b.crtc }

abbrev pub with_crtc : Crtc → Bench → Bench
with_crtc v b = record { via = b.via; tpi = b.tpi; riot = b.riot; crtc = v }

-- all chips start at power-up
unfoldable pub power_up : Bench
power_up =
    record {
      via = (Chip22.chip).power_up;
      tpi = (Chip25.chip).power_up;
      riot = (Chip32.chip).power_up;
      crtc = (Chip45.chip).power_up;
    }

-- what is no frame is refused as that; a frame moves the chip that it names, and no other
unfoldable pub step_of : Bench → Option Frame → Stepped
step_of b None = record { bench = b; reply = Refused NoFrame }
step_of b (Some (To22 c)) = record { bench = with_via (next Chip22.chip c b.via) b; reply = reply22 b.via c }
step_of b (Some (To25 c)) = record { bench = with_tpi (next Chip25.chip c b.tpi) b; reply = reply25 b.tpi c }
step_of b (Some (To32 c)) = record { bench = with_riot (next Chip32.chip c b.riot) b; reply = reply32 b.riot c }
step_of b (Some (To45 c)) = record { bench = with_crtc (next Chip45.chip c b.crtc) b; reply = reply45 b.crtc c }
