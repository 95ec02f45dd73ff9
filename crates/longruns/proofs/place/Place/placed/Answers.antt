use Rattle.std.proofs.Common.{◌∙◌, ap₂}
use Rattle.longruns.specs.Closed.{ends_before}
use Rattle.longruns.proofs.Places.{moved_short, place_fits, moved_past}
use Rattle.longruns.proofs.place.Place.placed.Goals as goal

pub returns-then-n-first : goal.returns-then-n-first
returns-then-n-first c =
    let v = c.args.self in
    c.back.ensures
    ∙ moved_short v.registers v.frame v.counters c.args.n c.ends_before-first.result c.ends_before-first.ensures.0 c.if-n-first.true

pub back-requires-2 : goal.back-requires-2
back-requires-2 c =
    let v = c.args.self in
    let q = c.ends_before-last.ensures.0 ∙ ap₂ ends_before c.frame_on.ensures.0 c.frame_on.ensures.1 in
    rw (c.frame_on-2.ensures.0, c.frame_on-2.ensures.1)
    (place_fits v.registers v.frame v.counters c.args.n _ _ c.ends_before-first.ensures.0 q)

pub returns : goal.returns
returns c =
    let v = c.args.self in
    let q = c.ends_before-last.ensures.0 ∙ ap₂ ends_before c.frame_on.ensures.0 c.frame_on.ensures.1 in
    rw (c.back-2.ensures, c.frame_on-2.ensures.0, c.frame_on-2.ensures.1)
    (moved_past v.registers v.frame v.counters c.args.n _ _ c.ends_before-first.ensures.0 q c.if-n-first.false)
