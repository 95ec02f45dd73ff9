use Rattle.std.proofs.Common.{◌≡◌, false, rules}
use Rattle.chips.specs.Chips.{answer}
use Rattle.crtc6545.specs.Record.{reset_of}
use Rattle.crtc6545.proofs.Crtc.reset.Goals as goal

pub returns : goal.returns
unfolding answer reset_of
returns c =
    let d = c.default-self.ensures in
    let kept : c.default-self.result ≡ record { de = false; cursor = false } = λ i. record { de = d.0 i; cursor = d.1 i } in
    rw (c.accepted.ensures, c.restarted-self.ensures, kept) (search rules)
