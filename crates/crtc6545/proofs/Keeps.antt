-- Every call keeps a record well formed.
use Rattle.std.specs.Prelude.{None}
use mathlib.Core.Path.{◌≡◌}
use mathlib.Core.Bool.{true, false}
use Prim.Native.Nat.{ℕ, ◌<◌, ◌≤◌}
use native.Mathlib.Omega.{arith}
use Rattle.std.proofs.lemmas.Bool.Decides.{nat_tests}
use Rattle.clocks.proofs.Clocks.{after_keeps}
use Rattle.calls.specs.Calls.{Typed45}
use Rattle.calls.specs.declared.Call45.{Call45}
use Rattle.calls.specs.declared.Call45.TheVariants.{Reset, Write, Read, Pins, Run}
use Rattle.raster.specs.Signals.{signals_of}
use Rattle.raster.proofs.Keeps.{power_up_well, clocked_well, restarted_well, stored_well, ma_small}
use Rattle.crtc6545.specs.Record.{well_formed, power_up, reset_of}
use Rattle.crtc6545.specs.Access.{read_of, write_of, refused_form}
use Rattle.crtc6545.specs.Pins.{pins_of}
use Rattle.crtc6545.specs.Clock.{strobed, clock_of}
use Rattle.crtc6545.specs.Chip.{asks_of, leaves_of}
use Rattle.crtc6545.specs.declared.Light.{Light}
use Rattle.crtc6545.specs.declared.Crtc.{Crtc}
use Rattle.crtc6545.proofs.Formed.{Formed, formed, well}

pub power_up_kept : well_formed power_up ≡ true
unfolding power_up
power_up_kept = well _ (record { raster = power_up_well; r16 = omega arith; address = omega arith; r17 = omega arith })

strobed_small : (ma : ℕ) (p : Light) → ma < 16384 → p.r16 < 64 → p.r17 < 256 → ((strobed ma p).r16 < 64) × ((strobed ma p).r17 < 256)
unfolding strobed
strobed_small ma p b h l = grind (arith, nat_tests)

pub clock_kept : (v : Crtc) → well_formed v ≡ true → well_formed (clock_of v) ≡ true
unfolding clock_of
clock_kept v w =
    let h = formed v w in
    let l = strobed_small (signals_of v.raster).ma v.light (ma_small v.raster) h.r16 h.r17 in
    well _ (record { raster = clocked_well v.raster h.raster; r16 = l.0; address = h.address; r17 = l.1 })

write_kept : (a x : ℕ) (v : Crtc) → a ≤ 1 → x < 256 → refused_form a x v ≡ false → Formed v → Formed (write_of a x v)
unfolding write_of
write_kept a x v l b e h = grind (arith, nat_tests, stored_well v.address x v.raster b)

-- what a call leaves where its operands are not refused
pub leaves_kept : (c : Call45) (v : Crtc) → Typed45 c → asks_of c v ≡ None → well_formed v ≡ true → well_formed (leaves_of c v) ≡ true
unfolding reset_of read_of pins_of
leaves_kept Reset v t e w =
    let h = formed v w in
    well _ (record { raster = restarted_well v.raster h.raster; r16 = h.r16; address = h.address; r17 = h.r17 })
leaves_kept (Write a x) v t e w =
    let low : a ≤ 1 = grind (arith, nat_tests, e) in
    let allowed : refused_form a x v ≡ false = grind (arith, nat_tests, e) in
    well _ (write_kept a x v low t.1 allowed (formed v w))
leaves_kept (Read a) v t e w =
    let h = formed v w in
    well _ (record { raster = h.raster; r16 = h.r16; address = h.address; r17 = h.r17 })
leaves_kept (Pins x) v t e w =
    let h = formed v w in
    well _ (record { raster = h.raster; r16 = h.r16; address = h.address; r17 = h.r17 })
leaves_kept (Run n b) v t e w = after_keeps (λ (u : Crtc). well_formed u ≡ true) clock_of clock_kept n v w
