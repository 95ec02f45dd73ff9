-- Tests of calls whose operands are values of their types.
use mathlib.Core.Path.{◌≡◌}
use mathlib.Core.Bool.{Bool, true, ◌&&◌}
use Prim.Native.Nat.{ℕ, ◌<◌}
use lib.Dec.{ltb}
use borrow.Author.Tests.{ltb-true}
use Rattle.clocks.proofs.Tests.{both}
use Rattle.calls.specs.Calls.{Typed22, Typed25, Typed32, Typed45}
use Rattle.calls.specs.declared.Call22.{Call22}
use Rattle.calls.specs.declared.Call22.TheVariants as Via
use Rattle.calls.specs.declared.Call25.{Call25}
use Rattle.calls.specs.declared.Call25.TheVariants as Tpi
use Rattle.calls.specs.declared.Call32.{Call32}
use Rattle.calls.specs.declared.Call32.TheVariants as Riot
use Rattle.calls.specs.declared.Call45.{Call45}
use Rattle.calls.specs.declared.Call45.TheVariants as Crtc

abbrev byte : ℕ → Bool
byte x = ltb x 256

abbrev clocks : ℕ → Bool
clocks n = ltb n 4294967296

two : (x y : ℕ) → (byte x && byte y) ≡ true → (x < 256) × (y < 256)
two x y e = let b = both (byte x) (byte y) e in (ltb-true x 256 b.0, ltb-true y 256 b.1)

three : (x y z : ℕ) → (byte x && byte y && byte z) ≡ true → (x < 256) × (y < 256) × (z < 256)
three x y z e =
    let b = both (byte x && byte y) (byte z) e in
    let a = two x y b.0 in
    (a.0, a.1, ltb-true z 256 b.1)

abbrev pub typed22 : Call22 → Bool
typed22 Via.Reset = true
typed22 (Via.Write r x) = byte r && byte x
typed22 (Via.Read r) = byte r
typed22 (Via.Pins pa pb control) = byte pa && byte pb && byte control
typed22 (Via.Run n) = clocks n
typed22 Via.Forecast = true

pub is_typed22 : (c : Call22) → typed22 c ≡ true → Typed22 c
is_typed22 Via.Reset e = tt
is_typed22 (Via.Write r x) e = two r x e
is_typed22 (Via.Read r) e = ltb-true r 256 e
is_typed22 (Via.Pins pa pb control) e = three pa pb control e
is_typed22 (Via.Run n) e = ltb-true n 4294967296 e
is_typed22 Via.Forecast e = tt

abbrev pub typed25 : Call25 → Bool
typed25 Tpi.Reset = true
typed25 (Tpi.Write r x) = byte r && byte x
typed25 (Tpi.Read r) = byte r
typed25 (Tpi.Pins pa pb pc) = byte pa && byte pb && byte pc
typed25 (Tpi.Run n) = clocks n

pub is_typed25 : (c : Call25) → typed25 c ≡ true → Typed25 c
is_typed25 Tpi.Reset e = tt
is_typed25 (Tpi.Write r x) e = two r x e
is_typed25 (Tpi.Read r) e = ltb-true r 256 e
is_typed25 (Tpi.Pins pa pb pc) e = three pa pb pc e
is_typed25 (Tpi.Run n) e = ltb-true n 4294967296 e

abbrev pub typed32 : Call32 → Bool
typed32 Riot.Reset = true
typed32 (Riot.Write a x) = byte a && byte x
typed32 (Riot.Read a) = byte a
typed32 (Riot.Pins pa pb) = byte pa && byte pb
typed32 (Riot.Run n) = clocks n
typed32 Riot.Forecast = true

pub is_typed32 : (c : Call32) → typed32 c ≡ true → Typed32 c
is_typed32 Riot.Reset e = tt
is_typed32 (Riot.Write a x) e = two a x e
is_typed32 (Riot.Read a) e = ltb-true a 256 e
is_typed32 (Riot.Pins pa pb) e = two pa pb e
is_typed32 (Riot.Run n) e = ltb-true n 4294967296 e
is_typed32 Riot.Forecast e = tt

abbrev pub typed45 : Call45 → Bool
typed45 Crtc.Reset = true
typed45 (Crtc.Write a x) = byte a && byte x
typed45 (Crtc.Read a) = byte a
typed45 (Crtc.Pins pen) = byte pen
typed45 (Crtc.Run n counted) = clocks n

pub is_typed45 : (c : Call45) → typed45 c ≡ true → Typed45 c
is_typed45 Crtc.Reset e = tt
is_typed45 (Crtc.Write a x) e = two a x e
is_typed45 (Crtc.Read a) e = ltb-true a 256 e
is_typed45 (Crtc.Pins pen) e = ltb-true pen 256 e
is_typed45 (Crtc.Run n counted) e = ltb-true n 4294967296 e
