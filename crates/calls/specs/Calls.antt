-- Which operands are values of their types: bytes, and the 32 bits of a run. Code can pass no others.
use Rattle.std.specs.Prelude.{ℕ, ◌<◌}
use Rattle.calls.specs.declared.Call22.{Call22}
use Rattle.calls.specs.declared.Call22.TheVariants as Via
use Rattle.calls.specs.declared.Call25.{Call25}
use Rattle.calls.specs.declared.Call25.TheVariants as Tpi
use Rattle.calls.specs.declared.Call32.{Call32}
use Rattle.calls.specs.declared.Call32.TheVariants as Riot
use Rattle.calls.specs.declared.Call45.{Call45}
use Rattle.calls.specs.declared.Call45.TheVariants as Crtc

abbrev pub Byte : ℕ → Type 0
Byte x = x < 256

abbrev pub Clocks : ℕ → Type 0
Clocks n = n < 4294967296

abbrev pub Typed22 : Call22 → Type 0
Typed22 Via.Reset = Unit {0}
Typed22 (Via.Write r x) = Byte r × Byte x
Typed22 (Via.Read r) = Byte r
Typed22 (Via.Pins pa pb control) = Byte pa × Byte pb × Byte control
Typed22 (Via.Run n) = Clocks n
Typed22 Via.Forecast = Unit {0}

abbrev pub Typed25 : Call25 → Type 0
Typed25 Tpi.Reset = Unit {0}
Typed25 (Tpi.Write r x) = Byte r × Byte x
Typed25 (Tpi.Read r) = Byte r
Typed25 (Tpi.Pins pa pb pc) = Byte pa × Byte pb × Byte pc
Typed25 (Tpi.Run n) = Clocks n

abbrev pub Typed32 : Call32 → Type 0
Typed32 Riot.Reset = Unit {0}
Typed32 (Riot.Write a x) = Byte a × Byte x
Typed32 (Riot.Read a) = Byte a
Typed32 (Riot.Pins pa pb) = Byte pa × Byte pb
Typed32 (Riot.Run n) = Clocks n
Typed32 Riot.Forecast = Unit {0}

abbrev pub Typed45 : Call45 → Type 0
Typed45 Crtc.Reset = Unit {0}
Typed45 (Crtc.Write a x) = Byte a × Byte x
Typed45 (Crtc.Read a) = Byte a
Typed45 (Crtc.Pins pen) = Byte pen
Typed45 (Crtc.Run n counted) = Clocks n
