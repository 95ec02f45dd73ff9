-- What the test of a well-formed record says, and the test from what it says.
use mathlib.Core.Path.{◌≡◌}
use mathlib.Core.Bool.{true}
use Prim.Native.Nat.{◌<◌, ◌≤◌}
use native.Mathlib.Omega.{arith}
use borrow.Author.Tests.{lt-ltb, le-leb}
use Rattle.flags.specs.Flags.{allowed_pcr}
use Rattle.timers.proofs.Firsts.{top_fits}
use Rattle.via6522.specs.Record.{allowed_acr, well_formed}
use Rattle.via6522.specs.declared.Via.{Via}

pub record Formed (v : Via) : Type 0 where
  pub flags : v.ifr < 128
  pub enables : v.ier < 128
  pub modes : allowed_acr v.acr ≡ true
  pub codes : allowed_pcr v.pcr ≡ true
  pub top : v.t1.mark ≡ true → v.t1.counter ≡ 65535
  pub levels : v.control < 16
  pub few : v.sr.left ≤ 8

pub formed : (v : Via) → well_formed v ≡ true → Formed v
formed v w =
    record {
      flags = grind arith;
      enables = grind arith;
      modes = grind arith;
      codes = grind arith;
      top = λ e. grind arith;
      levels = grind arith;
      few = grind arith;
    }

pub well : (v : Via) → Formed v → well_formed v ≡ true
well v h =
    rw (
      lt-ltb v.ifr 128 h.flags,
      lt-ltb v.ier 128 h.enables,
      h.modes,
      h.codes,
      top_fits v.t1.mark v.t1.counter h.top,
      lt-ltb v.control 16 h.levels,
      le-leb v.sr.left 8 h.few,
    )
