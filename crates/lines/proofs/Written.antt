-- A text at the front of a buffer, and beyond it what was there, is one buffer.
use mathlib.Core.Path.{◌≡◌, sym, ap, ◌∙◌}
use mathlib.Core.List.{List}
use Prim.Native.Nat.{ℕ}
use lib.ListN.{drop}
use Rattle.clocks.proofs.Lists.{same_halves}
use Rattle.lines.specs.Written.{Written}

pub written_one : {out x y t : List ℕ} {m k : ℕ} → Written out x m t → Written out y k t → (x ≡ y) × (m ≡ k)
written_one {out} {x} {y} {t} {m} {k} a b =
    let e : m ≡ k = a.size ∙ sym b.size in
    (same_halves m k x y e (a.text ∙ sym b.text) (a.rest ∙ ap (λ (n : ℕ). drop n out) e ∙ sym b.rest), e)
