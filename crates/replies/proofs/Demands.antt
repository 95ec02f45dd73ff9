-- The statements of specs/Demands.antt, proved.
use mathlib.Core.Path.{◌≡◌, refl, sym, ap, ◌∙◌}
use Prim.Native.Nat.{ℕ, ◌+◌, ◌≤◌}
use native.Mathlib.Decide.{dec_le}
use native.Mathlib.Omega.{arith}
use lib.ListN.{length, drop, length-append}
use Rattle.replies.specs.Replies.{told, render, refusal_line}
use Rattle.replies.specs.Demands
use Rattle.clocks.proofs.Lists.{same_halves}
use Rattle.replies.proofs.Texts.{told_short}

pub replies_fit : Demands.RepliesFit
unfolding render
replies_fit r = simp length-append (omega (arith, told_short r))

pub number_says : Demands.NumberSays
unfolding told render refusal_line
number_says = (λ r. refl, λ n. refl)

pub put_one : Demands.PutOne
put_one before x y at r q t p s = go (dec_le (at + 13) (length before))
  where
    go : Dec (at + 13 ≤ length before) → (x ≡ y) × (r ≡ q)
    go (yes h) =
        let a = p.fits h in
        let b = s.fits h in
        let e : r ≡ q = a.place ∙ sym b.place in
        (same_halves r q x y e (a.text ∙ sym b.text) (a.rest ∙ ap (λ (n : ℕ). drop n before) e ∙ sym b.rest), e)
    go (no h) =
        let a = p.full (omega arith) in
        let b = s.full (omega arith) in
        (a.0 ∙ sym b.0, a.1 ∙ sym b.1)
