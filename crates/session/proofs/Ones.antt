-- A promise about a buffer allows one result.
use mathlib.Core.Path.{◌≡◌, sym, ◌∙◌}
use Prim.Native.Nat.{◌*◌, ◌≤◌}
use native.Mathlib.Decide.{dec_le}
use native.Mathlib.Omega.{arith}
use lib.ListN.{length}
use Rattle.lines.proofs.Written.{written_one}
use Rattle.session.specs.Demands

pub feeds_one : Demands.FeedsOne
feeds_one b ls out x y r t f g =
    let w = written_one f.out g.out in
    (w.0, λ i. record { bench = (f.bench ∙ sym g.bench) i; used = (f.used ∙ sym g.used) i; made = w.1 i })

pub finishes_one : Demands.FinishesOne
finishes_one b s out x y m k f g = go (dec_le 13 (length out))
  where
    go : Dec (13 ≤ length out) → (x ≡ y) × (m ≡ k)
    go (yes h) = written_one (f.answered h) (g.answered h)
    go (no h) =
        let p = f.full (omega arith) in
        let q = g.full (omega arith) in
        (p.0 ∙ sym q.0, p.1 ∙ sym q.1)

pub plays_one : Demands.PlaysOne
plays_one b ls out x y r t f g = go (dec_le (13 * length ls) (length out))
  where
    go : Dec (13 * length ls ≤ length out) → (x ≡ y) × (r ≡ t)
    go (yes h) =
        let p = f.fits h in
        let q = g.fits h in
        let w = written_one p.1 q.1 in
        (w.0, λ i. record { bench = (p.0 ∙ sym q.0) i; made = w.1 i })
    go (no h) =
        let p = f.short (omega arith) in
        let q = g.short (omega arith) in
        (p.2 ∙ sym q.2, λ i. record { bench = (p.0 ∙ sym q.0) i; made = (p.1 ∙ sym q.1) i })
