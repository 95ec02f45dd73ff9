-- The edges of all inputs at once, by masks.
use Rattle.std.specs.Prelude.{if◌then◌else◌}
use mathlib.Core.Path.{◌≡◌, refl, sym, ap, ◌∙◌}
use mathlib.Core.Bool.{Bool, true, false, not, ◌&&◌}
use Prim.Native.Nat.{ℕ, zero, suc, ◌*◌, ◌/◌, ◌%◌, ◌^◌, ◌<◌}
use native.Mathlib.Decide.{ℕ_discrete}
use native.Mathlib.Omega.{arith}
use native.Mathlib.Nat.{pow-suc}
use lib.Dec.{eqb}
use borrow.Author.Tests.{ne_eqb}
use Rattle.clocks.specs.Bits.{bit, gone, with_bit, merge}
use Rattle.clocks.proofs.Bits.{bit_mod, bit_here, bit_other, bit_clear, bit_merge, same_bits, with_lt}
use Rattle.ports.specs.Ports.{edge}
use Rattle.inputs.specs.Inputs.{rises, edge_at, edges_of}

pub edges_lt : (n cr old new : ℕ) → edges_of n cr old new < 2 ^ n
unfolding edges_of
edges_lt zero cr old new = omega arith
edges_lt (suc n) cr old new =
    with_lt (suc n) n (edge_at n cr old new) (edges_of n cr old new) (omega arith) (omega (arith, edges_lt n cr old new, pow-suc 2 n))

pub bit_edges : (n k cr old new : ℕ) → k < n → bit k (edges_of n cr old new) ≡ edge_at k cr old new
unfolding edges_of
bit_edges zero k cr old new h = absurd (omega arith)
bit_edges (suc n) k cr old new h = go (λ l. bit_edges n k cr old new l) (ℕ_discrete k n)
  where
    go :
        (k < n → bit k (edges_of n cr old new) ≡ edge_at k cr old new)
        → Dec (k ≡ n) → bit k (with_bit n (edge_at n cr old new) (edges_of n cr old new)) ≡ edge_at k cr old new
    go lower (yes e) = rw e (bit_here n (edge_at n cr old new) (edges_of n cr old new))
    go lower (no e) = bit_other n (edge_at n cr old new) k (edges_of n cr old new) e ∙ lower (omega arith)

-- the byte that has IE4 and IE3 where I4 and I3 are
abbrev pub rising : ℕ → ℕ
rising cr = cr / 4 % 4 * 8

bit_rising : (k cr : ℕ) → k < 5 → bit k (rising cr) ≡ rises cr k
unfolding bit
bit_rising zero cr h = ne_eqb (rising cr / 2 ^ 0 % 2) 1 (omega arith)
bit_rising (suc zero) cr h = ne_eqb (rising cr / 2 ^ 1 % 2) 1 (omega arith)
bit_rising (suc (suc zero)) cr h = ne_eqb (rising cr / 2 ^ 2 % 2) 1 (omega arith)
bit_rising (suc (suc (suc zero))) cr h =
    let e : rising cr / 2 ^ 3 % 2 ≡ cr / 2 ^ 2 % 2 = omega arith in
    ap (λ (d : ℕ). eqb d 1) e
bit_rising (suc (suc (suc (suc zero)))) cr h =
    let e : rising cr / 2 ^ 4 % 2 ≡ cr / 2 ^ 3 % 2 = omega arith in
    ap (λ (d : ℕ). eqb d 1) e
bit_rising (suc (suc (suc (suc (suc k))))) cr h = absurd (omega arith)

same_edge : (r a b : Bool) → (if r then b && not a else a && not b) ≡ edge r a b
same_edge true true true = refl
same_edge true true false = refl
same_edge true false true = refl
same_edge true false false = refl
same_edge false a b = refl

pub edges_are :
    (cr old new : ℕ) → old < 256 → new < 256 → merge (rising cr) (gone new old) (gone old new) % 32 ≡ edges_of 5 cr old new
edges_are cr old new h l =
    let m = merge (rising cr) (gone new old) (gone old new) in
    same_bits 5 (m % 32) (edges_of 5 cr old new) (omega arith) (edges_lt 5 cr old new)
    (λ k g.
    bit_mod 5 k m g
    ∙ bit_merge k (rising cr) (gone new old) (gone old new) (omega arith) (omega arith)
    ∙ rw (bit_rising k cr g, bit_clear k old new, bit_clear k new old) (same_edge (rises cr k) (bit k old) (bit k new))
    ∙ sym (bit_edges 5 k cr old new g))
