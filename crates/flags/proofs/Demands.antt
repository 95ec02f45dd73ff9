-- The statements of specs/Demands.antt, proved.
use Rattle.std.specs.Prelude.{if◌then◌else◌}
use mathlib.Core.Path.{◌≡◌, sym, ap, ◌∙◌}
use mathlib.Core.Bool.{Bool, true, false, not, ◌&&◌, ◌||◌, or-false, and-true, and-false}
use Prim.Native.Nat.{ℕ, ◌%◌, ◌^◌, ◌<◌, zero-le}
use native.Mathlib.Omega.{arith}
use lib.Dec.{eqb, lit<}
use lib.Bits.{or_lt, and_mask}
use Rattle.clocks.specs.Bits.{bit, with_set, with_clear}
use Rattle.clocks.proofs.Tests.{picked}
use Rattle.clocks.proofs.Bits.{bit_and_lem, bit_not, bit_high, bit_set, bit_clear, bit_power, bit_with}
use Rattle.flags.specs.Flags.{set, edge1, edge2, raised, interrupt, shown, enabled}
use Rattle.flags.specs.declared.Side.TheVariants.{A, B}
use Rattle.flags.specs.Demands

-- ---- seven bits
set_seven : (m x : ℕ) → m < 128 → x < 128 → with_set m x < 128
unfolding with_set
set_seven m x h l = or_lt 7 x m l h

pub cleared_seven : Demands.ClearedSeven
unfolding with_clear
cleared_seven m x l = omega arith

edge_seven : (m : ℕ) (e : Bool) (x : ℕ) → m < 128 → x < 128 → set m e x < 128
edge_seven m e x h l = picked (λ (y : ℕ). y < 128) e (set_seven m x h l) l

pub raised_seven : Demands.RaisedSeven
unfolding raised
raised_seven pcr old new ifr l =
    edge_seven 1 (edge2 A pcr old new) _ (lit< tt)
    (edge_seven 2 (edge1 A pcr old new) _ (lit< tt)
    (edge_seven 8 (edge2 B pcr old new) _ (lit< tt)
    (edge_seven 16 (edge1 B pcr old new) ifr (lit< tt) l)))

pub enabled_seven : Demands.EnabledSeven
unfolding enabled
enabled_seven x ier l =
    picked (λ (y : ℕ). y < 128) (bit 7 x) (set_seven (x % 128) ier (omega arith) l) (cleared_seven (x % 128) ier l)

-- ---- bit by bit
bit_edge : (k : ℕ) (e : Bool) (j x : ℕ) → bit j (set (2 ^ k) e x) ≡ (bit j x || eqb j k && e)
bit_edge k true j x = bit_set j (2 ^ k) x ∙ ap (λ (q : Bool). bit j x || q) (bit_power k j ∙ sym (and-true (eqb j k)))
bit_edge k false j x = sym (ap (λ (q : Bool). bit j x || q) (and-false (eqb j k)) ∙ or-false (bit j x))

-- in the order of the lines, not of the edges
turned : (x a b c d : Bool) → ((((x || d) || c) || b) || a) ≡ (x || (a || (b || (c || d))))
turned x a b c d = grind arith

pub raised_by_bit : Demands.RaisedByBit
unfolding raised
raised_by_bit k pcr old new ifr =
    bit_edge 0 (edge2 A pcr old new) k _
    ∙ ap (λ (q : Bool). q || eqb k 0 && edge2 A pcr old new)
    (bit_edge 1 (edge1 A pcr old new) k _
    ∙ ap (λ (q : Bool). q || eqb k 1 && edge1 A pcr old new)
    (bit_edge 3 (edge2 B pcr old new) k _
    ∙ ap (λ (q : Bool). q || eqb k 3 && edge2 B pcr old new) (bit_edge 4 (edge1 B pcr old new) k ifr)))
    ∙ turned (bit k ifr) (eqb k 0 && edge2 A pcr old new) (eqb k 1 && edge1 A pcr old new) (eqb k 3 && edge2 B pcr old new) (eqb k 4 && edge1 B pcr old new)

pub shown_by_bit : Demands.ShownByBit
unfolding shown
shown_by_bit k ifr ier = bit_with 7 (interrupt ifr ier) k ifr

-- the low seven bits of a byte are its own
bit_low : (k x : ℕ) → k < 7 → bit k (x % 128) ≡ bit k x
bit_low k x h =
    ap (bit k) (sym (and_mask x 7))
    ∙ bit_and_lem k x 127
    ∙ ap (λ (q : Bool). bit k x && q) (bit_not 7 k 0 h (lit< tt) ∙ ap not (bit_high 0 k 0 (lit< tt) zero-le))
    ∙ and-true (bit k x)

pub enabled_by_bit : Demands.EnabledByBit
unfolding enabled
enabled_by_bit k x ier h = go (bit 7 x) ∙ ap (λ (q : Bool). if q then bit 7 x else bit k ier) (bit_low k x h)
  where
    named : Bool
    named = bit k (x % 128)

    chosen : (q b : Bool) → (q || b) ≡ (if b then true else q)
    chosen q b = grind arith

    left : (q b : Bool) → (q && not b) ≡ (if b then false else q)
    left q b = grind arith

    go : (b : Bool) → bit k (if b then with_set (x % 128) ier else with_clear (x % 128) ier) ≡ (if named then b else bit k ier)
    go true = bit_set k (x % 128) ier ∙ chosen (bit k ier) named
    go false = bit_clear k (x % 128) ier ∙ left (bit k ier) named
