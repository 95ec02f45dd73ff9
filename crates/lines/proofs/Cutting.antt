-- The loop that writes the places of a text's lines.
use mathlib.Core.Path.{◌≡◌, refl, ap, sym, ◌∙◌}
use mathlib.Core.List.{List, ◌∷◌, ◌++◌}
use Prim.Native.Nat.{ℕ, ◌+◌, ◌-◌, ◌<◌, ◌≤◌}
use native.Mathlib.Numerals.{add-one}
use native.Mathlib.Omega.{arith}
use lib.ListN.{length, take, drop, set, length-drop, length-set}
use lib.Seq.{take-nil, take-suc-set, drop-set-lt, append_snoc, length-take-le}
use borrow.Author.Tests.{le-leb, lt-leb}
use Rattle.clocks.proofs.Lists.{drop_later}
use Rattle.lines.specs.Lines.{lines_of, end_from}
use Rattle.lines.specs.Written.{Written}
use Rattle.lines.specs.Places.{placed, places_from, cut_of}
use Rattle.lines.proofs.Ends.{from_within, from_first}

-- the places that are written, and then those of the lines from `at` on, are all
pub record Cutting (s out₀ out : List ℕ) (at used : ℕ) : Type 0 where
  pub room : used ≤ length out
  pub sized : length out ≡ length out₀
  pub beyond : drop used out ≡ drop used out₀
  pub whole : cut_of s ≡ take used out ++ places_from at (lines_of (drop at s))

pub cutting_start : (s out : List ℕ) → length s ≤ 65535 → Cutting s out out 0 0
unfolding cut_of
cutting_start s out h = record { room = omega arith; sized = refl; beyond = refl; whole = rw (le-leb (length s) 65535 h) }

-- none of a text that is too long
pub cutting_none : (s out : List ℕ) → 65535 < length s → Written out out 0 (take (length out) (cut_of s))
unfolding cut_of
cutting_none s out h =
    rw (lt-leb (length s) 65535 h, take-nil (length out)) (record { size = refl; text = refl; rest = refl })

-- where a line begins and where it ends
pub in_order : (s : List ℕ) (at end : ℕ) → at < length s → end ≡ end_from s at → (at ≤ end) × (end ≤ length s)
in_order s at end h f = let w = from_within s at in (omega (arith, w.1 (omega arith)), omega (arith, w.0))

module _ {s out₀ out : List ℕ} {at used : ℕ} (g : Cutting s out₀ out at used) where
  pub cutting_line :
      (end p : ℕ) → at < length s → used < length out → end ≡ end_from s at → p ≡ placed at end
      → Cutting s out₀ (set out used p) (end + 1) (used + 1)
  cutting_line end p h k f e =
      let w = in_order s at end h f in
      let parts : lines_of (drop at s) ≡ take (end - at) (drop at s) ∷ lines_of (drop (end + 1) s) = rw f (from_first s at h) in
      let size : length (take (end - at) (drop at s)) ≡ end - at =
      length-take-le (end - at) (drop at s) (simp length-drop (omega arith)) in
      let last : at + (end - at) ≡ end = omega arith in
      let more = places_from (end + 1) (lines_of (drop (end + 1) s)) in
      let places : places_from at (lines_of (drop at s)) ≡ p ∷ more = rw (parts, size, last, e) in
      record {
        room = rw length-set (omega arith);
        sized = rw length-set g.sized;
        beyond = rw (drop-set-lt (used + 1) out used p (omega arith)) (drop_later out₀ out used 1 g.beyond);
        whole =
            g.whole ∙ ap (λ (r : List ℕ). take used out ++ r) places ∙ sym (append_snoc (take used out) p more)
            ∙ rw (add-one used, take-suc-set out used p k);
      }
