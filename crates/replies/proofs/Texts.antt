-- How long a reply is, and texts put into a buffer one after the other.
use Rattle.std.specs.Prelude.{flat_map}
use mathlib.Core.Path.{◌≡◌, ◌∙◌}
use mathlib.Core.List.{List, [], ◌∷◌, ◌++◌, append_assoc}
use Prim.Native.Nat.{ℕ, suc, ◌+◌, ◌*◌, ◌/◌, ◌%◌, ◌<◌, ◌≤◌}
use native.Mathlib.Nat.{add_assoc}
use native.Mathlib.Omega.{arith}
use native.Mathlib.Numerals.{add-one, add-two}
use lib.ListN.{length, get_or, take, set, length-set, length-append}
use lib.Seq.{take-suc-set, drop-set-lt}
use Rattle.std.proofs.lemmas.List.{take_more}
use Rattle.std.proofs.lemmas.Grind.{flat_map-append}
use Rattle.clocks.proofs.Lists.{drop_later}
use Rattle.replies.specs.Hex.{digit_of, hex_of}
use Rattle.replies.specs.Replies.{told, Appended}
use Rattle.replies.specs.declared.Reply.{Reply}
use Rattle.replies.specs.declared.Reply.TheVariants.{Refused, RefusedAs, Done, Data, Read, Number}

-- the longest reply has six bytes, of two digits each
pub told_short : (r : Reply) → length (told r) ≤ 12
unfolding told hex_of
told_short (Refused r) = omega arith
told_short (RefusedAs n) = omega arith
told_short (Done l) = omega arith
told_short (Data l b) = omega arith
told_short (Read l b m) = omega arith
told_short (Number l n) = omega arith

pub two_each : (bs : List ℕ) → length (flat_map hex_of bs) ≡ 2 * length bs
unfolding hex_of
two_each [] = omega arith
two_each (b ∷ bs) = omega (arith, two_each bs)

pub then_put : {a b d : List ℕ} {at r q : ℕ} {x y : List ℕ} → Appended a b at r x → Appended b d r q y → Appended a d at q (x ++ y)
then_put {a} {b} {d} {at} {r} {q} {x} {y} p s =
    record {
      place = s.place ∙ rw (p.place, length-append, add_assoc);
      text = s.text ∙ rw (p.text, append_assoc);
      rest = s.rest ∙ rw s.place (drop_later a b r (length y) p.rest);
    }

-- two bytes stored in a buffer
two_put : (l : List ℕ) (at x y : ℕ) → at + 2 ≤ length l → Appended l (set (set l at x) (at + 1) y) at (at + 2) (x ∷ y ∷ [])
two_put l at x y h =
    let h₁ : at < length l = omega arith in
    let h₂ : suc at < length (set l at x) = simp length-set (omega arith) in
    record {
      place = omega arith;
      text = rw (add-two, add-one, take-suc-set (set l at x) (suc at) y h₂, take-suc-set l at x h₁, append_assoc);
      rest = drop-set-lt (at + 2) (set l at x) (at + 1) y (omega arith) ∙ drop-set-lt (at + 2) l at x (omega arith);
    }

-- the digits of a byte more
pub then_two :
    {a b : List ℕ} {at : ℕ} (bs : List ℕ) (i d x y : ℕ) → Appended a b at (at + 2 * i) (flat_map hex_of (take i bs))
    → i < length bs → at + 2 * i + 2 ≤ length b → x ≡ digit_of (get_or bs i d / 16) → y ≡ digit_of (get_or bs i d % 16)
    → Appended a (set (set b (at + 2 * i) x) (at + 2 * i + 1) y) at (at + 2 * (i + 1)) (flat_map hex_of (take (i + 1) bs))
unfolding hex_of
then_two {a} {b} {at} bs i d x y p h room e f =
    let more = then_put p (two_put b (at + 2 * i) x y room) in
    let next : at + 2 * (i + 1) ≡ at + 2 * i + 2 = omega arith in
    rw (next, take_more bs i d h, flat_map-append, ← e, ← f) more
