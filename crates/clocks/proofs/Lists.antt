-- Parts of lists: what lies before a place and from it on.
use mathlib.Core.Path.{◌≡◌, ap, ap₂, sym, ◌∙◌}
use mathlib.Core.List.{List, [], ◌∷◌, ◌++◌}
use Prim.Native.Nat.{ℕ, zero, suc, ◌+◌, ◌-◌, min}
use native.Mathlib.Nat.{sub-zero, zero-sub, suc-sub-suc, zero-min, min-zero, suc-min-suc}
use lib.ListN.{take, drop, take-append-drop}
use lib.Seq.{take-nil, drop-drop}

-- two lists that agree before a place and from it on are one
pub same_halves : (n m : ℕ) (x y : List ℕ) → n ≡ m → take n x ≡ take m y → drop n x ≡ drop m y → x ≡ y
same_halves n m x y e t d =
    sym (take-append-drop n x) ∙ ap₂ (λ (a b : List ℕ). a ++ b) t d ∙ take-append-drop m y

-- what is untouched from a place on is untouched from each later one
pub drop_later : (a b : List ℕ) (r n : ℕ) → drop r b ≡ drop r a → drop (r + n) b ≡ drop (r + n) a
drop_later a b r n e = sym (drop-drop n r b) ∙ ap (drop n) e ∙ drop-drop n r a

-- parts of parts
pub drop_take : (a n : ℕ) (l : List ℕ) → drop a (take n l) ≡ take (n - a) (drop a l)
drop_take zero n l = rw sub-zero
drop_take (suc a) zero l = rw zero-sub
drop_take (suc a) (suc n) [] = sym (take-nil (suc n - suc a))
drop_take (suc a) (suc n) (x ∷ l) = drop_take a n l ∙ rw suc-sub-suc

pub take_min : (a b : ℕ) (l : List ℕ) → take a (take b l) ≡ take (min a b) l
take_min zero b l = rw zero-min
take_min (suc a) zero l = rw min-zero
take_min (suc a) (suc b) [] = sym (take-nil (min (suc a) (suc b)))
take_min (suc a) (suc b) (x ∷ l) = ap {B = List ℕ} (λ r. x ∷ r) (take_min a b l) ∙ rw suc-min-suc
