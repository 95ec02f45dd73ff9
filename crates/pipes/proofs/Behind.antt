-- A read into a buffer, behind the bytes that stand at its front.
use mathlib.Core.Path.{◌≡◌, ap, ◌∙◌}
use mathlib.Core.List.{List}
use Prim.Native.Nat.{ℕ, ◌≤◌}
use lib.ListN.{length, take, drop}
use lib.Seq.{take_at, drop_at, length-take-le}
use borrow.Rule.Slice.PartMut.{put_mid}
use Rattle.std.proofs.lemmas.List.{take-append-le}

-- it leaves those
pub front : (kept n : ℕ) (xs ys : List ℕ) → kept ≤ length xs → take kept (put_mid kept n xs ys) ≡ take kept xs
front kept n xs ys h = take_at (take kept xs) _ kept (length-take-le kept xs h)

-- what it read stands behind them
pub behind : (kept n k : ℕ) (xs ys : List ℕ) → kept ≤ length xs → k ≤ length ys → take k (drop kept (put_mid kept n xs ys)) ≡ take k ys
behind kept n k xs ys h g = ap (take k) (drop_at (take kept xs) _ kept (length-take-le kept xs h)) ∙ take-append-le k ys _ g
