-- Places of lines.
use mathlib.Core.Path.{◌≡◌, refl, ap, ap₂, sym, ◌∙◌}
use mathlib.Core.List.{List, [], ◌∷◌, ◌++◌, append_assoc}
use Prim.Native.Nat.{ℕ, zero, suc, ◌+◌, ◌-◌, ◌/◌, ◌%◌, ◌<◌, ◌≤◌, min}
use native.Mathlib.Decide.{dec_le}
use native.Mathlib.Omega.{arith}
use lib.Arith.{digits_div, digits_mod}
use lib.Dec.{leb}
use lib.ListN.{length, take, drop, length-append, length-drop, drop_of_length-le}
use lib.Seq.{take_all, take-nil, take-length, take-append_seam, drop-append-add, drop-drop}
use borrow.Author.Tests.{le-leb}
use Rattle.clocks.proofs.Tests.{picked}
use Rattle.lines.specs.Lines.{ended, open_line, last_line, lines_of, file_of}
use Rattle.lines.specs.Places.{placed, line_at, lines_at, places_from, cut_of}
use Rattle.lines.proofs.Lines.{whole}

-- ---- the line at a place

-- a part of a list from `from` up to `to` is the part between the two as they are within the list
clipped :
    (s : List ℕ) (from to a e : ℕ) → e ≡ min to (length s) → a ≡ min from (min to (length s))
    → take (e - a) (drop a s) ≡ take (to - from) (drop from s)
clipped s from to a e p q = go (dec_le from to) (dec_le to (length s)) (dec_le from (length s))
  where
    go :
        Dec (from ≤ to) → Dec (to ≤ length s) → Dec (from ≤ length s)
        → take (e - a) (drop a s) ≡ take (to - from) (drop from s)
    go (no h) k l =
        let m : e - a ≡ 0 = omega arith in
        let n : to - from ≡ 0 = omega arith in
        rw (m, n)
    go (yes h) (yes k) l =
        let m : e ≡ to = omega arith in
        let n : a ≡ from = omega arith in
        rw (m, n)
    go (yes h) (no k) (yes l) =
        let n : a ≡ from = omega arith in
        rw n
        (take_all (e - from) (drop from s) (simp length-drop (omega arith))
        ∙ sym (take_all (to - from) (drop from s) (simp length-drop (omega arith))))
    go (yes h) (no k) (no l) =
        let m : e - a ≡ 0 = omega arith in
        rw (m, drop_of_length-le s {i = from} (omega arith)) (sym (take-nil (to - from)))

-- what a caller that lends the line at a place knows of its bounds, and of the part between them
module _ (s : List ℕ) (p e a : ℕ) (end : e ≡ min (p / 65536) (length s)) (start : a ≡ min (p % 65536) (min (p / 65536) (length s))) where
  pub start_end : a ≤ e
  start_end = omega arith

  pub end_length : e ≤ length s
  end_length = omega arith

  pub part_line : take (e - a) (drop a s) ≡ line_at s p
  unfolding line_at
  part_line = clipped s (p % 65536) (p / 65536) a e end start

-- ---- lines at places

pub lines_length : (s ps : List ℕ) → length (lines_at s ps) ≡ length ps
lines_length s [] = refl
lines_length s (p ∷ ps) = ap suc (lines_length s ps)

pub lines_take : (s : List ℕ) (n : ℕ) (ps : List ℕ) → lines_at s (take n ps) ≡ take n (lines_at s ps)
lines_take s zero ps = refl
lines_take s (suc n) [] = refl
lines_take s (suc n) (p ∷ ps) = ap {B = List (List ℕ)} (λ r. line_at s p ∷ r) (lines_take s n ps)

pub lines_drop : (s : List ℕ) (n : ℕ) (ps : List ℕ) → lines_at s (drop n ps) ≡ drop n (lines_at s ps)
lines_drop s zero ps = refl
lines_drop s (suc n) [] = refl
lines_drop s (suc n) (p ∷ ps) = lines_drop s n ps

pub lines_append : (s ps qs : List ℕ) → lines_at s (ps ++ qs) ≡ lines_at s ps ++ lines_at s qs
lines_append s [] qs = refl
lines_append s (p ∷ ps) qs = ap {B = List (List ℕ)} (λ r. line_at s p ∷ r) (lines_append s ps qs)

-- ---- the places of a text's lines

line_placed : (s : List ℕ) (a n : ℕ) → a < length s → length s ≤ 65535 → line_at s (placed a (a + n)) ≡ take n (drop a s)
unfolding line_at
line_placed s a n h k =
    let u : a < 65536 = omega arith in
    let d : a + n - a ≡ n = omega arith in
    rw (digits_div (a + n) u, digits_mod (a + n) u, d)

-- a text that is some lines, each with its LF, and an open one: at their places are these lines
placed_back :
    (s : List ℕ) (ls : List (List ℕ)) (o : List ℕ) (a : ℕ) → length s ≤ 65535 → drop a s ≡ file_of ls ++ o
    → lines_at s (places_from a (ls ++ last_line o)) ≡ ls ++ last_line o
placed_back s [] [] a k e = refl
placed_back s [] (x ∷ o) a k e =
    let h : a < length s = omega (arith, simp length-drop at (ap length e)) in
    ap (λ (l : List ℕ). l ∷ []) (line_placed s a (length (x ∷ o)) h k ∙ rw e (take-length (x ∷ o)))
placed_back s (l ∷ ls) o a k e =
    let f : drop a s ≡ l ++ 10 ∷ (file_of ls ++ o) = e ∙ append_assoc l (10 ∷ file_of ls) o in
    let h : a < length s = omega (arith, simp (length-drop, length-append) at (ap length f)) in
    let n : a + length l + 1 ≡ a + (length l + 1) = omega arith in
    let d : drop (a + length l + 1) s ≡ file_of ls ++ o =
    rw (n, ← drop-drop (length l + 1) a s, f) (drop-append-add l (10 ∷ (file_of ls ++ o)) 1) in
    ap₂ {C = List (List ℕ)} (λ (x : List ℕ) (r : List (List ℕ)). x ∷ r)
    (line_placed s a (length l) h k ∙ rw f (take-append_seam l (10 ∷ (file_of ls ++ o))))
    (placed_back s ls o (a + length l + 1) k d)

pub cut_lines : (s : List ℕ) → length s ≤ 65535 → lines_at s (cut_of s) ≡ lines_of s
unfolding cut_of
cut_lines s h = rw (le-leb (length s) 65535 h) (placed_back s (ended [] s) (open_line [] s) 0 h (sym (whole [] s)))

places_length : (a : ℕ) (ls : List (List ℕ)) → length (places_from a ls) ≡ length ls
places_length a [] = refl
places_length a (l ∷ ls) = ap suc (places_length (a + length l + 1) ls)

-- no line is without a byte, its LF counted
lines_few : (ls : List (List ℕ)) (o : List ℕ) → length (ls ++ last_line o) ≤ length (file_of ls ++ o)
lines_few [] [] = omega arith
lines_few [] (x ∷ o) = omega arith
lines_few (l ∷ ls) o =
    rw (append_assoc l (10 ∷ file_of ls) o, length-append l (10 ∷ (file_of ls ++ o))) (omega (arith, lines_few ls o))

pub cut_count : (s : List ℕ) → length (cut_of s) ≤ length s
unfolding cut_of
cut_count s =
    picked (λ (ps : List ℕ). length ps ≤ length s) (leb (length s) 65535)
    (rw places_length (rw (whole [] s) at (lines_few (ended [] s) (open_line [] s)))) (omega arith)
