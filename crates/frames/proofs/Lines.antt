-- The frame of a line, by its length and its first two bytes.
use Rattle.std.proofs.Common.{◌≡◌, ℕ, zero, suc, ◌+◌, ◌-◌, ◌*◌, ◌<◌, ◌≤◌, Bool, true, false, ◌&&◌, eqb, leb, List, [], ◌∷◌, length, take, drop, ◌⊎◌, inl, inr, sym, refl, ap, ◌∙◌, arith, add-one, drop_of_length-le, drop-cons, get_or, ne_eqb, le-leb, leb-true, if◌then◌else◌}
use Rattle.std.specs.Prelude.{Option, None, Some}
use mathlib.Core.Bool.{and-false}
use lib.Seq.{take-length}
use native.Mathlib.Decide.{dec_le, dec_lt}
use native.Mathlib.Numerals.{add-two}
use borrow.Author.Tests.{lt-leb}
use Rattle.clocks.proofs.Tests.{both}
use Rattle.digits.specs.Hex.{pair_of, word_of, joined}
use Rattle.frames.specs.Frames.{before, bytes_of, Row, table, found, called, called_with, asked, checked, frame_of}
use Rattle.frames.specs.declared.Frame.{Frame}

-- ---- operands

-- the m bytes whose digits are from k on
abbrev pub pairs_of : List ℕ → ℕ → ℕ → Option (List ℕ)
pairs_of l k zero = Some []
pairs_of l k (suc m) = before (pair_of (get_or l k 0) (get_or l (k + 1) 0)) (pairs_of l (k + 2) m)

pairs_are : (l : List ℕ) (k m : ℕ) → length l ≡ k + 2 * m → bytes_of (drop k l) ≡ pairs_of l k m
pairs_are l k zero h = ap bytes_of (drop_of_length-le l {i = k} (omega arith))
pairs_are l k (suc m) h =
    let h₁ : k < length l = omega arith in
    let h₂ : suc k < length l = omega arith in
    let e : bytes_of (drop (k + 2) l) ≡ pairs_of l (k + 2) m = pairs_are l (k + 2) m (omega arith) in
    rw (← e, add-one, add-two, drop-cons l k 0 h₁, drop-cons l (suc k) 0 h₂)

pub asked_is : (w : ℕ) (l : List ℕ) (m : ℕ) → length l ≡ 2 * m → called_with w (pairs_of l 0 m) ≡ asked w l
unfolding asked
asked_is w l m h = ap (called_with w) (sym (pairs_are l 0 m (omega arith)))

pub no_operand : (w : ℕ) (l : List ℕ) → length l ≡ 0 → asked w l ≡ called w []
no_operand w l h = sym (asked_is w l 0 h)

pub one_operand : (w : ℕ) (l : List ℕ) → length l ≡ 2 → asked w l ≡ called_with w (before (pair_of (get_or l 0 0) (get_or l 1 0)) (Some []))
one_operand w l h = sym (asked_is w l 1 h)

pub two_operands :
    (w : ℕ) (l : List ℕ) → length l ≡ 4
    → asked w l ≡ called_with w (before (pair_of (get_or l 0 0) (get_or l 1 0)) (before (pair_of (get_or l 2 0) (get_or l 3 0)) (Some [])))
two_operands w l h = sym (asked_is w l 2 h)

pub three_operands :
    (w : ℕ) (l : List ℕ) → length l ≡ 6
    → asked w l ≡ called_with w (before (pair_of (get_or l 0 0) (get_or l 1 0)) (before (pair_of (get_or l 2 0) (get_or l 3 0)) (before (pair_of (get_or l 4 0) (get_or l 5 0)) (Some []))))
three_operands w l h = sym (asked_is w l 3 h)

pub four_operands :
    (w : ℕ) (l : List ℕ) → length l ≡ 8
    → asked w l ≡ called_with w (before (pair_of (get_or l 0 0) (get_or l 1 0)) (before (pair_of (get_or l 2 0) (get_or l 3 0)) (before (pair_of (get_or l 4 0) (get_or l 5 0)) (before (pair_of (get_or l 6 0) (get_or l 7 0)) (Some [])))))
four_operands w l h = sym (asked_is w l 4 h)

-- the words of the rows with so many operands
abbrev pub words : ℕ → List Row → List ℕ
words n [] = []
words n (r ∷ t) = if eqb n r.operands then r.word ∷ words n t else words n t

-- w is none of some words
abbrev pub Misses : List ℕ → ℕ → Type 0
Misses [] w = Unit {0}
Misses (x ∷ xs) w = (w ≡ x → ⊥) × Misses xs w

-- a word that no row with so many operands has is no call
pub found_none : (t : List Row) (w : ℕ) (s : List ℕ) → Misses (words (length s) t) w → found t w s ≡ None
found_none [] w s m = refl
found_none (r ∷ t) w s m = go (λ q. found_none t w s q) (eqb (length s) r.operands) refl m
  where
    go :
        (Misses (words (length s) t) w → found t w s ≡ None)
        → (b : Bool) → eqb (length s) r.operands ≡ b → Misses (if b then r.word ∷ words (length s) t else words (length s) t) w
        → found (r ∷ t) w s ≡ None
    go others true e q = rw (ne_eqb w r.word q.0) (others q.1)
    go others false e q = rw (e, and-false (eqb w r.word)) (others q)

-- no word is above 65535, and no operation has more than four operands
bounded : List Row → Bool
bounded [] = true
bounded (r ∷ t) = leb r.word 65535 && leb r.operands 4 && bounded t

found_beyond : (t : List Row) (w : ℕ) (s : List ℕ) → bounded t ≡ true → (65535 < w) ⊎ (4 < length s) → found t w s ≡ None
unfolding bounded
found_beyond [] w s b h = refl
found_beyond (r ∷ t) w s b h =
    let c = both (leb r.word 65535 && leb r.operands 4) (bounded t) b in
    let d = both (leb r.word 65535) (leb r.operands 4) c.0 in
    rw (row_beyond (leb-true r.word 65535 d.0) (leb-true r.operands 4 d.1) h) (found_beyond t w s c.1 h)
  where
    row_beyond : r.word ≤ 65535 → r.operands ≤ 4 → (65535 < w) ⊎ (4 < length s) → (eqb w r.word && eqb (length s) r.operands) ≡ false
    row_beyond p q (inl h) = rw (ne_eqb w r.word (λ e. omega (arith, e)))
    row_beyond p q (inr h) = rw (ne_eqb (length s) r.operands (λ e. omega (arith, e))) (and-false (eqb w r.word))

-- so neither of these is a call
above : (w : ℕ) (s : List ℕ) → 65535 < w → called w s ≡ None
unfolding called bounded
above w s h = found_beyond table w s refl (inl h)

longer : (w : ℕ) (s : List ℕ) → 4 < length s → called w s ≡ None
unfolding called bounded
longer w s h = found_beyond table w s refl (inr h)

-- the bytes of a line are half as many as its characters
half : List ℕ → Option (List ℕ) → Type 0
half l None = Unit {0}
half l (Some s) = length l ≡ 2 * length s

halves : (l : List ℕ) → half l (bytes_of l)
unfolding half
halves [] = refl
halves (h ∷ []) = tt
halves (h ∷ l ∷ s) = go (pair_of h l) (bytes_of s) (halves s)
  where
    go : (b : Option ℕ) (o : Option (List ℕ)) → half s o → half (h ∷ l ∷ s) (before b o)
    go None o i = tt
    go (Some b) None i = tt
    go (Some b) (Some s) i = omega arith

-- what has other numbers of operands is no call
pub asked_other : (w : ℕ) (l : List ℕ) → ((k : ℕ) → k ≤ 4 → length l ≡ 2 * k → ⊥) → asked w l ≡ None
unfolding asked half
asked_other w l n = go (bytes_of l) (halves l)
  where
    go : (o : Option (List ℕ)) → half l o → called_with w o ≡ None
    go None h = refl
    go (Some s) h = longer w s (more (dec_lt 4 (length s)))
      where
        more : Dec (4 < length s) → 4 < length s
        more (yes p) = p
        more (no p) = absurd (n (length s) (omega arith) h)

pub other_length :
    (w : ℕ) (l : List ℕ) → (length l ≡ 0 → ⊥) → (length l ≡ 2 → ⊥) → (length l ≡ 4 → ⊥) → (length l ≡ 6 → ⊥) → (length l ≡ 8 → ⊥) → asked w l ≡ None
other_length w l a b c d e = asked_other w l go
  where
    go : (k : ℕ) → k ≤ 4 → length l ≡ 2 * k → ⊥
    go zero u = a
    go (suc zero) u = b
    go (suc (suc zero)) u = c
    go (suc (suc (suc zero))) u = d
    go (suc (suc (suc (suc zero)))) u = e
    go (suc (suc (suc (suc (suc k))))) u = absurd (omega arith)

-- what `asked` is at each number of operands
pub ruleset by_operands = (no_operand, one_operand, two_operands, three_operands, four_operands, other_length)

-- ---- a line of a chip's byte, an operation's, and more

abbrev pub asks : Option ℕ → List ℕ → Option Frame
asks None l = None
asks (Some w) l = asked w l

pub long_unknown : (l : List ℕ) → 32 < length l → frame_of l ≡ None
unfolding frame_of
long_unknown l h = rw (lt-leb (length l) 32 h)

pub frame_is : (a b c d : ℕ) (s : List ℕ) → frame_of (a ∷ b ∷ c ∷ d ∷ s) ≡ asks (word_of a b c d) s
unfolding word_of frame_of checked asked
frame_is a b c d s = go (dec_le (length s) 28)
  where
    split : (x y : Option ℕ) (o : Option (List ℕ)) → o ≡ bytes_of s → checked (before x (before y o)) ≡ asks (joined 256 x y) s
    split None y o e = refl
    split (Some x) None o e = refl
    split (Some x) (Some y) None e = ap (called_with (x * 256 + y)) e
    split (Some x) (Some y) (Some s) e = ap (called_with (x * 256 + y)) e

    none : (o : Option ℕ) → 28 < length s → None ≡ asks o s
    none None h = refl
    none (Some w) h = sym (asked_other w s (λ k u p. omega arith))

    go : Dec (length s ≤ 28) → frame_of (a ∷ b ∷ c ∷ d ∷ s) ≡ asks (joined 256 (pair_of a b) (pair_of c d)) s
    go (yes h) = rw (le-leb (length (a ∷ b ∷ c ∷ d ∷ s)) 32 (omega arith)) (split (pair_of a b) (pair_of c d) (bytes_of s) refl)
    go (no h) = long_unknown (a ∷ b ∷ c ∷ d ∷ s) (omega arith) ∙ none (joined 256 (pair_of a b) (pair_of c d)) (omega arith)

pub word_first :
    (l : List ℕ) → 4 ≤ length l → frame_of l ≡ asks (word_of (get_or l 0 0) (get_or l 1 0) (get_or l 2 0) (get_or l 3 0)) (take (length l - 4) (drop 4 l))
word_first [] h = absurd (omega arith)
word_first (a ∷ []) h = absurd (omega arith)
word_first (a ∷ b ∷ []) h = absurd (omega arith)
word_first (a ∷ b ∷ c ∷ []) h = absurd (omega arith)
word_first (a ∷ b ∷ c ∷ d ∷ l) h =
    let n : suc (suc (suc (suc (length l)))) - 4 ≡ length l = omega arith in
    rw (n, take-length l) (frame_is a b c d l)

pub short_unknown : (l : List ℕ) → length l < 4 → frame_of l ≡ None
unfolding frame_of checked
short_unknown [] h = refl
short_unknown (a ∷ []) h = refl
short_unknown (a ∷ b ∷ []) h = go (pair_of a b)
  where
    go : (x : Option ℕ) → checked (before x (Some [])) ≡ None
    go None = refl
    go (Some x) = refl
short_unknown (a ∷ b ∷ c ∷ []) h = go (pair_of a b)
  where
    go : (x : Option ℕ) → checked (before x None) ≡ None
    go None = refl
    go (Some x) = refl
short_unknown (a ∷ b ∷ c ∷ d ∷ l) h = absurd (omega arith)
