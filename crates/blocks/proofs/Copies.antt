-- What was noted last comes again, copied.
use mathlib.Core.Path.{◌≡◌, refl, ap, ap₂, sym, ◌∙◌}
use mathlib.Core.List.{List, [], ◌++◌}
use Prim.Native.Nat.{ℕ, ◌+◌, ◌-◌, ◌*◌, ◌/◌, ◌<◌, ◌≤◌, min}
use native.Mathlib.Decide.{dec_le, dec_lt}
use native.Mathlib.Nat.{le_trans, mul-le-mul_right, div-mul-le_self}
use native.Mathlib.Omega.{arith}
use lib.ListN.{length, take, drop, length-drop, take-append-drop, length-append}
use lib.Seq.{take_at, drop_at}
use lib.Seq.{take_all, length-take-le}
use Rattle.std.specs.List.{copy_within}
use Rattle.clocks.proofs.Lists.{same_halves, take_min}
use Rattle.blocks.specs.Blocks.{times}
use Rattle.blocks.specs.Windows.{Window, window, notes}
use Rattle.blocks.proofs.Windows.{none, notes_append, full, stays, Filled, fills, Came, came, leaps, lasts, never, once_more, more_often, length_times, times_none}

-- the last `size` of the first `used`
abbrev pub last : ℕ → ℕ → List ℕ → List ℕ
last size used l = take size (drop (used - size) l)

length_last : (size used : ℕ) (l : List ℕ) → size ≤ used → used ≤ length l → length (last size used l) ≡ size
length_last size used l h g = length-take-le size (drop (used - size) l) (omega (arith, length-drop (used - size) l))

-- as many of them as there is room for are copied
pub copied_is :
    (out now : List ℕ) (used size fits : ℕ) → size ≤ used → used ≤ length out → fits ≡ min size (length out - used)
    → now ≡ copy_within out (used - size) (used - size + fits) used
    → window 0 (used + fits) now ≡ notes (window 0 used out) (last size used out)
copied_is out now used size fits h g e f = kept ∙ more (dec_le (used + size) (length out))
  where
    w : Window
    w = window 0 used out

    o : List ℕ
    o = last size used out

    v : Window
    v = notes w (take fits o)

    n : length o ≡ size
    n = length_last size used out h g

    t : length (take fits o) ≡ fits
    t = length-take-le fits o (omega (arith, n, e))

    filled : Filled used out (take fits o) v
    filled = fills used out (take fits o) (omega (arith, t, e))

    shorter : take fits o ≡ take fits (drop (used - size) out)
    shorter = let z : min fits size ≡ fits = omega (arith, e) in take_min fits size (drop (used - size) out) ∙ rw z

    now_is : now ≡ (take used out ++ take fits o) ++ drop (used + fits) out
    now_is =
        let z : used - size + fits - (used - size) ≡ fits = omega arith in
        f ∙ rw (z, ← shorter)

    head : length (take used out ++ take fits o) ≡ used + fits
    head = rw (length-append (take used out) (take fits o)) (omega (arith, t, length-take-le used out g))

    front : take (used + fits) v.seen ≡ take (used + fits) now
    front = rw t at filled.front ∙ sym (ap (take (used + fits)) now_is ∙ take_at _ _ (used + fits) head)

    back : drop (used + fits) v.seen ≡ drop (used + fits) now
    back = rw t at filled.beyond ∙ sym (ap (drop (used + fits)) now_is ∙ drop_at _ _ (used + fits) head)

    kept : window 0 (used + fits) now ≡ v
    kept =
        ap₂ (λ (m : ℕ) (l : List ℕ). window 0 m l) (sym (rw t at filled.used)) (sym (same_halves (used + fits) (used + fits) v.seen now refl front back))
        ∙ ap (λ (k : ℕ). window k v.used v.seen) (sym filled.skip)

    more : Dec (used + size ≤ length out) → v ≡ notes w o
    more (yes q) = ap (notes w) (take_all fits o (omega (arith, n, e)))
    more (no q) =
        sym (ap (notes w) (sym (take-append-drop fits o)) ∙ notes_append w (take fits o) (drop fits o)
        ∙ stays v (drop fits o) filled.skip (omega (arith, filled.size, filled.used, t, e)))

-- they came i times again, and where there is still room they are the last
pub record Repeating (out₀ : List ℕ) (used size : ℕ) (out : List ℕ) (to i : ℕ) : Type 0 where
  pub sized : length out ≡ length out₀
  pub low : size ≤ to
  pub high : to ≤ length out
  pub noted : window 0 to out ≡ notes (window 0 used out₀) (times i (last size used out₀))
  pub same : to < length out → last size to out ≡ last size used out₀

pub repeating_start : (out : List ℕ) (used size : ℕ) → size ≤ used → used ≤ length out → Repeating out used size out used 0
repeating_start out used size h g =
    record { sized = refl; low = h; high = g; noted = sym (never (window 0 used out) (last size used out)); same = λ _. refl }

module _ {out₀ : List ℕ} {used size : ℕ} {out : List ℕ} {to i : ℕ} (c : Repeating out₀ used size out to i) where
  pub repeating_one :
      (out' : List ℕ) (r : ℕ) → size ≤ used → used ≤ length out₀ → to < length out
      → window 0 r out' ≡ notes (window 0 to out) (last size to out) → Repeating out₀ used size out' r (i + 1)
  repeating_one out' r h g k e =
      let o = last size used out₀ in
      let n = length_last size used out₀ h g in
      let low = c.low in
      let f : window 0 r out' ≡ notes (window 0 to out) o = e ∙ ap (notes (window 0 to out)) (c.same k) in
      let m : Came (window 0 to out) (window 0 r out') o = rw f (came 0 to out o) in
      let s = m.size in
      let more = m.more in
      let within = m.within (omega arith) in
      record {
        sized = s ∙ c.sized;
        low = omega arith;
        high = omega arith;
        noted = f ∙ ap (λ (v : Window). notes v o) c.noted ∙ sym (once_more (window 0 used out₀) i o);
        same = λ q.
            let a = m.all (omega arith) in
            let z : r - size ≡ to = omega (arith, n) in
            rw z (ap (λ (x : ℕ). take x (drop to out')) (sym n) ∙ ap (λ (v : Window). take (length o) (drop to v.seen)) f ∙ lasts to out o (omega (arith, n)));
      }

  pub repeating_full : (n : ℕ) → i ≤ n → length out ≤ to → window 0 to out ≡ notes (window 0 used out₀) (times n (last size used out₀))
  repeating_full n h g =
      let o = last size used out₀ in
      let w = window 0 used out₀ in
      let z : n ≡ i + (n - i) = omega arith in
      sym (ap (λ (m : ℕ). notes w (times m o)) z ∙ more_often w i (n - i) o
      ∙ ap (λ (v : Window). notes v (times (n - i) o)) (sym c.noted) ∙ full to out (times (n - i) o) g)

  pub repeating_end : (n : ℕ) → i ≤ n → n ≤ i → window 0 to out ≡ notes (window 0 used out₀) (times n (last size used out₀))
  repeating_end n h g = let z : i ≡ n = omega arith in rw (← z) c.noted

-- ---- repetitions that need no walk

-- all of a block was noted: copies of it
pub copies_on :
    (skip used count left : ℕ) (l l' : List ℕ) (r : ℕ) (o : List ℕ)
    → (0 < count → skip ≡ 0) → length o ≡ count → last count used l ≡ o
    → window 0 r l' ≡ notes (window 0 used l) (times left (last count used l))
    → window skip r l' ≡ notes (window skip used l) (times left o)
copies_on skip used count left l l' r o z n s e = go (dec_lt 0 count)
  where
    f : window 0 r l' ≡ notes (window 0 used l) (times left o)
    f = e ∙ ap (λ (x : List ℕ). notes (window 0 used l) (times left x)) s

    go : Dec (0 < count) → window skip r l' ≡ notes (window skip used l) (times left o)
    go (yes h) = rw (z h) f
    go (no h) =
        let k : times left o ≡ [] = times_none left o (omega (arith, n)) in
        ap (λ (w : Window). window skip w.used w.seen) (f ∙ ap (notes (window 0 used l)) k ∙ none (window 0 used l))
        ∙ sym (ap (notes (window skip used l)) k ∙ none (window skip used l))

-- all of it was passed over, and so are q repetitions more
pub passes_on :
    (skip used passed q : ℕ) (l o : List ℕ) → length o ≡ passed → q * passed ≤ skip
    → window (skip - q * passed) used l ≡ notes (window skip used l) (times q o)
passes_on skip used passed q l o n h =
    let k : length (times q o) ≡ q * passed = length_times q o ∙ ap (λ (m : ℕ). q * m) n in
    sym (leaps skip used l (times q o) (omega (arith, k, h)) ∙ ap (λ (m : ℕ). window (skip - m) used l) k)

pub least_fits : (skip passed left q : ℕ) → q ≡ min (skip / passed) left → (q ≤ left) × (q * passed ≤ skip)
least_fits skip passed left q e =
    let g : q ≤ skip / passed = omega (arith, e) in
    (omega (arith, e), le_trans (mul-le-mul_right passed g) (div-mul-le_self skip passed))
