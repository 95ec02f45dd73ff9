-- The highest set bit of a number: where it stands, how leading zeros give it, and which numbers are below it.
use mathlib.Core.Path.{◌≡◌, refl, sym, ap, ◌∙◌}
use mathlib.Core.Bool.{true, false, not, ◌&&◌, true≢false, false≢true}
use mathlib.Core.Logic.{◌⊎◌, ◌↔◌, inl, inr, ⊎_elim}
use Prim.Native.Nat.{ℕ, zero, suc, ◌+◌, ◌/◌, ◌%◌, ◌^◌, ◌<◌, ◌≤◌}
use native.Mathlib.Nat.{eq-or-lt_of_le, pow-suc}
use native.Mathlib.Decide.{dec_lt, ℕ_discrete}
use native.Mathlib.Omega.{arith}
use lib.Dec.{eqb, ltb, leb}
use lib.Pow.{pow-add, pow_pos, pow_mono, shl-shr}
use lib.Count.{count_leading_zeros, leading_top}
use borrow.Author.Tests.{eq-eqb, ne_eqb, eqb-true, lt-ltb, le-ltb, le-leb, lt-leb}
use Rattle.clocks.specs.Bits.{bit}
use Rattle.clocks.proofs.Bits.{bit_zero, bit_suc, bit_high, bit_none, bit_power}
use Rattle.inputs.specs.Inputs.{highest_of}

-- x reaches 2 ^ j and not its double
pub record Top (x j : ℕ) : Type 0 where
  pub reached : 2 ^ j ≤ x
  pub below : x < 2 ^ suc j

top_bit : (j x : ℕ) → 2 ^ j ≤ x → x < 2 ^ suc j → bit j x ≡ true
top_bit zero x p q = bit_zero x ∙ eq-eqb (x % 2) 1 (omega arith)
top_bit (suc j) x p q =
    bit_suc j x ∙ top_bit j (x / 2) (omega (arith, pow-suc 2 j)) (omega (arith, pow-suc 2 j, pow-suc 2 (suc j)))

pub top_set : {x j : ℕ} → Top x j → bit j x ≡ true
top_set {x} {j} t = top_bit j x t.reached t.below

pub top_above : {x j k : ℕ} → Top x j → j < k → bit k x ≡ false
top_above {x} {j} {k} t h = bit_high (suc j) k x t.below h

-- every number but 0 has one
pub top_of : (n x : ℕ) → 0 < x → x < 2 ^ n → (j : ℕ) × (j < n) × Top x j
top_of n x p h =
    let t = leading_top n x p h in
    (t.0, omega (arith, t.1), record { reached = t.2; below = t.3 })

-- and the definition finds it
pub highest_is : (n j x : ℕ) → j < n → Top x j → highest_of n x ≡ 2 ^ j
unfolding highest_of
highest_is zero j x l t = absurd (omega arith)
highest_is (suc n) j x l t = ⊎_elim
    (λ (e : j ≡ n). let b : bit n x ≡ true = rw e at (top_set t) in rw (b, e))
    (λ (h : j < n). rw (top_above t h) (highest_is n j x h t))
    (eq-or-lt_of_le {n = j} {m = n} (omega arith))

pub highest_none : (n : ℕ) → highest_of n 0 ≡ 0
unfolding highest_of
highest_none zero = refl
highest_none (suc n) = rw (bit_none n) (highest_none n)

-- the top weight, moved down by the leading zeros
pub moved_down : (k x : ℕ) → 0 < x → x < 2 ^ suc k → 2 ^ k / 2 ^ count_leading_zeros (suc k) x ≡ highest_of (suc k) x
moved_down k x p h =
    let t = leading_top (suc k) x p h in
    let j = t.0 in
    let z = count_leading_zeros (suc k) x in
    let e : k ≡ j + z = omega (arith, t.1) in
    let s : 2 ^ k / 2 ^ z ≡ 2 ^ j = ap (λ (m : ℕ). 2 ^ m / 2 ^ z) e ∙ rw (pow-add 2 j z) (shl-shr (2 ^ j) z) in
    s ∙ sym (highest_is (suc k) j x (omega arith) (record { reached = t.2; below = t.3 }))

pub few : (k x : ℕ) → 0 < x → x < 2 ^ suc k → count_leading_zeros (suc k) x < suc k
few k x p h = let t = leading_top (suc k) x p h in omega (arith, t.1)

-- the highest bit is no more than the number
pub highest_le : (n x : ℕ) → x < 2 ^ n → highest_of n x ≤ x
highest_le n x h = go (ℕ_discrete x 0)
  where
    go : Dec (x ≡ 0) → highest_of n x ≤ x
    go (yes e) = rw (e, highest_none n) (omega arith)
    go (no e) = let t = top_of n x (omega arith) h in rw (highest_is n t.0 x t.1 t.2) t.2.reached

lower_or_not : (j i : ℕ) → Dec (j < i) → (j < i) ⊎ (i ≤ j)
lower_or_not j i (yes l) = inl l
lower_or_not j i (no l) = inr (omega arith)

-- a number is below a power of two exactly where its highest bit is
below_power : (n i x : ℕ) → x < 2 ^ n → ltb x (2 ^ i) ≡ not (leb (2 ^ i) (highest_of n x))
below_power n i x h = go (ℕ_discrete x 0)
  where
    go : Dec (x ≡ 0) → ltb x (2 ^ i) ≡ not (leb (2 ^ i) (highest_of n x))
    go (yes e) = rw (e, highest_none n, lt-ltb 0 (2 ^ i) (pow_pos i), lt-leb (2 ^ i) 0 (pow_pos i))
    go (no e) =
        let t = top_of n x (omega arith) h in
        let j = t.0 in
        let f = highest_is n j x t.1 t.2 in
        ⊎_elim
        (λ (l : j < i).
        let s : 2 ^ suc j ≤ 2 ^ i = pow_mono l in
        rw (f, lt-ltb x (2 ^ i) (omega (arith, t.2.below)), lt-leb (2 ^ i) (2 ^ j) (omega (arith, pow-suc 2 j, pow_pos j))))
        (λ (l : i ≤ j).
        let s : 2 ^ i ≤ 2 ^ j = pow_mono l in
        rw (f, le-ltb x (2 ^ i) (omega (arith, t.2.reached)), le-leb (2 ^ i) (2 ^ j) s))
        (lower_or_not j i (dec_lt j i))

-- so a set is below the highest bit of w exactly where w has one, and the set's own highest bit is not as high
pub below_highest :
    (n x w : ℕ) → x < 2 ^ n → w < 2 ^ n
    → ltb x (highest_of n w) ≡ (not (eqb (highest_of n w) 0) && not (leb (highest_of n w) (highest_of n x)))
below_highest n x w h g = go (ℕ_discrete w 0)
  where
    go :
        Dec (w ≡ 0)
        → ltb x (highest_of n w) ≡ (not (eqb (highest_of n w) 0) && not (leb (highest_of n w) (highest_of n x)))
    go (yes e) = rw (e, highest_none n, le-ltb x 0 (omega arith))
    go (no e) =
        let t = top_of n w (omega arith) g in
        rw (highest_is n t.0 w t.1 t.2, ne_eqb (2 ^ t.0) 0 (λ z. omega (arith, z, pow_pos t.0))) (below_power n t.0 x h)

-- ---- the same by bits

-- bit k is set in x, and none above it
abbrev pub Highest : ℕ → ℕ → Type 0
Highest k x = (bit k x ≡ true) × ((j : ℕ) → k < j → bit j x ≡ false)

-- a number with a bit set is not 0
pub some_bit : (k x : ℕ) → bit k x ≡ true → 0 < x
some_bit k x b = go (ℕ_discrete x 0)
  where
    go : Dec (x ≡ 0) → 0 < x
    go (yes e) = absurd (false≢true (sym (ap (bit k) e ∙ bit_none k) ∙ b))
    go (no e) = omega arith

-- there is one highest bit
highest_same : (k j x : ℕ) → Highest k x → Top x j → k ≡ j
highest_same k j x q t = go (dec_lt k j) (dec_lt j k)
  where
    go : Dec (k < j) → Dec (j < k) → k ≡ j
    go (yes l) d = absurd (false≢true (sym (q.1 j l) ∙ top_set t))
    go (no l) (yes m) = absurd (true≢false (sym q.0 ∙ top_above t m))
    go (no l) (no m) = omega arith

-- and the definition has it alone
pub highest_top : (n k x : ℕ) → x < 2 ^ n → Highest k x → highest_of n x ≡ 2 ^ k
highest_top n k x h q =
    let t = top_of n x (some_bit k x q.0) h in
    highest_is n t.0 x t.1 t.2 ∙ ap (λ (j : ℕ). 2 ^ j) (sym (highest_same k t.0 x q t.2))

pub highest_one : (n k x : ℕ) → x < 2 ^ n → (bit k (highest_of n x) ≡ true) ↔ Highest k x
highest_one n k x h = (there (ℕ_discrete x 0), λ q. ap (bit k) (highest_top n k x h q) ∙ bit_power k k ∙ eq-eqb k k refl)
  where
    there : Dec (x ≡ 0) → bit k (highest_of n x) ≡ true → Highest k x
    there (yes e) b =
        absurd (false≢true (sym (ap (λ (y : ℕ). bit k (highest_of n y)) e ∙ ap (bit k) (highest_none n) ∙ bit_none k) ∙ b))
    there (no e) b =
        let t = top_of n x (omega arith) h in
        let s : k ≡ t.0 = eqb-true k t.0 (sym (ap (bit k) (highest_is n t.0 x t.1 t.2) ∙ bit_power t.0 k) ∙ b) in
        rw s (top_set t.2, λ i l. top_above t.2 l)

-- another bit that is set has the highest above it
pub above : (n k x : ℕ) → x < 2 ^ n → bit k x ≡ true → bit k (highest_of n x) ≡ false → (j : ℕ) × (k < j) × (bit j x ≡ true)
above n k x h b e =
    let t = top_of n x (some_bit k x b) h in
    (t.0, go t.0 t.2 (highest_is n t.0 x t.1 t.2) (dec_lt k t.0) (dec_lt t.0 k), top_set t.2)
  where
    go : (j : ℕ) → Top x j → highest_of n x ≡ 2 ^ j → Dec (k < j) → Dec (j < k) → k < j
    go j t f (yes l) d = l
    go j t f (no l) (yes m) = absurd (true≢false (sym b ∙ top_above t m))
    go j t f (no l) (no m) =
        absurd (true≢false (sym (ap (bit k) f ∙ bit_power j k ∙ eq-eqb k j (omega arith)) ∙ e))

-- a number is below a power of two exactly where all of its bits are lower
pub lower : (n i x : ℕ) → x < 2 ^ n → (x < 2 ^ i) ↔ ((j : ℕ) → bit j x ≡ true → j < i)
lower n i x h = (there, λ q. back q (dec_lt x (2 ^ i)))
  where
    there : x < 2 ^ i → (j : ℕ) → bit j x ≡ true → j < i
    there l j b = go (dec_lt j i)
      where
        go : Dec (j < i) → j < i
        go (yes g) = g
        go (no g) = absurd (true≢false (sym b ∙ bit_high i j x l (omega arith)))

    back : ((j : ℕ) → bit j x ≡ true → j < i) → Dec (x < 2 ^ i) → x < 2 ^ i
    back q (yes l) = l
    back q (no l) =
        let t = top_of n x (omega (arith, pow_pos i)) h in
        let g = q t.0 (top_set t.2) in
        let m : 2 ^ suc t.0 ≤ 2 ^ i = pow_mono g in
        absurd (omega (arith, t.2.below))
