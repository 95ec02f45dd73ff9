-- Bytes by their bits: and, or, not, a mask, and that the bits settle the number. Widths other than 8 are other n.
use Rattle.std.specs.Prelude.{if◌then◌else◌}
use mathlib.Core.Path.{◌≡◌, refl, sym, ap, ap₂, ◌∙◌}
use mathlib.Core.Bool.{Bool, true, false, not, ◌||◌, ◌&&◌, or-true, or-false, and-true, and-false, true≢false, false≢true}
use Prim.Native.Nat.{ℕ, zero, suc, ◌+◌, ◌-◌, ◌/◌, ◌%◌, ◌^◌, ◌<◌, ◌≤◌, min, zero-le}
use native.Mathlib.Nat.{pow-suc, pow-succ', div-one, div-div-eq-div-mul, div-eq_of_lt}
use native.Mathlib.Decide.{ℕ_discrete}
use native.Mathlib.Omega.{arith}
use lib.Dec.{eqb, lit<, eqb-suc-zero, eqb-zero-suc, eqb-suc-suc}
use lib.Pow.{pow_mono, pow_pos, field, mod-mod-pow}
use lib.Bits.{bit_and, bit_or, and_step, and_le_l, and_shr, or_shr, and_mod, or_mod, or_lt}
use borrow.Author.Tests.{eq-eqb, ne_eqb, eqb-true}
use mathlib.Core.Logic.{◌⊎◌, inl, inr}
use Rattle.clocks.proofs.Tests.{both, either, neither}
use Rattle.clocks.specs.Bits.{bit, with_set, with_clear, gone, with_bit, merge, shares}

-- what holds of both digits holds of a number below 2
by_digit : (P : ℕ → Type 0) → P 0 → P 1 → (d : ℕ) → d < 2 → P d
by_digit P a b zero h = a
by_digit P a b (suc zero) h = b
by_digit P a b (suc (suc d)) h = absurd (omega arith)

mod_two : (x : ℕ) → x % 2 < 2
mod_two x = omega arith

pub bit_zero : (x : ℕ) → bit 0 x ≡ eqb (x % 2) 1
unfolding bit
bit_zero x = ap (λ (y : ℕ). eqb (y % 2) 1) (div-one x)

pub bit_suc : (k x : ℕ) → bit (suc k) x ≡ bit k (x / 2)
unfolding bit
bit_suc k x = ap (λ (y : ℕ). eqb (y % 2) 1) (ap (λ (p : ℕ). x / p) (pow-succ' 2 k) ∙ sym (div-div-eq-div-mul x 2 (2 ^ k)))

-- a number below 2 ^ n has no bit from n on
pub bit_high : (n k x : ℕ) → x < 2 ^ n → n ≤ k → bit k x ≡ false
unfolding bit
bit_high n k x h l = let g : x < 2 ^ k = omega (arith, pow_mono l) in rw (div-eq_of_lt g)

-- the low n bits are those of the remainder
pub bit_mod : (n k x : ℕ) → k < n → bit k (x % 2 ^ n) ≡ bit k x
unfolding bit
bit_mod n k x h =
    let e : n ≡ n - k - 1 + 1 + k = omega arith in
    ap (λ (y : ℕ). eqb (y % 2) 1) (ap (λ (m : ℕ). x % 2 ^ m / 2 ^ k) e ∙ field x (n - k - 1 + 1) k)
    ∙ ap (λ (y : ℕ). eqb y 1) (mod-mod-pow (x / 2 ^ k) (n - k - 1) 1)

-- 0 has none at all
pub bit_none : (k : ℕ) → bit k 0 ≡ false
bit_none k = bit_high 0 k 0 (lit< tt) zero-le

-- where an operation acts on each digit by f, each bit of its result is f of the operands' bits
module _ (op : ℕ → ℕ → ℕ) (f : Bool → Bool → Bool)
    (shift : (x y k : ℕ) → op x y / 2 ^ k ≡ op (x / 2 ^ k) (y / 2 ^ k))
    (rest : (x y : ℕ) → op x y % 2 ≡ op (x % 2) (y % 2))
    (digit : (d e : ℕ) → d < 2 → e < 2 → eqb (op d e) 1 ≡ f (eqb d 1) (eqb e 1)) where
  bit_op : (k x y : ℕ) → bit k (op x y) ≡ f (bit k x) (bit k y)
  unfolding bit
  bit_op k x y =
      ap (λ (z : ℕ). eqb (z % 2) 1) (shift x y k)
      ∙ ap (λ (z : ℕ). eqb z 1) (rest (x / 2 ^ k) (y / 2 ^ k))
      ∙ digit (x / 2 ^ k % 2) (y / 2 ^ k % 2) (mod_two (x / 2 ^ k)) (mod_two (y / 2 ^ k))

pub bit_and_lem : (k x y : ℕ) → bit k (bit_and x y) ≡ (bit k x && bit k y)
bit_and_lem =
    bit_op bit_and ◌&&◌ and_shr (λ x y. and_mod x y 1)
    (λ d e h g. by_digit (λ d. eqb (bit_and d e) 1 ≡ (eqb d 1 && eqb e 1))
    (by_digit (λ e. eqb (bit_and 0 e) 1 ≡ false) refl refl e g)
    (by_digit (λ e. eqb (bit_and 1 e) 1 ≡ eqb e 1) refl refl e g)
    d h)

pub bit_or_lem : (k x y : ℕ) → bit k (bit_or x y) ≡ (bit k x || bit k y)
bit_or_lem =
    bit_op bit_or ◌||◌ or_shr (λ x y. or_mod x y 1)
    (λ d e h g. by_digit (λ d. eqb (bit_or d e) 1 ≡ (eqb d 1 || eqb e 1))
    (by_digit (λ e. eqb (bit_or 0 e) 1 ≡ eqb e 1) refl refl e g)
    (by_digit (λ e. eqb (bit_or 1 e) 1 ≡ true) refl refl e g)
    d h)

-- the other digit
flipped : (d e : ℕ) → d < 2 → e < 2 → d + e ≡ 1 → eqb d 1 ≡ not (eqb e 1)
flipped d e h g s =
    by_digit (λ e. d + e ≡ 1 → eqb d 1 ≡ not (eqb e 1))
    (λ q. eq-eqb d 1 (omega arith))
    (λ q. ne_eqb d 1 (omega arith))
    e g s

-- all n bits turned
pub bit_not : (n k x : ℕ) → k < n → x < 2 ^ n → bit k (2 ^ n - 1 - x) ≡ not (bit k x)
bit_not zero k x h l = absurd (omega arith)
bit_not (suc n) zero x h l =
    bit_zero (2 ^ suc n - 1 - x)
    ∙ flipped ((2 ^ suc n - 1 - x) % 2) (x % 2) (mod_two (2 ^ suc n - 1 - x)) (mod_two x) (omega (arith, pow-suc 2 n))
    ∙ ap not (sym (bit_zero x))
bit_not (suc n) (suc k) x h l =
    let e : (2 ^ suc n - 1 - x) / 2 ≡ 2 ^ n - 1 - x / 2 = omega (arith, pow-suc 2 n) in
    bit_suc k (2 ^ suc n - 1 - x)
    ∙ ap (bit k) e
    ∙ bit_not n k (x / 2) (omega arith) (omega (arith, pow-suc 2 n))
    ∙ ap not (sym (bit_suc k x))

-- the mask of a number: its bits set, and cleared
pub bit_set : (k m x : ℕ) → bit k (with_set m x) ≡ (bit k x || bit k m)
unfolding with_set
bit_set k m x = bit_or_lem k x m

left_digit : (d e : ℕ) → d < 2 → e < 2 → eqb (d - min d e) 1 ≡ (eqb d 1 && not (eqb e 1))
left_digit d e h g =
    by_digit (λ d. eqb (d - min d e) 1 ≡ (eqb d 1 && not (eqb e 1)))
    (by_digit (λ e. eqb (0 - min 0 e) 1 ≡ false) refl refl e g)
    (by_digit (λ e. eqb (1 - min 1 e) 1 ≡ not (eqb e 1)) refl refl e g)
    d h

pub bit_clear : (k m x : ℕ) → bit k (with_clear m x) ≡ (bit k x && not (bit k m))
unfolding with_clear
bit_clear zero m x =
    let a = and_step x m in
    let l = and_le_l (x / 2) (m / 2) in
    let e : (x - bit_and x m) % 2 ≡ x % 2 - min (x % 2) (m % 2) = omega arith in
    bit_zero (x - bit_and x m)
    ∙ ap (λ (d : ℕ). eqb d 1) e
    ∙ left_digit (x % 2) (m % 2) (mod_two x) (mod_two m)
    ∙ ap₂ (λ (p q : Bool). p && not q) (sym (bit_zero x)) (sym (bit_zero m))
bit_clear (suc k) m x =
    let a = and_step x m in
    let l = and_le_l (x / 2) (m / 2) in
    let e : (x - bit_and x m) / 2 ≡ x / 2 - bit_and (x / 2) (m / 2) = omega arith in
    bit_suc k (x - bit_and x m)
    ∙ ap (bit k) e
    ∙ bit_clear k (m / 2) (x / 2)
    ∙ ap₂ (λ (p q : Bool). p && not q) (sym (bit_suc k x)) (sym (bit_suc k m))

picked : (b x y : Bool) → (x && b || y && not b) ≡ (if b then x else y)
picked true x y = ap₂ ◌||◌ (and-true x) (and-false y) ∙ or-false x
picked false x y = ap₂ ◌||◌ (and-false x) (and-true y)

pub bit_merge : (k m x y : ℕ) → k < 8 → m < 256 → bit k (merge m x y) ≡ (if bit k m then bit k x else bit k y)
unfolding merge
bit_merge k m x y h l =
    bit_or_lem k (bit_and x m) (bit_and y (255 - m))
    ∙ ap₂ ◌||◌ (bit_and_lem k x m) (bit_and_lem k y (255 - m) ∙ ap (λ (b : Bool). bit k y && b) (bit_not 8 k m h l))
    ∙ picked (bit k m) (bit k x) (bit k y)

same_digit : (d e : ℕ) → d < 2 → e < 2 → eqb d 1 ≡ eqb e 1 → d ≡ e
same_digit d e h g s =
    by_digit (λ e. eqb d 1 ≡ eqb e 1 → d ≡ e)
    (by_digit (λ d. eqb d 1 ≡ false → d ≡ 0) (λ q. refl) (λ q. absurd (true≢false q)) d h)
    (λ q. eqb-true d 1 q)
    e g s

-- n bits settle a number that has no more of them
pub same_bits : (n x y : ℕ) → x < 2 ^ n → y < 2 ^ n → ((k : ℕ) → k < n → bit k x ≡ bit k y) → x ≡ y
same_bits zero x y h g e = omega arith
same_bits (suc n) x y h g e =
    let low = same_digit (x % 2) (y % 2) (mod_two x) (mod_two y) (sym (bit_zero x) ∙ e 0 (omega arith) ∙ bit_zero y) in
    let high = same_bits n (x / 2) (y / 2) (omega (arith, pow-suc 2 n)) (omega (arith, pow-suc 2 n))
    (λ k l. sym (bit_suc k x) ∙ e (suc k) (omega arith) ∙ bit_suc k y) in
    omega arith

below : (x : ℕ) → x < 2 ^ x
below zero = lit< tt
below (suc x) = omega (arith, pow-suc 2 x, below x)

-- and all bits settle any number
pub all_bits : (x y : ℕ) → ((k : ℕ) → bit k x ≡ bit k y) → x ≡ y
all_bits x y e =
    same_bits (x + y) x y
    (omega (arith, below x, pow_mono {i = x} {j = x + y} (omega arith)))
    (omega (arith, below y, pow_mono {i = y} {j = x + y} (omega arith)))
    (λ k l. e k)

-- nothing is gone where nothing changed
pub gone_none : (x : ℕ) → gone x x ≡ 0
gone_none x = all_bits _ _ (λ k. bit_clear k x x ∙ apart (bit k x) ∙ sym (bit_none k))
  where
    apart : (b : Bool) → (b && not b) ≡ false
    apart true = refl
    apart false = refl

-- a power of two has one bit
pub bit_power : (k j : ℕ) → bit j (2 ^ k) ≡ eqb j k
bit_power zero zero = bit_zero 1
bit_power zero (suc j) = bit_suc j 1 ∙ bit_high 0 j 0 (lit< tt) zero-le ∙ sym (eqb-suc-zero j)
bit_power (suc k) zero =
    let e : 2 ^ suc k % 2 ≡ 0 = omega (arith, pow-suc 2 k) in
    bit_zero (2 ^ suc k) ∙ ap (λ (d : ℕ). eqb d 1) e ∙ sym (eqb-zero-suc k)
bit_power (suc k) (suc j) =
    let e : 2 ^ suc k / 2 ≡ 2 ^ k = omega (arith, pow-suc 2 k) in
    bit_suc j (2 ^ suc k) ∙ ap (bit j) e ∙ bit_power k j ∙ sym (eqb-suc-suc j k)

-- a bit as it is said, the others as they were
pub bit_with : (k : ℕ) (b : Bool) (j x : ℕ) → bit j (with_bit k b x) ≡ (if eqb j k then b else bit j x)
unfolding with_bit
bit_with k true j x =
    bit_set j (2 ^ k) x ∙ ap (λ (q : Bool). bit j x || q) (bit_power k j) ∙ go (eqb j k)
  where
    go : (q : Bool) → (bit j x || q) ≡ (if q then true else bit j x)
    go true = or-true (bit j x)
    go false = or-false (bit j x)
bit_with k false j x =
    bit_clear j (2 ^ k) x ∙ ap (λ (q : Bool). bit j x && not q) (bit_power k j) ∙ go (eqb j k)
  where
    go : (q : Bool) → (bit j x && not q) ≡ (if q then false else bit j x)
    go true = and-false (bit j x)
    go false = and-true (bit j x)

pub bit_here : (k : ℕ) (b : Bool) (x : ℕ) → bit k (with_bit k b x) ≡ b
bit_here k b x = bit_with k b k x ∙ rw (eq-eqb k k refl)

pub bit_other : (k : ℕ) (b : Bool) (j x : ℕ) → (j ≡ k → ⊥) → bit j (with_bit k b x) ≡ bit j x
bit_other k b j x e = bit_with k b j x ∙ rw (ne_eqb j k e)

-- a bit below n leaves a number below 2 ^ n there
pub with_lt : (n k : ℕ) (b : Bool) (x : ℕ) → k < n → x < 2 ^ n → with_bit k b x < 2 ^ n
unfolding with_bit with_set with_clear
with_lt n k true x h l = or_lt n x (2 ^ k) l (omega (arith, pow_mono {i = suc k} {j = n} h, pow-suc 2 k, pow_pos k))
with_lt n k false x h l = omega arith

-- a bit put back where it was read
pub with_same : (k x : ℕ) → with_bit k (bit k x) x ≡ x
with_same k x = all_bits _ _ (λ j. bit_with k (bit k x) j x ∙ go j (ℕ_discrete j k))
  where
    go : (j : ℕ) → Dec (j ≡ k) → (if eqb j k then bit k x else bit j x) ≡ bit j x
    go j (yes e) = rw (eq-eqb j k e, e)
    go j (no e) = rw (ne_eqb j k e)

-- of two bits put in one place the last counts, and of two put in two places either may be the last
pub with_over : (k : ℕ) (a b : Bool) (x : ℕ) → with_bit k a (with_bit k b x) ≡ with_bit k a x
with_over k a b x =
    all_bits _ _ (λ j. bit_with k a j (with_bit k b x) ∙ go j (ℕ_discrete j k) ∙ sym (bit_with k a j x))
  where
    go : (j : ℕ) → Dec (j ≡ k) → (if eqb j k then a else bit j (with_bit k b x)) ≡ (if eqb j k then a else bit j x)
    go j (yes e) = rw (eq-eqb j k e)
    go j (no e) = rw (ne_eqb j k e) (bit_other k b j x e)

pub with_swap :
    (k l : ℕ) (a b : Bool) (x : ℕ) → (k ≡ l → ⊥) → with_bit k a (with_bit l b x) ≡ with_bit l b (with_bit k a x)
with_swap k l a b x n =
    all_bits _ _ (λ j. two k l a b j ∙ go j (ℕ_discrete j k) ∙ sym (two l k b a j))
  where
    two : (k l : ℕ) (a b : Bool) (j : ℕ) → bit j (with_bit k a (with_bit l b x)) ≡ (if eqb j k then a else (if eqb j l then b else bit j x))
    two k l a b j = bit_with k a j (with_bit l b x) ∙ ap (λ (q : Bool). if eqb j k then a else q) (bit_with l b j x)

    go :
        (j : ℕ) → Dec (j ≡ k)
        → (if eqb j k then a else (if eqb j l then b else bit j x)) ≡ (if eqb j l then b else (if eqb j k then a else bit j x))
    go j (yes e) = rw (eq-eqb j k e, ne_eqb j l (λ q. n (sym e ∙ q)))
    go j (no e) = rw (ne_eqb j k e)

-- nothing is shared exactly where the two have no bit in common
shares_none : (n x y : ℕ) → ((k : ℕ) → k < n → (bit k x && bit k y) ≡ false) → shares n x y ≡ false
unfolding shares
shares_none zero x y h = refl
shares_none (suc n) x y h = rw (h n (omega arith)) (shares_none n x y (λ k l. h k (omega arith)))

-- what is shared goes by the bits that y has
pub shares_same :
    (n x x' y : ℕ) → ((k : ℕ) → k < n → (bit k x && bit k y) ≡ (bit k x' && bit k y)) → shares n x y ≡ shares n x' y
unfolding shares
shares_same zero x x' y h = refl
shares_same (suc n) x x' y h = ap₂ ◌||◌ (h n (omega arith)) (shares_same n x x' y (λ k l. h k (omega arith)))

shares_some : (n x y : ℕ) → shares n x y ≡ false → (k : ℕ) → k < n → (bit k x && bit k y) ≡ false
unfolding shares
shares_some zero x y h k l = absurd (omega arith)
shares_some (suc n) x y h k l =
    let e = neither (bit n x && bit n y) (shares n x y) h in
    go (λ g. shares_some n x y e.1 k g) e.0 (ℕ_discrete k n)
  where
    go : (k < n → (bit k x && bit k y) ≡ false) → (bit n x && bit n y) ≡ false → Dec (k ≡ n) → (bit k x && bit k y) ≡ false
    go below here (yes e) = rw e here
    go below here (no e) = below (omega arith)

pub shares_and : (n x y : ℕ) → x < 2 ^ n → shares n x y ≡ not (eqb (bit_and x y) 0)
shares_and n x y l = go (ℕ_discrete (bit_and x y) 0) (shares n x y) refl
  where
    zero_and : shares n x y ≡ false → bit_and x y ≡ 0
    zero_and h =
        same_bits n (bit_and x y) 0 (omega (arith, and_le_l x y)) (omega arith)
        (λ k g. bit_and_lem k x y ∙ shares_some n x y h k g ∙ sym (bit_none k))

    go : Dec (bit_and x y ≡ 0) → (b : Bool) → shares n x y ≡ b → shares n x y ≡ not (eqb (bit_and x y) 0)
    go (yes e) b h =
        rw (eq-eqb (bit_and x y) 0 e) (shares_none n x y (λ k g. sym (bit_and_lem k x y) ∙ ap (bit k) e ∙ bit_none k))
    go (no e) true h = h ∙ ap not (sym (ne_eqb (bit_and x y) 0 e))
    go (no e) false h = absurd (e (zero_and h))

-- taking a mask's bits away is an and with the others
pub clear_and : (m x : ℕ) → m < 256 → x < 256 → with_clear m x ≡ bit_and x (255 - m)
unfolding with_clear
clear_and m x h l =
    same_bits 8 (x - bit_and x m) (bit_and x (255 - m)) (omega arith) (omega (arith, and_le_l x (255 - m)))
    (λ k g. unfold with_clear in bit_clear k m x ∙ sym (bit_and_lem k x (255 - m) ∙ ap (λ (b : Bool). bit k x && b) (bit_not 8 k m g h)))

-- a shared bit is one that both have, and such a bit is shared
pub shares_found : (n x y : ℕ) → shares n x y ≡ true → (k : ℕ) × (k < n) × (bit k x ≡ true) × (bit k y ≡ true)
unfolding shares
shares_found zero x y e = absurd (false≢true e)
shares_found (suc n) x y e = go (λ h. shares_found n x y h) (either (bit n x && bit n y) (shares n x y) e)
  where
    go :
        (shares n x y ≡ true → (k : ℕ) × (k < n) × (bit k x ≡ true) × (bit k y ≡ true))
        → ((bit n x && bit n y) ≡ true) ⊎ (shares n x y ≡ true)
        → (k : ℕ) × (k < suc n) × (bit k x ≡ true) × (bit k y ≡ true)
    go below (inl h) = let b = both (bit n x) (bit n y) h in (n, omega arith, b.0, b.1)
    go below (inr h) = let f = below h in let l = f.1 in (f.0, omega arith, f.2, f.3)

pub shares_by : (n x y k : ℕ) → k < n → bit k x ≡ true → bit k y ≡ true → shares n x y ≡ true
unfolding shares
shares_by zero x y k l p q = absurd (omega arith)
shares_by (suc n) x y k l p q = go (λ h. shares_by n x y k h p q) (ℕ_discrete k n)
  where
    go : (k < n → shares n x y ≡ true) → Dec (k ≡ n) → (bit n x && bit n y || shares n x y) ≡ true
    go below (yes e) =
        let a : bit n x ≡ true = rw e at p in
        let b : bit n y ≡ true = rw e at q in
        rw (a, b)
    go below (no e) = rw (below (omega arith)) (or-true (bit n x && bit n y))

-- a bit of x by itself: it is shared where y has it, and else the others decide
pub shares_with :
    (n k : ℕ) (b : Bool) (x y : ℕ) → k < n → shares n (with_bit k b x) y ≡ (b && bit k y || shares n (with_bit k false x) y)
shares_with n k false x y l = refl
shares_with n k true x y l = go (bit k y) refl
  where
    same : bit k y ≡ false → (j : ℕ) → Dec (j ≡ k) → (bit j (with_bit k true x) && bit j y) ≡ (bit j (with_bit k false x) && bit j y)
    same none j (yes e) =
        rw (e, none) (and-false (bit k (with_bit k true x)) ∙ sym (and-false (bit k (with_bit k false x))))
    same none j (no e) =
        ap (λ (b : Bool). b && bit j y) (bit_other k true j x e ∙ sym (bit_other k false j x e))

    go : (b : Bool) → bit k y ≡ b → shares n (with_bit k true x) y ≡ (b || shares n (with_bit k false x) y)
    go true e = shares_by n (with_bit k true x) y k l (bit_here k true x) e
    go false e = shares_same n (with_bit k true x) (with_bit k false x) y (λ j h. same e j (ℕ_discrete j k))
