-- Counters in closed form: down to zero, past it, and then round and round.
use Rattle.std.specs.Prelude.{if◌then◌else◌}
use mathlib.Core.Path.{◌≡◌, refl, sym, ap, ◌∙◌}
use mathlib.Core.Bool.{Bool, true, false, ◌||◌}
use mathlib.Core.Logic.{◌⊎◌, inl, inr}
use Prim.Native.Nat.{ℕ, zero, suc, ◌+◌, ◌-◌, ◌*◌, ◌/◌, ◌%◌, ◌≤◌, ◌<◌}
use native.Mathlib.Nat.{mod-lt, mod-eq_of_lt, mod_self, div_self, div-add-mod, div-eq_of_lt, mul-add-div, mul-add-mod_self_left, zero-mod, zero-div, zero-add, suc-add, sub-zero}
use native.Mathlib.Decide.{dec_lt}
use native.Mathlib.Omega.{arith}
use lib.Dec.{eqb-suc-zero}
use borrow.Author.Tests.{lt-leb, le-leb}
use Rattle.clocks.specs.Clocks.{after, lower}
use Rattle.clocks.specs.Forecasts.{comes}
use Rattle.clocks.specs.declared.Forecast.TheVariants.{Never, In}

-- one more leaves a quotient and raises the remainder, or raises the quotient and leaves no remainder
pub record Within (e p : ℕ) : Type 0 where
  pub small : suc (e % p) < p
  pub rem : suc e % p ≡ suc (e % p)
  pub quo : suc e / p ≡ e / p

pub record Turned (e p : ℕ) : Type 0 where
  pub full : suc (e % p) ≡ p
  pub rem : suc e % p ≡ 0
  pub quo : suc e / p ≡ suc (e / p)

pub one_more : (e p : ℕ) → 0 < p → Within e p ⊎ Turned e p
one_more e p h = go (dec_lt (suc (e % p)) p)
  where
    split : suc e ≡ p * (e / p) + suc (e % p)
    split = omega (arith, div-add-mod e p)

    rest : suc e % p ≡ suc (e % p) % p
    rest = ap (λ (x : ℕ). x % p) split ∙ mul-add-mod_self_left p (e / p) (suc (e % p))

    whole : suc e / p ≡ e / p + suc (e % p) / p
    whole = ap (λ (x : ℕ). x / p) split ∙ mul-add-div h (e / p) (suc (e % p))

    go : Dec (suc (e % p) < p) → Within e p ⊎ Turned e p
    go (yes l) = inl (record { small = l; rem = rest ∙ mod-eq_of_lt l; quo = whole ∙ omega (arith, div-eq_of_lt l) })
    go (no g) =
        let f : suc (e % p) ≡ p = omega (arith, mod-lt e h) in
        inr (record { full = f; rem = rest ∙ rw (f, mod_self) refl; quo = whole ∙ rw (f, div_self h) (omega arith) })

-- The record s is `top` counts above zero, and each passing of zero leaves it `low` counts above zero:
-- `first k` is s at k counts above zero, `again q k` the same after the first passing and q more.
module _ {S : Type 0} (clock : S → S) (s : S) (top low : ℕ) (first : ℕ → S) (again : ℕ → ℕ → S) where
  pub record Turns : Type 0 where
    pub start : first top ≡ s
    pub counts : (k : ℕ) → k < top → clock (first (suc k)) ≡ first k
    pub passes : clock (first 0) ≡ again 0 low
    pub counts_on : (q k : ℕ) → k < low → clock (again q (suc k)) ≡ again q k
    pub passes_again : (q : ℕ) → clock (again q 0) ≡ again (suc q) low

module _ {S : Type 0} {clock : S → S} {s : S} {top low : ℕ} {first : ℕ → S} {again : ℕ → ℕ → S}
    (T : Turns clock s top low first again) where
  -- too few clocks to come to zero
  pub after_short : (n : ℕ) → n ≤ top → after n clock s ≡ first (top - n)
  unfolding after
  after_short zero h = rw sub-zero (sym T.start)
  after_short (suc n) h =
      let e : top - n ≡ suc (top - suc n) = omega arith in
      ap clock (after_short n (omega arith) ∙ ap first e) ∙ T.counts (top - suc n) (omega arith)

  -- n clocks more than the first passing
  abbrev since : ℕ → S
  since n = again (n / suc low) (low - n % suc low)

  since_step : (n : ℕ) → clock (since n) ≡ since (suc n)
  since_step n = go (one_more n (suc low) (omega arith))
    where
      q : ℕ
      q = n / suc low

      go : Within n (suc low) ⊎ Turned n (suc low) → clock (since n) ≡ since (suc n)
      go (inl w) =
          let l = w.small in
          let e : low - n % suc low ≡ suc (low - suc (n % suc low)) = omega arith in
          ap (λ (k : ℕ). clock (again q k)) e ∙ T.counts_on q (low - suc (n % suc low)) (omega arith) ∙ rw (w.rem, w.quo)
      go (inr w) =
          let l = w.full in
          let e : low - n % suc low ≡ 0 = omega arith in
          ap (λ (k : ℕ). clock (again q k)) e ∙ T.passes_again q ∙ rw (w.rem, w.quo, sub-zero)

  since_is : (n : ℕ) → after (n + suc top) clock s ≡ since n
  unfolding after
  since_is zero =
      let z : top - top ≡ 0 = omega arith in
      rw zero-add (ap clock (after_short top (omega arith) ∙ ap first z) ∙ T.passes ∙ rw (zero-mod, zero-div, sub-zero))
  since_is (suc n) = rw suc-add (ap clock (since_is n) ∙ since_step n)

  -- n clocks that pass it
  pub after_past :
      (n : ℕ) → top < n → after n clock s ≡ again ((n - suc top) / suc low) (low - (n - suc top) % suc low)
  after_past n h =
      let e : n ≡ n - suc top + suc top = omega arith in
      ap (λ (k : ℕ). after k clock s) e ∙ since_is (n - suc top)

  -- the first passing raises a flag for good, if it is armed; counting alone never does
  module _ (flag : S → Bool) (arms : Bool) where
    pub record Raises : Type 0 where
      pub kept : (k : ℕ) → flag (first k) ≡ flag s
      pub raised : (q k : ℕ) → flag (again q k) ≡ (arms || flag s)

    pub flag_after : Raises → (n : ℕ) → flag (after n clock s) ≡ (comes (if arms then In (top + 1) else Never) n || flag s)
    flag_after R n = go (dec_lt top n)
      where
        early : (b : Bool) → n ≤ top → flag s ≡ (comes (if b then In (top + 1) else Never) n || flag s)
        early true h = rw (lt-leb (top + 1) n (omega arith))
        early false h = refl

        late : (b : Bool) → top < n → (b || flag s) ≡ (comes (if b then In (top + 1) else Never) n || flag s)
        late true h = rw (le-leb (top + 1) n (omega arith))
        late false h = refl

        go : Dec (top < n) → flag (after n clock s) ≡ (comes (if arms then In (top + 1) else Never) n || flag s)
        go (yes h) =
            ap flag (after_past n h)
            ∙ R.raised ((n - suc top) / suc low) (low - (n - suc top) % suc low)
            ∙ late arms h
        go (no h) = let g : n ≤ top = omega arith in ap flag (after_short n g) ∙ R.kept (top - n) ∙ early arms g

-- a plain count of w numbers is one: 8 bits are 256 of them, 16 bits 65,536
pub falls : (w c : ℕ) → 0 < w → Turns (lower w) c c (w - 1) (λ k. k) (λ q k. k)
falls w c h =
    record {
      start = refl;
      counts = λ k l. count k;
      passes = refl;
      counts_on = λ q k l. count k;
      passes_again = λ q. refl;
    }
  where
    count : (k : ℕ) → lower w (suc k) ≡ k
    count k = simp eqb-suc-zero (omega arith)
