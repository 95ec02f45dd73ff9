-- What a forecast says of every number of clocks settles it.
use Rattle.std.specs.Prelude.{if◌then◌else◌}
use mathlib.Core.Path.{◌≡◌, refl, sym, ap, ◌∙◌}
use mathlib.Core.Bool.{Bool, true, false, ◌||◌, ◌&&◌, or-true, or-false, and-true, and-false, true≢false, false≢true}
use mathlib.Core.Logic.{◌↔◌}
use Prim.Native.Nat.{ℕ, zero, suc, ◌+◌, ◌-◌, ◌<◌, ◌≤◌}
use native.Mathlib.Nat.{le_refl}
use native.Mathlib.Decide.{dec_lt, dec_le}
use native.Mathlib.Omega.{arith}
use lib.Dec.{leb, leb-zero}
use borrow.Author.Tests.{le-leb, lt-leb, leb-true}
use Rattle.clocks.specs.Forecasts.{comes, shortened, sooner_of, first_from}
use Rattle.clocks.specs.declared.Forecast.{Forecast}
use Rattle.clocks.specs.declared.Forecast.TheVariants.{Never, In}
use Rattle.clocks.proofs.Tests.{picked}

-- what is forecast is so at the number, and not before
pub comes_at : (d : ℕ) → comes (In d) d ≡ true
comes_at d = le-leb d d (le_refl d)

pub comes_not_before : (d j : ℕ) → j < d → comes (In d) j ≡ false
comes_not_before d j h = lt-leb d j h

-- two forecasts that say the same coincide
pub comes_one : (f g : Forecast) → ((k : ℕ) → comes f k ≡ comes g k) → f ≡ g
comes_one Never Never e = refl
comes_one Never (In y) e = absurd (false≢true (e y ∙ comes_at y))
comes_one (In x) Never e = absurd (true≢false (sym (comes_at x) ∙ e x))
comes_one (In x) (In y) e =
    let a = leb-true y x (sym (e x) ∙ comes_at x) in
    let b = leb-true x y (e y ∙ comes_at y) in
    ap In (omega arith)

-- a line that a forecast tells of is asserted first at its number, and never where it says never
module _ (line : ℕ → Bool) (f : Forecast) (told : (k : ℕ) → line k ≡ comes f k) where
  pub told_least : (d : ℕ) → f ≡ In d → (line d ≡ true) × ((j : ℕ) → j < d → line j ≡ false)
  told_least d e =
      let said : (j : ℕ) → line j ≡ comes (In d) j = λ j. told j ∙ ap (λ (g : Forecast). comes g j) e in
      (said d ∙ comes_at d, λ j h. said j ∙ comes_not_before d j h)

  pub told_never : (f ≡ Never) ↔ ((j : ℕ) → line j ≡ false)
  told_never =
      (λ e j. told j ∙ ap (λ (g : Forecast). comes g j) e, λ h. comes_one f Never (λ k. sym (told k) ∙ h k))

-- what is forecast has come j clocks after a run of m exactly when it has come m + j clocks from now
pub shortened_comes : (m : ℕ) (f : Forecast) (j : ℕ) → comes (shortened m f) j ≡ comes f (m + j)
shortened_comes m Never j = refl
shortened_comes m (In d) j = go (dec_le d (m + j))
  where
    go : Dec (d ≤ m + j) → leb (d - m) j ≡ leb d (m + j)
    go (yes h) = le-leb (d - m) j (omega arith) ∙ sym (le-leb d (m + j) h)
    go (no h) = lt-leb (d - m) j (omega arith) ∙ sym (lt-leb d (m + j) (omega arith))

-- the sooner forecast has come as soon as one of the two has
pub sooner_comes : (f g : Forecast) (k : ℕ) → comes (sooner_of f g) k ≡ (comes f k || comes g k)
sooner_comes Never g k = refl
sooner_comes (In x) Never k = sym (or-false (leb x k))
sooner_comes (In x) (In y) k = go (dec_le x y) (dec_le x k) (dec_le y k)
  where
    go : Dec (x ≤ y) → Dec (x ≤ k) → Dec (y ≤ k) → comes (if leb x y then In x else In y) k ≡ (leb x k || leb y k)
    go (yes p) (yes q) d = rw (le-leb x y p, le-leb x k q)
    go (yes p) (no q) d = rw (le-leb x y p, lt-leb x k (omega arith), lt-leb y k (omega arith))
    go (no p) d (yes q) = rw (lt-leb x y (omega arith), le-leb y k q) (sym (or-true (leb x k)))
    go (no p) d (no q) = rw (lt-leb x y (omega arith), lt-leb y k (omega arith), lt-leb x k (omega arith))

-- a forecast behind an enable
pub gate_comes : (y : Bool) (f : Forecast) (k : ℕ) → comes (if y then f else Never) k ≡ (comes f k && y)
gate_comes true f k = sym (and-true (comes f k))
gate_comes false f k = sym (and-false (comes f k))

-- what is set already, or will be as forecast
pub stood_comes : (b : Bool) (f : Forecast) (k : ℕ) → (comes f k || b) ≡ comes (if b then In 0 else f) k
stood_comes true f k = or-true (comes f k) ∙ sym (leb-zero k)
stood_comes false f k = or-false (comes f k)

-- a forecast that is never, or at most n
abbrev pub AtMost : ℕ → Forecast → Type 0
AtMost n Never = Unit {0}
AtMost n (In d) = d ≤ n

pub most_sooner : (n : ℕ) (f g : Forecast) → AtMost n f → AtMost n g → AtMost n (sooner_of f g)
most_sooner n Never g a b = b
most_sooner n (In x) Never a b = a
most_sooner n (In x) (In y) a b = picked (AtMost n) (leb x y) a b

pub most_gated : (n : ℕ) (y : Bool) (f : Forecast) → AtMost n f → AtMost n (if y then f else Never)
most_gated n y f a = picked (AtMost n) y a tt

pub most_in : (n d : ℕ) (f : Forecast) → AtMost n f → f ≡ In d → d ≤ n
most_in n d Never a e = let z : ◌≡◌ {A = ℕ} 0 1 = cc in absurd (omega arith)
most_in n d (In x) a e = let z : x ≡ d = cc in omega arith

-- what is forecast, and at most m, is what looking ahead finds
first_never : (n k : ℕ) (p : ℕ → Bool) → ((j : ℕ) → p j ≡ false) → first_from n k p ≡ Never
unfolding first_from
first_never zero k p e = refl
first_never (suc n) k p e = rw (e k) (first_never n (suc k) p e)

first_in : (n k d : ℕ) (p : ℕ → Bool) → ((j : ℕ) → p j ≡ leb d j) → k ≤ d → d < n + k → first_from n k p ≡ In d
unfolding first_from
first_in zero k d p e h l = absurd (omega arith)
first_in (suc n) k d p e h l = go (dec_lt k d) (λ g. first_in n (suc k) d p e g (omega arith))
  where
    go : Dec (k < d) → (k < d → first_from n (suc k) p ≡ In d) → (if p k then In k else first_from n (suc k) p) ≡ In d
    go (yes g) below = rw (e k, lt-leb d k g) (below g)
    go (no g) below = rw (e k, le-leb d k (omega arith)) (ap In (omega arith))

pub first_is : (m : ℕ) (p : ℕ → Bool) (f : Forecast) → ((j : ℕ) → p j ≡ comes f j) → AtMost m f → first_from (suc m) 0 p ≡ f
first_is m p Never e a = first_never (suc m) 0 p e
first_is m p (In d) e a = first_in (suc m) 0 d p e (omega arith) (omega arith)
