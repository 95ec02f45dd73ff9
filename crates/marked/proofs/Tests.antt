-- Tests that compute, and what follows from each that is passed.
use Rattle.std.specs.Prelude.{Option, None, Some, is_none}
use mathlib.Core.Path.{◌≡◌, refl, sym, ap, ◌∙◌}
use mathlib.Core.Bool.{Bool, true, false, ◌&&◌, false≢true}
use mathlib.Core.List.{List, [], ◌∷◌}
use Prim.Native.Nat.{ℕ, zero, suc, ◌+◌, ◌≤◌}
use native.Mathlib.Nat.{add-zero, zero-add}
use native.Mathlib.Omega.{arith}
use lib.Dec.{eqb}
use borrow.Author.Tests.{eqb-true}
use Rattle.clocks.specs.Clocks.{after}
use Rattle.clocks.specs.Forecasts.{comes}
use Rattle.clocks.specs.declared.Forecast.{Forecast}
use Rattle.clocks.specs.declared.Forecast.TheVariants.{Never, In}
use Rattle.clocks.proofs.Clocks.{after_add}
use Rattle.clocks.proofs.Tests.{both}
use Rattle.chips.specs.Chips.{Chip, answer, next}
use Rattle.marked.specs.Cases.{Leads}
use Rattle.marked.specs.Demands.{Every}

-- what is no value is None
pub none_is : {A : Type 0} (o : Option A) → is_none o ≡ true → o ≡ None
none_is None e = refl
none_is (Some x) e = absurd (false≢true e)

-- calls that lead, none refused, to a record that passes p; which of them are typed is tested too
module _ (C : Chip) (typed : C.Call → Bool) (is-typed : (c : C.Call) → typed c ≡ true → C.Typed c) (p : C.State → Bool) where
  unfoldable pub leads : List C.Call → C.State → Bool
  leads [] v = p v
  leads (c ∷ cs) v = typed c && is_none (C.refusal (answer C c v)) && leads cs (next C c v)

  pub leads_holds :
      (P : C.State → Type 0) → ((v : C.State) → p v ≡ true → P v)
      → (cs : List C.Call) (v : C.State) → leads cs v ≡ true → Leads C P cs v
  unfolding leads Leads
  leads_holds P h [] v e = h v e
  leads_holds P h (c ∷ cs) v e =
      let b = both (typed c && is_none (C.refusal (answer C c v))) (leads cs (next C c v)) e in
      let a = both (typed c) (is_none (C.refusal (answer C c v))) b.0 in
      (is-typed c a.0, none_is _ a.1, leads_holds P h cs (next C c v) b.1)

-- every entry of a list passes p
module _ {A : Type 0} (p : A → Bool) where
  unfoldable pub every : List A → Bool
  every [] = true
  every (x ∷ xs) = p x && every xs

  pub every_holds : (P : A → Type 0) → ((x : A) → p x ≡ true → P x) → (xs : List A) → every xs ≡ true → Every P xs
  unfolding every Every
  every_holds P h [] e = tt
  every_holds P h (x ∷ xs) e = let b = both (p x) (every xs) e in (h x b.0, every_holds P h xs b.1)

-- what f leaves of v passes p after each of n more turns, where m have gone by
module _ {R : Type 0} (f : R → R) (p : ℕ → R → Bool) where
  unfoldable pub along : ℕ → ℕ → R → Bool
  along zero m v = p m v
  along (suc n) m v = p m v && along n (suc m) (f v)

  turn_first : (k : ℕ) (v : R) → after k f (f v) ≡ after (suc k) f v
  unfolding after
  turn_first k v = let e : suc k ≡ 1 + k = omega arith in sym (ap (λ (j : ℕ). after j f v) e ∙ after_add 1 k f v)

  along_from : (n m : ℕ) (v : R) → along n m v ≡ true → (k : ℕ) → k ≤ n → p (m + k) (after k f v) ≡ true
  unfolding along after
  along_from zero m v e zero h = rw add-zero e
  along_from zero m v e (suc k) h = absurd (omega arith)
  along_from (suc n) m v e zero h = rw add-zero (both (p m v) (along n (suc m) (f v)) e).0
  along_from (suc n) m v e (suc k) h =
      let b = both (p m v) (along n (suc m) (f v)) e in
      let z : m + suc k ≡ suc m + k = omega arith in
      ap (λ (j : ℕ). p j (after (suc k) f v)) z
      ∙ ap (p (suc m + k)) (sym (turn_first k v))
      ∙ along_from n (suc m) (f v) b.1 k (omega arith)

  pub along_holds : (n : ℕ) (v : R) → along n 0 v ≡ true → (k : ℕ) → k ≤ n → p k (after k f v) ≡ true
  along_holds n v e k h = ap (λ (j : ℕ). p j (after k f v)) (sym (zero-add k)) ∙ along_from n 0 v e k h

-- two forecasts that are the same
abbrev pub same : Forecast → Forecast → Bool
same Never Never = true
same Never (In y) = false
same (In x) Never = false
same (In x) (In y) = eqb x y

same_is : (f g : Forecast) → same f g ≡ true → f ≡ g
same_is Never Never e = refl
same_is Never (In y) e = absurd (false≢true e)
same_is (In x) Never e = absurd (false≢true e)
same_is (In x) (In y) e = ap In (eqb-true x y e)

pub same_comes : (f g : Forecast) → same f g ≡ true → (k : ℕ) → comes f k ≡ comes g k
same_comes f g e k = ap (λ (h : Forecast). comes h k) (same_is f g e)
