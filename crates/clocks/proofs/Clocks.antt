-- n turns of a rule: of a sum, of a rule that moves one part of a record; and the count below a count at any width.
use mathlib.Core.Path.{◌≡◌, refl, sym, ap, ap₂, ◌∙◌}
use mathlib.Core.Bool.{Bool, true, false}
use Prim.Native.Nat.{ℕ, zero, suc, ◌+◌, ◌%◌, ◌<◌}
use native.Mathlib.Nat.{add-zero, add-suc, mod-eq_of_lt, mod_self}
use native.Mathlib.Decide.{dec_lt}
use native.Mathlib.Omega.{arith}
use borrow.Author.Tests.{eq-eqb, ne_eqb}
use Rattle.clocks.specs.Clocks.{after, in_turn, lower}

-- m turns and then n are m + n
pub after_add : {A : Type 0} (m n : ℕ) (f : A → A) (x : A) → after (m + n) f x ≡ after n f (after m f x)
unfolding after
after_add m zero f x = rw add-zero
after_add m (suc n) f x = rw add-suc (ap f (after_add m n f x))

-- what every turn keeps, n turns keep
pub after_keeps :
    {A : Type 0} (P : A → Type 0) (f : A → A) → ((x : A) → P x → P (f x)) → (n : ℕ) (x : A) → P x → P (after n f x)
unfolding after
after_keeps P f h zero x p = p
after_keeps P f h (suc n) x p = h (after n f x) (after_keeps P f h n x p)

pub turns_keep :
    {A : Type 0} (P : A → Type 0) (f : ℕ → A → A) → ((k : ℕ) (x : A) → P x → P (f k x)) → (n : ℕ) (x : A) → P x → P (in_turn n f x)
unfolding in_turn
turns_keep P f h zero x p = p
turns_keep P f h (suc n) x p = h n (in_turn n f x) (turns_keep P f h n x p)

-- a rule that leaves x leaves it for good
pub after_still : {A : Type 0} (f : A → A) (x : A) → f x ≡ x → (n : ℕ) → after n f x ≡ x
unfolding after
after_still f x e zero = refl
after_still f x e (suc n) = ap f (after_still f x e n) ∙ e

-- two rules that do the same to every P, which the second keeps
pub after_agree :
    {A : Type 0} (P : A → Type 0) (f g : A → A) → ((x : A) → P x → f x ≡ g x) → ((x : A) → P x → P (g x))
    → (n : ℕ) (x : A) → P x → after n f x ≡ after n g x
unfolding after
after_agree P f g same keeps zero x p = refl
after_agree P f g same keeps (suc n) x p =
    ap f (after_agree P f g same keeps n x p) ∙ same (after n g x) (after_keeps P g keeps n x p)

-- two rules that do not get in each other's way: n turns of both are n of the one and then n of the other
module _ {A : Type 0} (f g : A → A) (apart : (x : A) → f (g x) ≡ g (f x)) where
  past : (n : ℕ) (x : A) → g (after n f x) ≡ after n f (g x)
  unfolding after
  past zero x = refl
  past (suc n) x = sym (apart (after n f x)) ∙ ap f (past n x)

  pub after_beside : (n : ℕ) (x : A) → after n (λ y. f (g y)) x ≡ after n f (after n g x)
  unfolding after
  after_beside zero x = refl
  after_beside (suc n) x = ap f (ap g (after_beside n x) ∙ past n (after n g x))

-- a rule that moves one part of a record, and nothing else of it
module _ {S P : Type 0} (f : P → P) (get : S → P) (put : S → P → S) where
  pub record Part : Type 0 where
    pub put_get : (s : S) → put s (get s) ≡ s
    pub put_put : (s : S) (p q : P) → put (put s p) q ≡ put s q
    pub get_put : (s : S) → get (put s (f (get s))) ≡ f (get s)

  abbrev pub moving : S → S
  moving s = put s (f (get s))

  module _ (L : Part) where
    pub get_after : (n : ℕ) (s : S) → get (after n moving s) ≡ after n f (get s)
    unfolding after
    get_after zero s = refl
    get_after (suc n) s = L.get_put (after n moving s) ∙ ap f (get_after n s)

    pub part_after : (n : ℕ) (s : S) → after n moving s ≡ put s (after n f (get s))
    unfolding after
    part_after zero s = sym (L.put_get s)
    part_after (suc n) s = ap₂ put (part_after n s) (ap f (get_after n s)) ∙ L.put_put s _ _

-- two parts, each with its rule, and neither rule touches the other part: n turns of both, side by side, are n turns of each
module _ {S P Q : Type 0} (f : P → P) (get : S → P) (put : S → P → S) (g : Q → Q) (get' : S → Q) (put' : S → Q → S) where
  pub record Apart : Type 0 where
    pub first : Part f get put
    pub second : Part g get' put'
    pub get_past : (s : S) (q : Q) → get (put' s q) ≡ get s
    pub get'_past : (s : S) (p : P) → get' (put s p) ≡ get' s
    pub put_past : (s : S) (p : P) (q : Q) → put (put' s q) p ≡ put' (put s p) q

  abbrev pub moving_both : S → S
  moving_both s = put (put' s (g (get' s))) (f (get s))

  module _ (L : Apart) where
    in_order : (s : S) → moving_both s ≡ moving f get put (moving g get' put' s)
    in_order s = let q = g (get' s) in ap (λ (p : P). put (put' s q) (f p)) (sym (L.get_past s q))

    beside : (s : S) → moving f get put (moving g get' put' s) ≡ moving g get' put' (moving f get put s)
    beside s =
        let p = f (get s) in
        let q = g (get' s) in
        sym (in_order s) ∙ L.put_past s p q ∙ ap (λ (y : Q). put' (put s p) (g y)) (sym (L.get'_past s p))

    pub both_after : (n : ℕ) (s : S) → after n moving_both s ≡ put (put' s (after n g (get' s))) (after n f (get s))
    both_after n s =
        let q = after n g (get' s) in
        after_agree (λ s. Unit {0}) moving_both _ (λ s u. in_order s) (λ s u. tt) n s tt
        ∙ after_beside (moving f get put) (moving g get' put') beside n s
        ∙ ap (after n (moving f get put)) (part_after g get' put' L.second n s)
        ∙ part_after f get put L.first n (put' s q)
        ∙ ap (λ (p : P). put (put' s q) (after n f p)) (L.get_past s q)

-- calls of a rule that leave the record where a test of it fails: n of them come to what one call for n turns leaves
module _ {A : Type 0} (well : A → Bool) (f call : A → A)
    (accepts : (x : A) → well x ≡ true → call x ≡ f x) (refuses : (x : A) → well x ≡ false → call x ≡ x)
    (keeps : (x : A) → well x ≡ true → well (f x) ≡ true) where
  pub run_calls : (n : ℕ) (x y : A) → (well x ≡ true → y ≡ after n f x) → (well x ≡ false → y ≡ x) → y ≡ after n call x
  run_calls n x y run none = go (well x) refl
    where
      go : (b : Bool) → well x ≡ b → y ≡ after n call x
      go true w = run w ∙ sym (after_agree (λ y. well y ≡ true) call f accepts keeps n x w)
      go false w = none w ∙ sym (after_still call x (refuses x w) n)

-- a wrapping subtraction of one gives the count below
pub lowered : (w r c : ℕ) → r < w → (r + 1) % w ≡ c → r ≡ lower w c
lowered w r c h e = go (dec_lt (r + 1) w)
  where
    go : Dec (r + 1 < w) → r ≡ lower w c
    go (yes l) = let d : c ≡ r + 1 = sym e ∙ mod-eq_of_lt l in rw (ne_eqb c 0 (omega arith)) (omega arith)
    go (no l) =
        let f : r + 1 ≡ w = omega arith in
        let d : c ≡ 0 = sym e ∙ rw f (mod_self w) in
        rw (eq-eqb c 0 d) (omega arith)
