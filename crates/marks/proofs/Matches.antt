-- How deep repeats stand, and whether they match, line by line.
use Rattle.std.specs.Prelude.{if◌then◌else◌}
use mathlib.Core.Path.{◌≡◌, refl, ap, sym, ◌∙◌}
use mathlib.Core.Bool.{Bool, true, false, ◌||◌}
use mathlib.Core.List.{List, [], ◌∷◌}
use Prim.Native.Nat.{ℕ, ◌+◌, ◌-◌, ◌<◌, ◌≤◌}
use native.Mathlib.Numerals.{add-one}
use native.Mathlib.Omega.{arith}
use borrow.Author.Tests.{lt-ltb, le-ltb, eq-eqb, ne_eqb}
use lib.Dec.{eqb, ltb}
use lib.ListN.{length, drop, get_or, drop_of_length-le}
use Rattle.marks.specs.Marks.{closes, opens}
use Rattle.marks.specs.Matches.{deeper, unmatched, match_of}
use lib.Seq.{drop-cons}
use Rattle.std.specs.Prelude.{Ok, Err}
use Rattle.marks.specs.declared.Refusal.TheVariants.{TooDeep, Unmatched}

-- a list from a place on
pub from_here : (xs : List ℕ) (i : ℕ) → i < length xs → drop i xs ≡ get_or xs i 0 ∷ drop (i + 1) xs
from_here xs i h = drop-cons xs i 0 h ∙ rw add-one

or_true : (b : Bool) → (b || true) ≡ true
or_true true = refl
or_true false = refl

-- ---- each kind of line

module _ {A : Type 0} (line : A → List ℕ) (d : ℕ) (x : A) (xs : List A) where
  pub at_close :
      closes (line x) ≡ true
      → (deeper line d (x ∷ xs) ≡ deeper line (d - 1) xs) × (unmatched line d (x ∷ xs) ≡ (eqb d 0 || unmatched line (d - 1) xs))
  unfolding deeper unmatched
  at_close c = (rw c, rw c)

  pub at_open :
      closes (line x) ≡ false → opens (line x) ≡ true
      → (deeper line d (x ∷ xs) ≡ (ltb 4 (d + 1) || deeper line (d + 1) xs)) × (unmatched line d (x ∷ xs) ≡ unmatched line (d + 1) xs)
  unfolding deeper unmatched
  at_open c h = (rw (c, h), rw (c, h))

  pub at_plain :
      closes (line x) ≡ false → opens (line x) ≡ false
      → (deeper line d (x ∷ xs) ≡ deeper line d xs) × (unmatched line d (x ∷ xs) ≡ unmatched line d xs)
  unfolding deeper unmatched
  at_plain c h = (rw (c, h), rw (c, h))

-- ---- so far

pub record Judging (line : ℕ → List ℕ) (table : List ℕ) (here depth : ℕ) (lost : Bool) : Type 0 where
  pub within : here ≤ length table
  pub level : depth ≤ 4
  pub deep : deeper line 0 table ≡ deeper line depth (drop here table)
  pub match : unmatched line 0 table ≡ (lost || unmatched line depth (drop here table))

module _ {line : ℕ → List ℕ} {table : List ℕ} {here depth : ℕ} {lost : Bool} (c : Judging line table here depth lost) (h : here < length table) where
  deep_here : deeper line 0 table ≡ deeper line depth (get_or table here 0 ∷ drop (here + 1) table)
  deep_here = c.deep ∙ ap (deeper line depth) (from_here table here h)

  match_here : unmatched line 0 table ≡ (lost || unmatched line depth (get_or table here 0 ∷ drop (here + 1) table))
  match_here = c.match ∙ ap (λ (xs : List ℕ). lost || unmatched line depth xs) (from_here table here h)

  -- a close with none open, and another
  pub judging_lost : closes (line (get_or table here 0)) ≡ true → depth ≡ 0 → Judging line table (here + 1) depth true
  judging_lost k z =
      let a = at_close line depth (get_or table here 0) (drop (here + 1) table) k in
      let y : depth - 1 ≡ depth = omega arith in
      record {
        within = omega arith;
        level = c.level;
        deep = deep_here ∙ a.0 ∙ ap (λ (d : ℕ). deeper line d (drop (here + 1) table)) y;
        match =
            match_here ∙ ap (λ (b : Bool). lost || b) (a.1 ∙ ap (λ (b : Bool). b || unmatched line (depth - 1) (drop (here + 1) table)) (eq-eqb depth 0 z))
            ∙ or_true lost;
      }

  pub judging_close : closes (line (get_or table here 0)) ≡ true → (depth ≡ 0 → ⊥) → Judging line table (here + 1) (depth - 1) lost
  judging_close k n =
      let a = at_close line depth (get_or table here 0) (drop (here + 1) table) k in
      let l = c.level in
      record {
        within = omega arith;
        level = omega arith;
        deep = deep_here ∙ a.0;
        match =
            match_here ∙ ap (λ (b : Bool). lost || b) (a.1 ∙ ap (λ (b : Bool). b || unmatched line (depth - 1) (drop (here + 1) table)) (ne_eqb depth 0 n));
      }

  -- a repeat opened inside four, and another
  pub judging_deep : closes (line (get_or table here 0)) ≡ false → opens (line (get_or table here 0)) ≡ true → depth ≡ 4 → Err TooDeep ≡ match_of line table
  unfolding match_of
  judging_deep k o z =
      let a = at_open line depth (get_or table here 0) (drop (here + 1) table) k o in
      let e : deeper line 0 table ≡ true = deep_here ∙ a.0 ∙ ap (λ (b : Bool). b || deeper line (depth + 1) (drop (here + 1) table)) (lt-ltb 4 (depth + 1) (omega arith)) in
      rw e

  pub judging_open :
      closes (line (get_or table here 0)) ≡ false → opens (line (get_or table here 0)) ≡ true → (depth ≡ 4 → ⊥)
      → Judging line table (here + 1) (depth + 1) lost
  judging_open k o n =
      let a = at_open line depth (get_or table here 0) (drop (here + 1) table) k o in
      let l = c.level in
      let f : depth ≤ 3 = below n l in
      record {
        within = omega arith;
        level = omega arith;
        deep = deep_here ∙ a.0 ∙ ap (λ (b : Bool). b || deeper line (depth + 1) (drop (here + 1) table)) (le-ltb 4 (depth + 1) (omega arith));
        match = match_here ∙ ap (λ (b : Bool). lost || b) a.1;
      }
    where
      below : (depth ≡ 4 → ⊥) → depth ≤ 4 → depth ≤ 3
      below n l = omega arith

  pub judging_line :
      closes (line (get_or table here 0)) ≡ false → opens (line (get_or table here 0)) ≡ false → Judging line table (here + 1) depth lost
  judging_line k o =
      let a = at_plain line depth (get_or table here 0) (drop (here + 1) table) k o in
      record { within = omega arith; level = c.level; deep = deep_here ∙ a.0; match = match_here ∙ ap (λ (b : Bool). lost || b) a.1 }

-- ---- at the end

pub no_deeper : {A : Type 0} (line : A → List ℕ) (d : ℕ) → deeper line d [] ≡ false
unfolding deeper
no_deeper line d = refl

pub still_open : {A : Type 0} (line : A → List ℕ) (d : ℕ) → unmatched line d [] ≡ ltb 0 d
unfolding unmatched
still_open line d = refl

pub judging_end :
    {line : ℕ → List ℕ} {table : List ℕ} {here depth : ℕ} {lost : Bool} → Judging line table here depth lost → length table ≤ here
    → match_of line table ≡ (if lost || ltb 0 depth then Err Unmatched else Ok tt)
unfolding match_of
judging_end {line} {table} {here} {depth} {lost} c h =
    let d : drop here table ≡ [] = drop_of_length-le table {i = here} h in
    let e : deeper line 0 table ≡ false = c.deep ∙ ap (deeper line depth) d ∙ no_deeper line depth in
    let f : unmatched line 0 table ≡ (lost || ltb 0 depth) =
    c.match ∙ ap (λ (xs : List ℕ). lost || unmatched line depth xs) d ∙ ap (λ (b : Bool). lost || b) (still_open line depth) in
    rw (e, f)

module _ {line : ℕ → List ℕ} {table : List ℕ} {here depth : ℕ} {lost : Bool} (c : Judging line table here depth lost) (h : length table ≤ here) where
  pub judging_end_lost : lost ≡ true → Err Unmatched ≡ match_of line table
  judging_end_lost e = sym (judging_end c h ∙ rw e)

  pub judging_end_open : lost ≡ false → 0 < depth → Err Unmatched ≡ match_of line table
  judging_end_open e g = sym (judging_end c h ∙ rw (e, lt-ltb _ _ g))

  pub judging_end_closed : lost ≡ false → depth ≤ 0 → Ok tt ≡ match_of line table
  judging_end_closed e g = sym (judging_end c h ∙ rw (e, le-ltb _ _ g))
