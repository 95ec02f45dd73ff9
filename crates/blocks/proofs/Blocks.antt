-- What lines write, one by one.
use mathlib.Core.Path.{◌≡◌, refl, ap, sym, ◌∙◌}
use mathlib.Core.Bool.{true, false, true≢false}
use mathlib.Core.List.{List, [], ◌∷◌, ◌++◌}
use Prim.Native.Nat.{ℕ, zero, suc, ◌+◌, ◌-◌, ◌<◌, ◌≤◌}
use native.Mathlib.Numerals.{add-one}
use native.Mathlib.Nat.{sub-zero}
use native.Mathlib.Omega.{arith}
use Rattle.std.specs.Option.{option_map_or}
use Rattle.std.specs.Prelude.{Option, None, Some, is_some, unwrap_or}
use Rattle.clocks.proofs.Options.{none_some}
use lib.ListN.{length, take, drop, get_or, drop_of_length-le, length-drop}
use lib.Seq.{take-length, drop-drop}
use Rattle.marks.specs.Marks.{closes, turns_of}
use Rattle.marks.proofs.Matches.{from_here}
use Rattle.blocks.specs.Blocks.{times, first, others, line_before, repeated, blocks_of, line_out, behind}

module _ {A : Type 0} (line : A → List ℕ) where
  -- the three kinds of line
  pub closing : (k : ℕ) (x : A) (xs : List A) → closes (line x) ≡ true → blocks_of line k (x ∷ xs) ≡ [] ∷ blocks_of line (k + 1) xs
  unfolding blocks_of
  closing k x xs c = rw c

  pub opening :
      (k : ℕ) (x : A) (xs : List A) (n : ℕ) → closes (line x) ≡ false → turns_of k (line x) ≡ Some n
      → blocks_of line k (x ∷ xs) ≡ repeated n (blocks_of line (k - 1) xs)
  unfolding blocks_of
  opening k x xs n c h = rw (c, h)

  pub plain :
      (k : ℕ) (x : A) (xs : List A) → closes (line x) ≡ false → turns_of k (line x) ≡ None
      → blocks_of line k (x ∷ xs) ≡ line_before x (blocks_of line k xs)
  unfolding blocks_of
  plain k x xs c h = rw (c, h)

  -- what a line that does not close writes comes first
  pub by_line :
      (k : ℕ) (x : A) (xs : List A) → closes (line x) ≡ false
      → (first (blocks_of line k (x ∷ xs)) ≡ line_out line k x xs ++ first (behind line k x xs))
      × (others (blocks_of line k (x ∷ xs)) ≡ others (behind line k x xs))
  unfolding blocks_of line_out behind
  by_line k x xs c = rw c (go (turns_of k (line x)))
    where
      go :
          (o : Option ℕ)
          → (first (option_map_or (λ n. repeated n (blocks_of line (k - 1) xs)) o (line_before x (blocks_of line k xs)))
          ≡ option_map_or (λ n. times n (first (blocks_of line (k - 1) xs))) o (x ∷ []) ++ first (option_map_or (λ n. others (blocks_of line (k - 1) xs)) o (blocks_of line k xs)))
          × (others (option_map_or (λ n. repeated n (blocks_of line (k - 1) xs)) o (line_before x (blocks_of line k xs)))
          ≡ others (option_map_or (λ n. others (blocks_of line (k - 1) xs)) o (blocks_of line k xs)))
      go None = (refl, refl)
      go (Some n) = (refl, refl)

  pub opens_out :
      (k : ℕ) (x : A) (xs : List A) (n : ℕ) → turns_of k (line x) ≡ Some n
      → (line_out line k x xs ≡ times n (first (blocks_of line (k - 1) xs))) × (behind line k x xs ≡ others (blocks_of line (k - 1) xs))
  unfolding line_out behind
  opens_out k x xs n h = (rw h, rw h)

  pub plain_out : (k : ℕ) (x : A) (xs : List A) → turns_of k (line x) ≡ None → (line_out line k x xs ≡ x ∷ []) × (behind line k x xs ≡ blocks_of line k xs)
  unfolding line_out behind
  plain_out k x xs h = (rw h, rw h)

  pub no_lines : (k : ℕ) → blocks_of line k [] ≡ []
  unfolding blocks_of
  no_lines k = refl

-- a line that opens has a level left
pub opens_level : (k : ℕ) (l : List ℕ) (n : ℕ) → turns_of k l ≡ Some n → 0 < k
unfolding turns_of
opens_level zero l n h = absurd (none_some n h)
opens_level (suc k) l n h = omega arith

pub is_the : (o : Option ℕ) → is_some o ≡ true → o ≡ Some (unwrap_or o 0)
is_the None h = absurd (true≢false (sym h))
is_the (Some n) h = refl

pub is_none : (o : Option ℕ) → is_some o ≡ false → o ≡ None
is_none None h = refl
is_none (Some n) h = absurd (true≢false h)

-- ---- behind a block

-- what is outside d blocks
pub outside : {A : Type 0} → ℕ → List (List A) → List (List A)
outside zero bs = bs
outside (suc d) bs = outside d (others bs)

out_of : {A : Type 0} (d : ℕ) (bs : List (List A)) → outside (d + 1) bs ≡ outside d (others bs)
unfolding outside
out_of d bs = rw add-one

none_outside : {A : Type 0} (d : ℕ) → outside {A = A} d [] ≡ []
unfolding outside
none_outside zero = refl
none_outside (suc d) = none_outside d

-- on the way through the lines from the start of a block to its close, in `depth` blocks inside it
pub record Passing (line : ℕ → List ℕ) (table : List ℕ) (levels here depth : ℕ) : Type 0 where
  pub within : here ≤ length table
  pub level : depth ≤ levels
  pub same : outside (depth + 1) (blocks_of line (levels - depth) (drop here table)) ≡ others (blocks_of line levels table)

pub passing_start : (line : ℕ → List ℕ) (table : List ℕ) (levels : ℕ) → Passing line table levels 0 0
unfolding outside
passing_start line table levels =
    record {
      within = omega arith;
      level = omega arith;
      same = out_of 0 (blocks_of line (levels - 0) table) ∙ rw sub-zero;
    }

module _ {line : ℕ → List ℕ} {table : List ℕ} {levels here depth : ℕ} (c : Passing line table levels here depth) where
  -- what is outside, with the line here cut off
  rest_is :
      (bs : List (List ℕ)) → here < length table → blocks_of line (levels - depth) (get_or table here 0 ∷ drop (here + 1) table) ≡ bs
      → outside depth (others bs) ≡ others (blocks_of line levels table)
  rest_is bs h e =
      sym (out_of depth bs) ∙ ap (outside (depth + 1)) (sym (ap (blocks_of line (levels - depth)) (from_here table here h) ∙ e)) ∙ c.same

  pub passing_close :
      here < length table → closes (line (get_or table here 0)) ≡ true → (depth ≡ 0 → ⊥) → Passing line table levels (here + 1) (depth - 1)
  passing_close h k n =
      let l = c.level in
      let z : depth - 1 + 1 ≡ depth = omega arith in
      let y : levels - (depth - 1) ≡ levels - depth + 1 = omega arith in
      record {
        within = omega arith;
        level = omega arith;
        same = rw (z, y) (rest_is _ h (closing line (levels - depth) _ _ k));
      }

  pub passing_shut :
      here < length table → closes (line (get_or table here 0)) ≡ true → depth ≡ 0
      → (here + 1 ≤ length table)
      × (blocks_of line (levels + 1) (drop (here + 1) table) ≡ others (blocks_of line levels table))
  unfolding outside
  passing_shut h k n =
      let y : levels + 1 ≡ levels - depth + 1 = omega arith in
      let r = rest_is _ h (closing line (levels - depth) _ _ k) in
      (omega arith, rw y (sym (ap (λ (d : ℕ). outside d (blocks_of line (levels - depth + 1) (drop (here + 1) table))) n) ∙ r))

  passing_opened :
      (m : ℕ) → here < length table → closes (line (get_or table here 0)) ≡ false → turns_of (levels - depth) (line (get_or table here 0)) ≡ Some m
      → Passing line table levels (here + 1) (depth + 1)
  passing_opened m h k n =
      let o = opens_level (levels - depth) _ m n in
      let y : levels - (depth + 1) ≡ levels - depth - 1 = omega arith in
      let bs = blocks_of line (levels - depth - 1) (drop (here + 1) table) in
      record {
        within = omega arith;
        level = omega arith;
        same = rw y (out_of (depth + 1) bs ∙ out_of depth (others bs) ∙ rest_is _ h (opening line (levels - depth) _ _ m k n));
      }

  pub passing_open :
      here < length table → closes (line (get_or table here 0)) ≡ false → is_some (turns_of (levels - depth) (line (get_or table here 0))) ≡ true
      → Passing line table levels (here + 1) (depth + 1)
  passing_open h k n = passing_opened _ h k (is_the _ n)

  pub passing_line :
      here < length table → closes (line (get_or table here 0)) ≡ false → is_some (turns_of (levels - depth) (line (get_or table here 0))) ≡ false
      → Passing line table levels (here + 1) depth
  passing_line h k n =
      record {
        within = omega arith;
        level = c.level;
        same = out_of depth _ ∙ rest_is _ h (plain line (levels - depth) _ _ k (is_none _ n));
      }

  pub passing_end :
      length table ≤ here
      → (length table ≤ length table) × (blocks_of line (levels + 1) (drop (length table) table) ≡ others (blocks_of line levels table))
  passing_end h =
      let i = c.within in
      let d : drop here table ≡ [] = drop_of_length-le table {i = here} h in
      let d' : drop (length table) table ≡ [] = drop_of_length-le table {i = length table} (omega arith) in
      let e : blocks_of line (levels - depth) (drop here table) ≡ [] = ap (blocks_of line (levels - depth)) d ∙ no_lines line (levels - depth) in
      let e' : blocks_of line (levels + 1) (drop (length table) table) ≡ [] = ap (blocks_of line (levels + 1)) d' ∙ no_lines line (levels + 1) in
      (omega arith, e' ∙ sym (none_outside (depth + 1)) ∙ ap (outside (depth + 1)) (sym e) ∙ c.same)

-- of a table from a place on: what lies behind its first n lines, in the whole table
pub passed :
    (line : ℕ → List ℕ) (table : List ℕ) (at levels n m : ℕ)
    → let t = take (length table - at) (drop at table) in
    at ≤ length table → m ≡ at + n → (n ≤ length t) × (blocks_of line (levels + 1) (drop n t) ≡ others (blocks_of line levels t))
    → ((at ≤ m) × (m ≤ length table)) × (blocks_of line (levels + 1) (drop m table) ≡ others (blocks_of line levels (drop at table)))
passed line table at levels n m h e p =
    let t = take (length table - at) (drop at table) in
    let all : t ≡ drop at table = ap (λ (k : ℕ). take k (drop at table)) (sym (length-drop at table)) ∙ take-length (drop at table) in
    let size : length t ≡ length table - at = ap length all ∙ length-drop at table in
    let rest : drop m table ≡ drop n t = ap (λ (k : ℕ). drop k table) e ∙ sym (drop-drop n at table) ∙ sym (ap (drop n) all) in
    let few = p.0 in
    ((omega arith, omega arith), ap (blocks_of line (levels + 1)) rest ∙ p.1 ∙ ap (λ (xs : List ℕ). others (blocks_of line levels xs)) all)
