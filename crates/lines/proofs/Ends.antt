-- Where a line ends.
use Rattle.std.specs.Prelude.{if◌then◌else◌}
use mathlib.Core.Path.{◌≡◌, refl, ap, sym, ◌∙◌}
use mathlib.Core.Bool.{Bool, true, false}
use mathlib.Core.List.{List, [], ◌∷◌, ◌++◌}
use Prim.Native.Nat.{ℕ, suc, ◌+◌, ◌-◌, ◌<◌, ◌≤◌, min}
use mathlib.Core.Bool.{not}
use Rattle.std.specs.List.{position, position_or_len}
use Rattle.std.specs.Prelude.{Option, None, Some}
use borrow.Author.Tests.{lt-ltb, le-ltb}
use native.Mathlib.Decide.{dec_le, dec_lt}
use native.Mathlib.Omega.{arith}
use lib.Dec.{eqb}
use lib.ListN.{length, take, drop, length-drop, drop_of_length-le}
use lib.Seq.{take_all, drop-drop}
use borrow.Author.Tests.{eqb-true, le-leb, lt-leb}
use Rattle.lines.specs.Lines.{ended, open_line, lines_of, Quiet, end_of, end_from}
use Rattle.lines.proofs.Lines.{quiet_ended, quiet_open, last_some, line_ended_lem, line_open}

-- ---- the first LF of a text

pub end_within : (s : List ℕ) → end_of s ≤ length s
end_within [] = omega arith
end_within (x ∷ s) = go (eqb x 10) (end_within s)
  where
    go : (t : Bool) → end_of s ≤ length s → (if t then 0 else suc (end_of s)) ≤ suc (length s)
    go true h = omega arith
    go false h = omega arith

-- no LF is before it
pub end_quiet : (s : List ℕ) → Quiet (take (end_of s) s)
unfolding Quiet
end_quiet [] = tt
end_quiet (x ∷ s) = go (eqb x 10) refl (end_quiet s)
  where
    go : (t : Bool) → eqb x 10 ≡ t → Quiet (take (end_of s) s) → Quiet (take (if t then 0 else suc (end_of s)) (x ∷ s))
    go true e q = tt
    go false e q = (e, q)

-- and there it is
pub end_split : (s : List ℕ) → end_of s < length s → s ≡ take (end_of s) s ++ 10 ∷ drop (suc (end_of s)) s
end_split [] h = absurd (omega arith)
end_split (x ∷ s) h = go (eqb x 10) refl (end_split s) h
  where
    go :
        (t : Bool) → eqb x 10 ≡ t → (end_of s < length s → s ≡ take (end_of s) s ++ 10 ∷ drop (suc (end_of s)) s)
        → (if t then 0 else suc (end_of s)) < suc (length s)
        → x ∷ s ≡ take (if t then 0 else suc (end_of s)) (x ∷ s) ++ 10 ∷ drop (suc (if t then 0 else suc (end_of s))) (x ∷ s)
    go true e f h = ap (λ (y : ℕ). y ∷ s) (eqb-true x 10 e)
    go false e f h = ap {B = List ℕ} (λ r. x ∷ r) (f (omega arith))

pub end_ends : (s : List ℕ) → end_of s < length s → ended [] s ≡ take (end_of s) s ∷ ended [] (drop (suc (end_of s)) s)
end_ends s h = ap (ended []) (end_split s h) ∙ line_ended_lem (take (end_of s) s) (drop (suc (end_of s)) s) (end_quiet s)

-- the first line of a text that has one, and the others
pub end_first : (s : List ℕ) → 0 < length s → lines_of s ≡ take (end_of s) s ∷ lines_of (drop (suc (end_of s)) s)
end_first s h = go (dec_lt (end_of s) (length s))
  where
    go : Dec (end_of s < length s) → lines_of s ≡ take (end_of s) s ∷ lines_of (drop (suc (end_of s)) s)
    go (yes k) =
        let o : open_line [] s ≡ open_line [] (drop (suc (end_of s)) s) =
        ap (open_line []) (end_split s k) ∙ line_open (take (end_of s) s) (drop (suc (end_of s)) s) (end_quiet s) in
        rw (o, end_ends s k)
    go (no k) =
        let all : take (end_of s) s ≡ s = take_all (end_of s) s (omega arith) in
        let q : Quiet s = rw all at (end_quiet s) in
        let none : drop (suc (end_of s)) s ≡ [] = drop_of_length-le s {i = suc (end_of s)} (omega arith) in
        rw (quiet_ended [] s q, quiet_open [] s q, last_some s h, all, none)

-- ---- and so from a place on

module _ (s : List ℕ) (from : ℕ) where
  inside : from ≤ length s → end_from s from ≡ from + end_of (drop from s)
  unfolding end_from
  inside h = rw (le-leb from (length s) h)

  beyond : length s < from → end_from s from ≡ length s
  unfolding end_from
  beyond h = rw (lt-leb from (length s) h)

  pub from_within : (end_from s from ≤ length s) × (from ≤ length s → from ≤ end_from s from)
  from_within = (go (dec_le from (length s)), λ h. omega (arith, inside h))
    where
      go : Dec (from ≤ length s) → end_from s from ≤ length s
      go (yes h) = omega (arith, inside h, end_within (drop from s), length-drop from s)
      go (no h) = omega (arith, beyond (omega arith))

  pub from_found :
      end_from s from < length s
      → ended [] (drop from s) ≡ take (end_from s from - from) (drop from s) ∷ ended [] (drop (end_from s from + 1) s)
  from_found h = go (dec_le from (length s))
    where
      go :
          Dec (from ≤ length s)
          → ended [] (drop from s) ≡ take (end_from s from - from) (drop from s) ∷ ended [] (drop (end_from s from + 1) s)
      go (yes k) =
          let e = inside k in
          let size : end_from s from - from ≡ end_of (drop from s) = omega arith in
          let next : end_from s from + 1 ≡ from + suc (end_of (drop from s)) = omega arith in
          let found : end_of (drop from s) < length (drop from s) = simp length-drop (omega arith) in
          rw (size, next, ← drop-drop (suc (end_of (drop from s))) from s) (end_ends (drop from s) found)
      go (no k) = absurd (omega (arith, beyond (omega arith)))

  pub from_first :
      from < length s → lines_of (drop from s) ≡ take (end_from s from - from) (drop from s) ∷ lines_of (drop (end_from s from + 1) s)
  from_first h =
      let e = inside (omega arith) in
      let size : end_from s from - from ≡ end_of (drop from s) = omega arith in
      let next : end_from s from + 1 ≡ from + suc (end_of (drop from s)) = omega arith in
      rw (size, next, ← drop-drop (suc (end_of (drop from s))) from s) (end_first (drop from s) (simp length-drop (omega arith)))

  pub from_missing : end_from s from ≡ length s → Quiet (drop from s)
  unfolding Quiet
  from_missing e = go (dec_le from (length s))
    where
      go : Dec (from ≤ length s) → Quiet (drop from s)
      go (yes k) =
          let all : length (drop from s) ≤ end_of (drop from s) = simp length-drop (omega (arith, inside k)) in
          rw (take_all (end_of (drop from s)) (drop from s) all) at (end_quiet (drop from s))
      go (no k) = rw (drop_of_length-le s {i = from} (omega arith)) tt

-- by the library's word for it
end_position : (s : List ℕ) → end_of s ≡ position_or_len (λ b. eqb b 10) s
end_position [] = refl
end_position (x ∷ s) = go (eqb x 10) (end_position s)
  where
    go : (t : Bool) → end_of s ≡ position_or_len (λ b. eqb b 10) s → (if t then 0 else suc (end_of s)) ≡ (if not t then 1 + position_or_len (λ b. eqb b 10) s else 0)
    go true e = refl
    go false e = omega (arith, e)

-- what a search for an LF says of the end, which began at `from` or, where that is beyond the text, at its end
abbrev pub end_by : ℕ → ℕ → Option ℕ → ℕ
end_by from size (Some n) = from + n
end_by from size None = size

pub end_from_is :
    (s : List ℕ) (from m : ℕ) → m ≡ min from (length s) → (o : Option ℕ) → o ≡ position (λ b. eqb b 10) (take (length s - m) (drop m s))
    → end_by m (length s) o ≡ end_from s from
end_from_is s from m e o f = rw f (rw (take_all (length s - m) (drop m s) (simp length-drop (omega arith))) (go (dec_le from (length s)) (dec_lt (end_of (drop m s)) (length (drop m s)))))
  where
    by_end : end_of (drop m s) ≡ position_or_len (λ b. eqb b 10) (drop m s)
    by_end = end_position (drop m s)

    more : (end_of (drop m s) < length (drop m s) → ⊥) → length (drop m s) ≤ end_of (drop m s)
    more k = omega arith

    go :
        Dec (from ≤ length s) → Dec (end_of (drop m s) < length (drop m s))
        → end_by m (length s) (position (λ b. eqb b 10) (drop m s)) ≡ end_from s from
    go (yes h) (yes k) = let q : m ≡ from = omega arith in
        rw (← by_end, lt-ltb _ _ k) (rw q (sym (inside s from h)))
    go (yes h) (no k) = let q : m ≡ from = omega arith in
        rw (← by_end, le-ltb (end_of (drop m s)) (length (drop m s)) (omega arith)) (let w : length (drop from s) ≤ end_of (drop from s) = rw q at (more k) in omega (arith, inside s from h, end_within (drop from s), length-drop from s))
    go (no h) (yes k) = absurd (omega (arith, length-drop m s))
    go (no h) (no k) =
        rw (← by_end, le-ltb (end_of (drop m s)) (length (drop m s)) (omega arith)) (sym (beyond s from (omega arith)))
