-- The line that a reply is, and what a buffer holds after it was put there.
use Rattle.std.specs.Prelude.{ℕ, ◌+◌, ◌<◌, ◌≤◌, ◌≡◌, List, [], ◌∷◌, ◌++◌, length, take, drop}
use Rattle.replies.specs.Hex.{hex_of, long_of}
use Rattle.calls.specs.Refusals.{number_of}
use Rattle.replies.specs.declared.Reply.{Reply}
use Rattle.replies.specs.declared.Reply.TheVariants.{Refused, RefusedAs, Done, Data, Read, Number}

-- a refusal is its number alone; all else is 00, the line byte, and what was read, with the mask where there is one, or a number: a forecast,
-- or turns
unfoldable pub told : Reply → List ℕ
told (Refused r) = hex_of (number_of r)
told (RefusedAs n) = hex_of n
told (Done l) = hex_of 0 ++ hex_of l
told (Data l b) = hex_of 0 ++ hex_of l ++ hex_of b
told (Read l b m) = hex_of 0 ++ hex_of l ++ hex_of b ++ hex_of m
told (Number l n) = hex_of 0 ++ hex_of l ++ long_of n

-- each line ends in LF
unfoldable pub render : Reply → List ℕ
render r = told r ++ 10 ∷ []

-- the line of a refusal's number
unfoldable pub refusal_line : ℕ → List ℕ
refusal_line n = hex_of n ++ 10 ∷ []

-- a text put into a buffer at a place: what was before it is unchanged, r is where it ends, and the rest is untouched
pub record Appended (before now : List ℕ) (at r : ℕ) (x : List ℕ) : Type 0 where
  pub place : r ≡ at + length x
  pub text : take r now ≡ take at before ++ x
  pub rest : drop r now ≡ drop r before

-- x is put where 13 bytes are free after the first `at`, which every reply fits; else nothing is
pub record Put (before now : List ℕ) (at r : ℕ) (x : List ℕ) : Type 0 where
  pub fits : at + 13 ≤ length before → Appended before now at r x
  pub full : length before < at + 13 → (now ≡ before) × (r ≡ at)
