-- The words that every chip's rules are written with: if, after n clocks, and one less.
use Rattle.std.specs.Prelude.{if◌then◌else◌, ℕ, zero, suc, ◌-◌, eqb}

-- what n turns of the rule f leave of x
unfoldable pub after : {A : Type 0} → ℕ → (A → A) → A → A
after zero f x = x
after (suc n) f x = f (after n f x)

-- n turns, each by a rule of its own: the first is that of f 0
unfoldable pub in_turn : {A : Type 0} → ℕ → (ℕ → A → A) → A → A
in_turn zero f x = x
in_turn (suc n) f x = f n (in_turn n f x)

-- one less than c; after 0 the highest of the w numbers
abbrev pub lower : ℕ → ℕ → ℕ
lower w c = if eqb c 0 then w - 1 else c - 1
