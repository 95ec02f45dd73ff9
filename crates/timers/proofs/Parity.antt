-- A level that is inverted q + 1 times, by whether q is odd.
use Rattle.std.proofs.Common.{◌≡◌, ℕ, zero, suc, ◌%◌, ◌<◌, Bool, true, false, not, eqb, refl, ap, ◌∙◌, arith, eq-eqb, ne_eqb}
use mathlib.Core.Bool.{beq}
use native.Mathlib.Decide.{dec_lt}
use Rattle.clocks.specs.Clocks.{after}

odd_suc : (q : ℕ) → eqb (suc q % 2) 1 ≡ not (eqb (q % 2) 1)
odd_suc q = go (dec_lt (q % 2) 1)
  where
    go : Dec (q % 2 < 1) → eqb (suc q % 2) 1 ≡ not (eqb (q % 2) 1)
    go (yes h) = rw (eq-eqb (suc q % 2) 1 (omega arith), ne_eqb (q % 2) 1 (omega arith)) refl
    go (no h) = rw (ne_eqb (suc q % 2) 1 (omega arith), eq-eqb (q % 2) 1 (omega arith)) refl

beq_not : (v b : Bool) → beq v (not b) ≡ not (beq v b)
beq_not true true = refl
beq_not true false = refl
beq_not false true = refl
beq_not false false = refl

pub turns_round : (q : ℕ) (v : Bool) → beq v (eqb (q % 2) 1) ≡ after (suc q) not v
unfolding after
turns_round zero true = refl
turns_round zero false = refl
turns_round (suc q) v = ap (beq v) (odd_suc q) ∙ beq_not v (eqb (q % 2) 1) ∙ ap not (turns_round q v)
