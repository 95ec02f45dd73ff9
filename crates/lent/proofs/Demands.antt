-- The proofs of specs/Demands.antt.
use Rattle.std.specs.Prelude.{if◌then◌else◌, Ok, Err}
use mathlib.Core.Path.{◌≡◌, refl, sym, ap, ◌∙◌}
use mathlib.Core.Bool.{Bool, true, false}
use Prim.Native.Nat.{ℕ}
use Rattle.clocks.specs.Clocks.{after}
use Rattle.clocks.proofs.Clocks.{after_keeps, after_still, after_agree}
use Rattle.timers.specs.Pair as Pair
use Rattle.timers.specs.Pair.{clocked}
use Rattle.timers.specs.declared.Timers.{Timers}
use Rattle.timers.proofs.Firsts.{top_fits, marked_top}
use Rattle.calls.specs.declared.Call22.TheVariants.{Run}
use Rattle.calls.proofs.Refusals.{number_one, number_some}
use Rattle.via6522.specs.Clock.{timers_of}
use Rattle.via6522.proofs.Formed.{formed}
use Rattle.via6522.proofs.Lens.{timers_after}
use Rattle.via6522.proofs.Demands.{answers}
use Rattle.lent.specs.Lent.{Outcome, outcome, lent, clock_pair, run_pair}
use Rattle.lent.specs.Demands as Demands
use Rattle.lent.specs.Demands.{clocked_once}

-- both ways of the test
well : (rule : Timers → Timers) (p : Timers) → Pair.well_formed p ≡ true → lent rule p ≡ outcome 0 (rule p)
well rule p w = rw w refl

ill : (rule : Timers → Timers) (p : Timers) → Pair.well_formed p ≡ false → lent rule p ≡ outcome 1 p
ill rule p w = rw w refl

abbrev pair : Outcome → Timers
pair o = o.pair

abbrev number : Outcome → ℕ
number o = o.refusal

abbrev Well : Timers → Type 0
Well p = Pair.well_formed p ≡ true

-- a clock leaves a well-formed pair, whatever it comes from
keeps : (p : Timers) → Well (clocked p)
keeps p = top_fits _ _ (marked_top p.t1)

-- n single lent clocks of a well-formed pair are n clocks; an ill-formed one they leave
module _ (n : ℕ) (p : Timers) where
  kept : Well p → Well (after n clocked p)
  kept = after_keeps Well clocked (λ q w. keeps q) n p

  clocks_well : Well p → after n clocked_once p ≡ after n clocked p
  clocks_well = after_agree Well clocked_once clocked (λ q w. ap pair (well clocked q w)) (λ q w. keeps q) n p

  clocks_ill : Pair.well_formed p ≡ false → after n clocked_once p ≡ p
  clocks_ill w = after_still clocked_once p (ap pair (ill clocked p w)) n

pub clocks_are_a_run : Demands.ClocksAreARun
clocks_are_a_run n p = go (Pair.well_formed p) refl
  where
    go : (b : Bool) → Pair.well_formed p ≡ b → after n clocked_once p ≡ (run_pair n p).pair
    go true w = clocks_well n p w ∙ sym (ap pair (well (after n clocked) p w))
    go false w = clocks_ill n p w ∙ sym (ap pair (ill (after n clocked) p w))

pub numbers_agree : Demands.NumbersAgree
numbers_agree k n p = go (Pair.well_formed p) refl
  where
    go : (b : Bool) → Pair.well_formed p ≡ b → (clock_pair (after k clocked_once p)).refusal ≡ (run_pair n p).refusal
    go true w =
        ap (λ (q : Timers). (clock_pair q).refusal) (clocks_well k p w) ∙ ap number (well clocked (after k clocked p) (kept k p w))
        ∙ sym (ap number (well (after n clocked) p w))
    go false w =
        ap (λ (q : Timers). (clock_pair q).refusal) (clocks_ill k p w) ∙ ap number (ill clocked p w)
        ∙ sym (ap number (ill (after n clocked) p w))

pub stays_well_formed : Demands.StaysWellFormed
stays_well_formed n p w = ap (λ (o : Outcome). Pair.well_formed o.pair) (well (after n clocked) p w) ∙ kept n p w

pub refused_untouched : Demands.RefusedUntouched
refused_untouched rule p = go (Pair.well_formed p)
  where
    go :
        (b : Bool) → ((outcome (if b then 0 else 1) p).refusal ≡ 0 → ⊥)
        → outcome (if b then 0 else 1) (if b then rule p else p) ≡ outcome 1 p
    go true h = absurd (h refl)
    go false h = refl

-- the pair of a well-formed 6522 is well formed; n clocks of the chip are n of its pair; and its run is accepted
pub pair_of_the_6522 : Demands.PairOfThe6522
unfolding timers_of
pair_of_the_6522 n v w =
    well (after n clocked) (timers_of v) (top_fits v.t1.mark v.t1.counter (formed v w).top)
    ∙ ap (outcome 0) (sym (timers_after n v) ∙ ap (λ r. timers_of r.via) (sym (answers.accepts_well (Run n) v w refl)))

pub pair_of_the_6522_once : Demands.PairOfThe6522Once
unfolding after
pair_of_the_6522_once v w = pair_of_the_6522 1 v w

pub result_one : Demands.ResultOne
result_one (Ok x) (Ok y) e = refl
result_one (Ok x) (Err q) e = absurd (number_some q (sym e))
result_one (Err r) (Ok y) e = absurd (number_some r e)
result_one (Err r) (Err q) e = ap Err (number_one r q e)
