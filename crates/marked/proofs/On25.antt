-- The steps of the 6525: a test of them, and why steps that pass it come out as they are told.
use Rattle.std.specs.Prelude.{is_none}
use Rattle.std.specs.Cmp.{booleans_Decides}
use Rattle.std.proofs.Math.Bool.{beq}
use mathlib.Core.Path.{◌≡◌}
use mathlib.Core.Bool.{Bool, true, ◌&&◌}
use mathlib.Core.List.{List, [], ◌∷◌}
use lib.Dec.{eqb}
use borrow.Author.Tests.{eqb-true}
use Rattle.clocks.proofs.Tests.{both}
use Rattle.chips.specs.Chips.{answer, next}
use Rattle.tpi6525.specs.Signals.{air_of}
use Rattle.tpi6525.specs.Chip as Chip25
use Rattle.tpi6525.specs.declared.Tpi.{Tpi}
use Rattle.marked.specs.Cases.{Step25, ◌gives◌asserted◌shows◌, Shows25}
use Rattle.marked.proofs.Tests.{none_is}
use Rattle.marked.proofs.Typed.{typed25, is_typed25}

unfoldable pub passes25 : List Step25 → Tpi → Bool
passes25 [] v = true
passes25 ((c gives byte asserted irq shows air) ∷ steps) v =
    typed25 c
    && (is_none (answer Chip25.chip c v).refusal
    && (eqb (answer Chip25.chip c v).«data» byte
    && (beq (answer Chip25.chip c v).irq irq
    && (eqb (air_of (next Chip25.chip c v)) air
    && passes25 steps (next Chip25.chip c v)))))

pub passes25_holds : (steps : List Step25) (v : Tpi) → passes25 steps v ≡ true → Shows25 steps v
unfolding passes25 Shows25
passes25_holds [] v e = tt
passes25_holds ((c gives byte asserted irq shows air) ∷ steps) v e =
    let a = answer Chip25.chip c v in
    let p = both (typed25 c) _ e in
    let q = both (is_none a.refusal) _ p.1 in
    let r = both (eqb a.«data» byte) _ q.1 in
    let s = both (beq a.irq irq) _ r.1 in
    let t = both (eqb (air_of a.tpi) air) _ s.1 in
    (is_typed25 c p.0, none_is _ q.0, eqb-true _ _ r.0, (booleans_Decides _ _).0 s.0, eqb-true _ _ t.0, passes25_holds steps a.tpi t.1)
