-- The statements of specs/Demands.antt, proved.
use mathlib.Core.Path.{◌≡◌, refl, sym, ap, ap₂, ◌∙◌}
use mathlib.Core.Bool.{Bool, true, false, not, ◌&&◌, ◌||◌, and-true, or-true, or-false, true≢false, false≢true}
use mathlib.Core.Logic.{◌↔◌}
use Prim.Native.Nat.{ℕ, ◌%◌, ◌<◌, ◌^◌}
use native.Mathlib.Decide.{dec_lt, ℕ_discrete}
use native.Mathlib.Omega.{arith}
use lib.Dec.{eqb, ltb}
use borrow.Author.Tests.{eq-eqb, ne_eqb, eqb-true, not-true, lt-ltb, ltb-true}
use Rattle.clocks.specs.Bits.{bit, with_set, with_clear}
use Rattle.clocks.proofs.Bits.{bit_and_lem, bit_mod, bit_high, bit_none, bit_set, bit_clear, bit_power, all_bits}
use Rattle.clocks.proofs.Tests.{both, fails}
use Rattle.inputs.specs.Inputs.{interrupts, priority, well_inputs, edges_of, pinned, highest_of, unmasked, shown, asserted, taken, ended, kept}
use Rattle.inputs.specs.Demands
use Rattle.inputs.specs.Demands.{Through, Raised}
use Rattle.inputs.specs.declared.Inputs.{Inputs}
use Rattle.inputs.proofs.Top.{top_set, top_above, top_of, highest_is, some_bit, highest_top, highest_one, above, lower}
use Rattle.inputs.proofs.Masks.{bit_edges}
use Rattle.inputs.proofs.Holding.{with_priority, without_priority}
use Rattle.inputs.proofs.Sound as Sound
use Rattle.inputs.proofs.Sound.{sound, shown_lt}

-- what is let through, by its bits
bit_unmasked : (mask : ℕ) (v : Inputs) → well_inputs v ≡ true → (k : ℕ) → bit k (unmasked mask v) ≡ (bit k v.latch && bit k mask)
bit_unmasked mask v w k = bit_and_lem k v.latch (mask % 32) ∙ go (dec_lt k 5)
  where
    go : Dec (k < 5) → (bit k v.latch && bit k (mask % 32)) ≡ (bit k v.latch && bit k mask)
    go (yes l) = ap (λ (b : Bool). bit k v.latch && b) (bit_mod 5 k mask l)
    go (no l) = rw (bit_high 5 k v.latch (sound v w).latch (omega arith))

-- both of two tests hold exactly where their and does
both_are : (a b : Bool) → ((a && b) ≡ true) ↔ ((a ≡ true) × (b ≡ true))
both_are a b = (both a b, λ p. rw (p.0, p.1))

pub shows_all : Demands.ShowsAll
unfolding shown
shows_all cr mask v k w m p =
    rw (m, p, bit_unmasked mask v w k) (both_are (bit k v.latch) (bit k mask))

pub shows_highest : Demands.ShowsHighest
unfolding shown
shows_highest cr mask v k w m p =
    let u = unmasked mask v in
    let h = highest_one 8 k u (omega (arith, Sound.unmasked_lt mask v)) in
    let through : (j : ℕ) → (bit j u ≡ true) ↔ Through mask v j = λ j. rw (bit_unmasked mask v w j) (both_are (bit j v.latch) (bit j mask)) in
    rw (m, p) (
      λ b. let q = h.0 b in ((through k).0 q.0, λ j l t. false≢true (sym (q.1 j l) ∙ (through j).1 t)),
      λ q. h.1 ((through k).1 q.0, λ j l. fails (bit j u) (λ b. q.1 j l ((through j).0 b))),
    )

pub shows_none : Demands.ShowsNone
unfolding shown
shows_none cr mask v m = rw m

-- with priority it is the highest
shown_one : (cr mask : ℕ) (v : Inputs) → interrupts cr ≡ true → priority cr ≡ true → shown cr mask v ≡ highest_of 8 (unmasked mask v)
unfolding shown
shown_one cr mask v m p = rw (m, p)

-- a number that is not 0 is above it
positive : (x : ℕ) → not (eqb x 0) ≡ true → 0 < x
positive x n = go (ℕ_discrete x 0)
  where
    go : Dec (x ≡ 0) → 0 < x
    go (yes e) = absurd (true≢false (sym (eq-eqb x 0 e) ∙ not-true (eqb x 0) n))
    go (no e) = omega arith

module _ (cr mask : ℕ) (v : Inputs) (w : well_inputs v ≡ true) where
  small : v.service < 2 ^ 5
  small = (sound v w).service

  some_mode : 0 < shown cr mask v → interrupts cr ≡ true
  some_mode l = go (interrupts cr) refl
    where
      go : (t : Bool) → interrupts cr ≡ t → interrupts cr ≡ true
      go true m = m
      go false m = absurd (omega (arith, l, shows_none cr mask v m))

  -- with priority: what is shown is one bit, and the test is whether service is below it
  module _ (p : priority cr ≡ true) where
    test : ltb v.service (shown cr mask v) ≡ asserted cr mask v
    test = with_priority cr mask v (omega (arith, (sound v w).latch)) (omega (arith, small)) p

    one : interrupts cr ≡ true → (k : ℕ) → bit k (shown cr mask v) ≡ true → shown cr mask v ≡ 2 ^ k
    one m k b =
        let u = unmasked mask v in
        let l : u < 2 ^ 8 = omega (arith, Sound.unmasked_lt mask v) in
        let e = shown_one cr mask v m p in
        let q = (highest_one 8 k u l).0 (sym (ap (bit k) e) ∙ b) in
        e ∙ highest_top 8 k u l q

    raised_over : asserted cr mask v ≡ true → Raised cr mask v
    raised_over a =
        let l : v.service < shown cr mask v = ltb-true v.service (shown cr mask v) (test ∙ a) in
        let m = some_mode (omega (arith, l)) in
        let t = top_of 5 (shown cr mask v) (omega (arith, l)) (shown_lt cr mask v) in
        let e = one m t.0 (top_set t.2) in
        record {
          mode = m;
          input = t.0;
          seen = top_set t.2;
          higher = λ _. (lower 5 t.0 v.service small).0 (rw (← e) l);
          alone = λ z. absurd (true≢false (sym p ∙ z));
        }

    over_asserted : Raised cr mask v → asserted cr mask v ≡ true
    over_asserted r =
        let l = (lower 5 r.input v.service small).1 (r.higher p) in
        sym test ∙ lt-ltb v.service (shown cr mask v) (rw (one r.mode r.input r.seen) l)

  -- without it: something is shown, and nothing is in service
  module _ (p : priority cr ≡ false) where
    raised_alone : asserted cr mask v ≡ true → Raised cr mask v
    raised_alone a =
        let b = both (not (eqb (shown cr mask v) 0)) (eqb v.service 0) (without_priority cr mask v p ∙ a) in
        let z : v.service ≡ 0 = eqb-true v.service 0 b.1 in
        let l = positive (shown cr mask v) b.0 in
        let t = top_of 5 (shown cr mask v) l (shown_lt cr mask v) in
        record {
          mode = some_mode l;
          input = t.0;
          seen = top_set t.2;
          higher = λ q. absurd (false≢true (sym p ∙ q));
          alone = λ _ j. ap (bit j) z ∙ bit_none j;
        }

    alone_asserted : Raised cr mask v → asserted cr mask v ≡ true
    alone_asserted r =
        let z : v.service ≡ 0 = all_bits v.service 0 (λ j. r.alone p j ∙ sym (bit_none j)) in
        let n : shown cr mask v ≡ 0 → ⊥ = λ e. true≢false (sym r.seen ∙ ap (bit r.input) e ∙ bit_none r.input) in
        sym (without_priority cr mask v p) ∙ rw (ne_eqb (shown cr mask v) 0 n, eq-eqb v.service 0 z)

pub asserted_exact : Demands.AssertedExact
asserted_exact cr mask v w = go (priority cr) refl
  where
    go : (t : Bool) → priority cr ≡ t → (asserted cr mask v ≡ true) ↔ Raised cr mask v
    go true p = (raised_over cr mask v w p, over_asserted cr mask v w p)
    go false p = (raised_alone cr mask v w p, alone_asserted cr mask v w p)

pub pinned_exact : Demands.PinnedExact
unfolding pinned
pinned_exact cr old new v k l m =
    rw m (bit_set k (edges_of 5 cr old new) v.latch ∙ ap (λ (b : Bool). bit k v.latch || b) (bit_edges 5 k cr old new l))

pub taken_exact : Demands.TakenExact
taken_exact s v k = (bit_clear k s v.latch, bit_set k s v.service)

pub taken_none : Demands.TakenNone
taken_none v =
    ap₂ (λ (x y : ℕ). record { latch = x; service = y })
    (all_bits (with_clear 0 v.latch) v.latch (λ k. bit_clear k 0 v.latch ∙ rw (bit_none k, and-true)))
    (all_bits (with_set 0 v.service) v.service (λ k. bit_set k 0 v.service ∙ rw (bit_none k, or-false)))

-- an input that is shown after a read of the register was let through before it, and was not shown
module _ (cr mask : ℕ) (v : Inputs) (w : well_inputs v ≡ true) (k : ℕ) where
  after_read : Inputs
  after_read = taken (shown cr mask v) v

  still_well : well_inputs after_read ≡ true
  unfolding after_read
  still_well = Sound.taken_well (shown cr mask v) v (shown_lt cr mask v) w

  not_shown : Through mask after_read k → Through mask v k × (bit k (shown cr mask v) ≡ false)
  unfolding after_read
  not_shown t =
      let b = both (bit k v.latch) (not (bit k (shown cr mask v))) (sym (bit_clear k (shown cr mask v) v.latch) ∙ t.0) in
      ((b.0, t.1), not-true (bit k (shown cr mask v)) b.1)

  -- without priority it would have been shown
  none_without : interrupts cr ≡ true → priority cr ≡ false → bit k (shown cr mask after_read) ≡ true → ⊥
  none_without m p seen =
      let t = not_shown ((shows_all cr mask after_read k still_well m p).0 seen) in
      true≢false (sym ((shows_all cr mask v k w m p).1 t.0) ∙ t.1)

  -- with it a higher one was, and is in service
  higher_taken :
      interrupts cr ≡ true → priority cr ≡ true → bit k (shown cr mask after_read) ≡ true
      → (j : ℕ) × (bit j after_read.service ≡ true) × (j < k → ⊥)
  unfolding after_read
  higher_taken m p seen =
      let x = unmasked mask v in
      let t = not_shown ((shows_highest cr mask after_read k still_well m p).0 seen).0 in
      let b : bit k x ≡ true = bit_unmasked mask v w k ∙ rw (t.0.0, t.0.1) in
      let h = top_of 8 x (some_bit k x b) (omega (arith, Sound.unmasked_lt mask v)) in
      let e : shown cr mask v ≡ 2 ^ h.0 = shown_one cr mask v m p ∙ highest_is 8 h.0 x h.1 h.2 in
      let seen_one = ap (bit h.0) e ∙ bit_power h.0 h.0 ∙ eq-eqb h.0 h.0 refl in (
        h.0,
        bit_set h.0 (shown cr mask v) v.service
            ∙ ap (λ (b : Bool). bit h.0 v.service || b) seen_one
            ∙ or-true (bit h.0 v.service),
        λ l. true≢false (sym b ∙ top_above h.2 l),
      )

pub taken_releases : Demands.TakenReleases
unfolding after_read
taken_releases cr mask v w = fails _ (λ a. go (priority cr) refl ((asserted_exact cr mask (taken (shown cr mask v) v) (still_well cr mask v w 0)).0 a))
  where
    go : (t : Bool) → priority cr ≡ t → Raised cr mask (taken (shown cr mask v) v) → ⊥
    go true p r =
        let q = higher_taken cr mask v w r.input r.mode p r.seen in
        q.2 (r.higher p q.0 q.1)
    go false p r = none_without cr mask v w r.input r.mode p r.seen

pub ended_all : Demands.EndedAll
unfolding ended
ended_all cr v m p = rw (m, p)

-- what is left where the highest is taken away
but_highest :
    (k x : ℕ) → x < 2 ^ 8
    → (bit k (with_clear (highest_of 8 x) x) ≡ true) ↔ ((bit k x ≡ true) × ((j : ℕ) × (k < j) × (bit j x ≡ true)))
but_highest k x l =
    let h = highest_one 8 k x l in
    rw (bit_clear k (highest_of 8 x) x) (
      λ b.
          let c = both (bit k x) (not (bit k (highest_of 8 x))) b in
          (c.0, above 8 k x l c.0 (not-true (bit k (highest_of 8 x)) c.1)),
      λ q.
          let n = fails (bit k (highest_of 8 x)) (λ b. true≢false (sym q.1.2 ∙ (h.0 b).1 q.1.0 q.1.1)) in
          rw (q.0, n),
    )

pub ended_highest : Demands.EndedHighest
unfolding ended
ended_highest cr v k w m p = rw (m, p) (but_highest k v.service (omega (arith, (sound v w).service)), refl)

pub kept_exact : Demands.KeptExact
unfolding kept
kept_exact cr x v k m = rw m (bit_and_lem k v.latch x)

pub out_of_mode : Demands.OutOfMode
unfolding pinned ended kept
out_of_mode cr old new x v m = (rw m, rw m, rw m)

pub stays_well : Demands.StaysWell
stays_well =
    record {
      at_reset = refl;
      by_pins = Sound.pinned_well;
      by_read = λ cr mask v. Sound.taken_well (shown cr mask v) v (shown_lt cr mask v);
      by_end = Sound.ended_well;
      by_write = Sound.kept_well;
    }
