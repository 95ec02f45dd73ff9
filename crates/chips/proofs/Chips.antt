-- The demands on a chip, proved once from the facts that each chip shows of itself.
use Rattle.std.specs.Prelude.{if◌then◌else◌, Option, None, Some}
use mathlib.Core.Path.{◌≡◌, refl, sym, ap, ap₂, subst, ◌∙◌}
use mathlib.Core.Bool.{Bool, true, false, true≢false}
use mathlib.Core.Logic.{◌↔◌}
use Rattle.clocks.proofs.Options.{none_some, same_some}
use Prim.Native.Nat.{ℕ, suc, ◌+◌, ◌≤◌}
use native.Mathlib.Omega.{arith}
use Rattle.clocks.specs.Clocks.{after}
use Rattle.clocks.specs.Bits.{gone}
use Rattle.clocks.specs.Forecasts.{comes, shortened}
use Rattle.clocks.specs.declared.Forecast.{Forecast}
use Rattle.clocks.specs.declared.Forecast.TheVariants.{In}
use Rattle.clocks.proofs.Tests.{on_true, on_false}
use Rattle.calls.specs.Refusals.{number_of}
use Rattle.calls.specs.declared.Refusal.{Refusal}
use Rattle.calls.specs.declared.Refusal.TheVariants.{IllFormed, NoFrame}
use Rattle.clocks.proofs.Bits.{gone_none}
use Rattle.clocks.proofs.Clocks.{after_add, after_keeps, run_calls}
use Rattle.clocks.proofs.Forecasts.{comes_one, told_least, told_never, shortened_comes, AtMost, most_in}
use Rattle.chips.specs.Chips
use Rattle.chips.specs.Chips.{Chip, first, answered, answer, next, Reached, at_power_up, by, Answers, Clocked, Runs, Lined, line, Foretold, Lines, KeepsWord, LargestForecast, cleared_by}

-- ---- what the refusal that applies first says of the record's test, where a is what the operands are refused for

pub only_well : (w : Bool) (a k : Option Refusal) → k ≡ (if w then a else Some IllFormed) → k ≡ None → w ≡ true
only_well true a k e z = refl
only_well false a k e z = absurd (none_some IllFormed (sym z ∙ e))

pub only_ill : (w : Bool) (a k : Option Refusal) (r : Refusal) → k ≡ (if w then a else Some IllFormed) → a ≡ None → k ≡ Some r → w ≡ false
only_ill true a k r e n z = absurd (none_some r (sym (e ∙ n) ∙ z))
only_ill false a k r e n z = refl

-- ---- an answer, where the refusal that applies first is known

module _ (C : Chip) (c : C.Call) (v : C.State) (k : Option Refusal) (e : k ≡ first C c v) where
  pub accepts : k ≡ None → answer C c v ≡ C.accepted (C.gives c v) (C.leaves c v)
  unfolding answer
  accepts z = ap (answered C c v) (sym e ∙ z)

  pub refuses : (r : Refusal) → k ≡ Some r → answer C c v ≡ C.refused r v
  unfolding answer
  refuses r z = ap (answered C c v) (sym e ∙ z)

  -- the record of an accepted call is well formed
  pub accepts_only_well : k ≡ None → C.well v ≡ true
  accepts_only_well z = only_well (C.well v) (C.asks c v) k e z

-- ---- what a chip shows of itself: where its answers have what they show, what operands are refused with, and that calls keep it well formed

-- what operands are refused for: nothing, or what has a number of 3 and above
abbrev pub Operands : Option Refusal → Type 0
Operands None = Unit {0}
Operands (Some r) = 3 ≤ number_of r

pub record Lawful (C : Chip) : Type 0 where
  pub refusal_accepted : (d : ℕ) (v : C.State) → C.refusal (C.accepted d v) ≡ None
  pub refusal_refused : (r : Refusal) (v : C.State) → C.refusal (C.refused r v) ≡ Some r
  pub left_accepted : (d : ℕ) (v : C.State) → C.left (C.accepted d v) ≡ v
  pub left_refused : (r : Refusal) (v : C.State) → C.left (C.refused r v) ≡ v
  pub other : (c : C.Call) (v : C.State) → Operands (C.asks c v)
  pub starts : C.well C.power_up ≡ true
  pub keeps : (c : C.Call) (v : C.State) → C.Typed c → C.asks c v ≡ None → C.well v ≡ true → C.well (C.leaves c v) ≡ true

module _ (C : Chip) (S : Lawful C) where
  pub refuses_ill : Chips.RefusesIll C
  refuses_ill c v w = refuses C c v (first C c v) refl IllFormed (on_false (C.well v) (C.asks c v) (Some IllFormed) w)

  operands_first : (c : C.Call) (v : C.State) → C.well v ≡ true → C.asks c v ≡ first C c v
  operands_first c v w = sym (on_true (C.well v) (C.asks c v) (Some IllFormed) w)

  pub refuses_operands : Chips.RefusesOperands C
  refuses_operands c v r w z = refuses C c v (C.asks c v) (operands_first c v w) r z

  pub accepts_well : Chips.AcceptsWell C
  accepts_well c v w z = accepts C c v (C.asks c v) (operands_first c v w) z

  -- there are three kinds of answer; a property that each of them has, the answer has
  module _ (c : C.Call) (v : C.State) (P : C.Answer → Type 0) where
    pub by_refusal :
        (C.well v ≡ false → P (C.refused IllFormed v))
        → ((r : Refusal) → C.well v ≡ true → C.asks c v ≡ Some r → P (C.refused r v))
        → (C.well v ≡ true → C.asks c v ≡ None → P (C.accepted (C.gives c v) (C.leaves c v)))
        → P (answer C c v)
    by_refusal ill operands fine = go (C.well v) refl (C.asks c v) refl
      where
        go : (b : Bool) → C.well v ≡ b → (k : Option Refusal) → C.asks c v ≡ k → P (answer C c v)
        go false w k e = rw (refuses_ill c v w) (ill w)
        go true w None e = rw (accepts_well c v w e) (fine w e)
        go true w (Some r) e = rw (refuses_operands c v r w e) (operands r w e)

  -- what operands are refused for has no number below 3, and an answer has no other than its own
  other_number : (c : C.Call) (v : C.State) (r : Refusal) → C.asks c v ≡ Some r → 3 ≤ number_of r
  other_number c v r e = subst Operands e (S.other c v)

  shown : (v : C.State) (r q : Refusal) → C.refusal (C.refused r v) ≡ Some q → number_of r ≡ number_of q
  shown v r q e = ap number_of (same_some r q (sym (S.refusal_refused r v) ∙ e))

  accepted_shows_none : (d : ℕ) (v : C.State) (r : Refusal) → C.refusal (C.accepted d v) ≡ Some r → ⊥
  accepted_shows_none d v r e = none_some r (sym (S.refusal_accepted d v) ∙ e)

  pub refused_shows : (v : C.State) (r : Refusal) → C.refusal (C.refused r v) ≡ None → ⊥
  refused_shows v r e = none_some r (sym e ∙ S.refusal_refused r v)

  one_only_ill : Chips.OneOnlyIll C
  one_only_ill c v =
      by_refusal c v (λ r. C.refusal r ≡ Some IllFormed → C.well v ≡ false)
      (λ w e. w)
      (λ r w z e. absurd (omega (arith, other_number c v r z, shown v r IllFormed e)))
      (λ w z e. absurd (accepted_shows_none _ _ IllFormed e))

  never_2 : Chips.Never2 C
  never_2 c v =
      by_refusal c v (λ r. C.refusal r ≡ Some NoFrame → ⊥)
      (λ w e. omega (arith, shown v IllFormed NoFrame e))
      (λ r w z e. omega (arith, other_number c v r z, shown v r NoFrame e))
      (λ w z e. accepted_shows_none _ _ NoFrame e)

  refused_leaves : Chips.RefusedLeaves C
  refused_leaves c v r =
      by_refusal c v (λ a. C.refusal a ≡ Some r → a ≡ C.refused r v)
      (λ w e. ap (λ (q : Refusal). C.refused q v) (same_some IllFormed r (sym (S.refusal_refused IllFormed v) ∙ e)))
      (λ q w n e. ap (λ (q : Refusal). C.refused q v) (same_some q r (sym (S.refusal_refused q v) ∙ e)))
      (λ w n e. absurd (accepted_shows_none _ _ r e))

  -- an invariant of the accepted calls is one of all calls, and so holds in every reached record
  module _ (P : C.State → Type 0)
      (keeps : (c : C.Call) (v : C.State) → C.Typed c → C.asks c v ≡ None → C.well v ≡ true → P v → P (C.leaves c v)) where
    pub call_keeps : (c : C.Call) (v : C.State) → C.Typed c → P v → P (next C c v)
    call_keeps c v t p =
        by_refusal c v (λ r. P (C.left r))
        (λ w. rw (S.left_refused IllFormed v) p)
        (λ r w n. rw (S.left_refused r v) p)
        (λ w n. rw (S.left_accepted (C.gives c v) (C.leaves c v)) (keeps c v t n w p))

    pub reached_keeps : P C.power_up → (v : C.State) → Reached C v → P v
    reached_keeps start v at_power_up = start
    reached_keeps start v (by {v = u} c t r) = call_keeps c u t (reached_keeps start u r)

  keeps_well : Chips.KeepsWell C
  keeps_well c v t =
      by_refusal c v (λ r. C.refusal r ≡ None → C.well (C.left r) ≡ true)
      (λ w z. absurd (refused_shows v IllFormed z))
      (λ r w n z. absurd (refused_shows v r z))
      (λ w n z. rw (S.left_accepted (C.gives c v) (C.leaves c v)) (S.keeps c v t n w))

  pub reached_well : Chips.ReachedWell C
  reached_well = reached_keeps (λ v. C.well v ≡ true) (λ c v t n w p. S.keeps c v t n w) S.starts

  pub answers : Answers C
  answers =
      record {
        refuses_ill = refuses_ill;
        one_only_ill = one_only_ill;
        never_2 = never_2;
        refuses_operands = refuses_operands;
        accepts_well = accepts_well;
        refused_leaves = refused_leaves;
        power_up_well = S.starts;
        keeps_well = keeps_well;
        reached_well = reached_well;
      }

  -- an ill-formed record comes back from every call
  pub ill_leaves : (c : C.Call) (v : C.State) → C.well v ≡ false → next C c v ≡ v
  ill_leaves c v w = ap C.left (refuses_ill c v w) ∙ S.left_refused IllFormed v

-- ---- and of its clock: runs up to the longest are accepted, read nothing and are so many turns of the rule; 1 is not too long
pub record Ticks (C : Chip) (T : Clocked C) : Type 0 where
  pub one : 1 ≤ T.longest
  pub run_asks_lem : (n : ℕ) (v : C.State) → n ≤ T.longest → C.asks (T.run n) v ≡ None
  pub run_gives : (n : ℕ) (v : C.State) → C.gives (T.run n) v ≡ 0
  pub run_leaves : (n : ℕ) (v : C.State) → C.leaves (T.run n) v ≡ after n T.rule v
  pub keeps : (v : C.State) → C.well v ≡ true → C.well (T.rule v) ≡ true

module _ (C : Chip) (S : Lawful C) (T : Clocked C) (K : Ticks C T) where
  pub runs_well : (n : ℕ) (v : C.State) → C.well v ≡ true → C.well (after n T.rule v) ≡ true
  runs_well = after_keeps (λ (v : C.State). C.well v ≡ true) T.rule K.keeps

  -- what a run and a single clock show and leave of a well-formed record
  run_well_shows : (n : ℕ) (v : C.State) → n ≤ T.longest → C.well v ≡ true → answer C (T.run n) v ≡ C.accepted 0 (after n T.rule v)
  run_well_shows n v h w =
      accepts_well C S (T.run n) v w (K.run_asks_lem n v h) ∙ ap₂ C.accepted (K.run_gives n v) (K.run_leaves n v)

  clock_turns : Chips.ClockTurns C T
  unfolding after
  clock_turns v w = run_well_shows 1 v K.one w

  pub run_well_leaves : (n : ℕ) (v : C.State) → n ≤ T.longest → C.well v ≡ true → next C (T.run n) v ≡ after n T.rule v
  run_well_leaves n v h w = ap C.left (run_well_shows n v h w) ∙ S.left_accepted 0 (after n T.rule v)

  clock_well_leaves : (v : C.State) → C.well v ≡ true → next C (T.run 1) v ≡ T.rule v
  clock_well_leaves v w = ap C.left (clock_turns v w) ∙ S.left_accepted 0 (T.rule v)

  run_single : Chips.RunSingle C T
  run_single n v h =
      run_calls C.well T.rule (next C (T.run 1))
      clock_well_leaves
      (λ u w. ill_leaves C S (T.run 1) u w)
      K.keeps n v (next C (T.run n) v)
      (λ w. run_well_leaves n v h w)
      (λ w. ill_leaves C S (T.run n) v w)

  run_shows : Chips.RunShows C T
  unfolding after
  run_shows n v h = go (C.well v) refl
    where
      one_less : n ≤ T.longest
      one_less = omega arith

      go : (t : Bool) → C.well v ≡ t → answer C (T.run (suc n)) v ≡ answer C (T.run 1) (after n (next C (T.run 1)) v)
      go true w =
          run_well_shows (suc n) v h w
          ∙ sym (clock_turns (after n T.rule v) (runs_well n v w))
          ∙ ap (answer C (T.run 1)) (sym (run_well_leaves n v one_less w) ∙ run_single n v one_less)
      go false w =
          refuses_ill C S (T.run (suc n)) v w
          ∙ sym (refuses_ill C S (T.run 1) v w)
          ∙ ap (answer C (T.run 1)) (sym (ill_leaves C S (T.run n) v w) ∙ run_single n v one_less)

  run_of_none : Chips.RunOfNone C T
  unfolding after
  run_of_none v = go (C.well v) refl
    where
      go : (t : Bool) → C.well v ≡ t → answer C (T.run 0) v ≡ (if C.well v then C.accepted 0 v else C.refused IllFormed v)
      go true w = run_well_shows 0 v (omega arith) w ∙ sym (on_true (C.well v) _ _ w)
      go false w = refuses_ill C S (T.run 0) v w ∙ sym (on_false (C.well v) _ _ w)

  pub runs_add : Chips.RunsAdd C T
  runs_add v a b r s t h p q e = q ∙ ap (answer C (T.run b)) (ap C.left p) ∙ go (C.well v) refl ∙ sym e
    where
      go : (u : Bool) → C.well v ≡ u → answer C (T.run b) (next C (T.run a) v) ≡ answer C (T.run (a + b)) v
      go true w =
          ap (answer C (T.run b)) (run_well_leaves a v (omega arith) w)
          ∙ run_well_shows b (after a T.rule v) (omega arith) (runs_well a v w)
          ∙ ap (C.accepted 0) (sym (after_add a b T.rule v))
          ∙ sym (run_well_shows (a + b) v h w)
      go false w =
          ap (answer C (T.run b)) (ill_leaves C S (T.run a) v w)
          ∙ refuses_ill C S (T.run b) v w
          ∙ sym (refuses_ill C S (T.run (a + b)) v w)

  pub runs : Runs C T
  runs = record { clock_turns = clock_turns; run_single = run_single; run_shows = run_shows; run_of_none = run_of_none; runs_add = runs_add }

-- ---- what a chip with an interrupt line shows besides: where answers show the line and what it means; that a forecast leaves the record;
-- and its forecast worked out, which is at most the largest where `Kept` holds, as it does in every reached record, and the largest in one
pub record Watched (C : Chip) (T : Clocked C) (L : Lined C) : Type 1 where
  pub shows : (d : ℕ) (v : C.State) → L.asserted (C.accepted d v) ≡ L.irq v
  pub exact : (v : C.State) → C.well v ≡ true → (L.irq v ≡ true) ↔ L.Raised v
  pub leaves : (v : C.State) → C.leaves L.forecast v ≡ v
  pub ahead : C.State → Forecast
  pub tells : (v : C.State) → C.well v ≡ true → (k : ℕ) → line C T L k v ≡ comes (ahead v) k
  pub Kept : C.State → Type 0
  pub kept_first : Kept C.power_up
  pub kept_next : (c : C.Call) (v : C.State) → C.Typed c → C.asks c v ≡ None → C.well v ≡ true → Kept v → Kept (C.leaves c v)
  pub most : (v : C.State) → C.well v ≡ true → Kept v → AtMost L.largest (ahead v)
  pub farthest : (v : C.State) × Reached C v × (ahead v ≡ In L.largest)

module _ (C : Chip) (S : Lawful C) (T : Clocked C) (K : Ticks C T) (L : Lined C) (W : Watched C T L) where
  line_exact : Chips.LineExact C T L
  line_exact c v t reached =
      by_refusal C S c v (λ r. C.refusal r ≡ None → (L.asserted r ≡ true) ↔ L.Raised (C.left r))
      (λ w z. absurd (refused_shows C S v IllFormed z))
      (λ r w n z. absurd (refused_shows C S v r z))
      (λ w n z. rw (W.shows (C.gives c v) (C.leaves c v), S.left_accepted (C.gives c v) (C.leaves c v))
      (W.exact (C.leaves c v) (S.keeps c v t n w)))

  module _ (v : C.State) (f : Forecast) (r : C.Answer) (reached : Reached C v) (t : Foretold C T L v f r) where
    told_reached : (k : ℕ) → line C T L k v ≡ comes f k
    told_reached = t.told (reached_well C S v reached)

  forecast_one : Chips.ForecastOne C T L
  forecast_one v f g r s a b = (go (C.well v) refl, a.answered ∙ sym b.answered)
    where
      go : (t : Bool) → C.well v ≡ t → f ≡ g
      go true w = comes_one f g (λ k. sym (a.told w k) ∙ b.told w k)
      go false w = a.refused w ∙ sym (b.refused w)

  forecast_leaves : Chips.ForecastLeaves C T L
  forecast_leaves v f r t =
      ap C.left t.answered
      ∙ by_refusal C S L.forecast v (λ r. C.left r ≡ v)
      (λ w. S.left_refused IllFormed v)
      (λ r w n. S.left_refused r v)
      (λ w n. S.left_accepted (C.gives L.forecast v) (C.leaves L.forecast v) ∙ W.leaves v)

  pub lines : Lines C T L
  lines =
      record {
        line_of_record = λ v reached. W.exact v (reached_well C S v reached);
        line_exact = line_exact;
        forecast_least = λ v f r d reached t e. told_least (λ k. line C T L k v) f (told_reached v f r reached t) d e;
        forecast_never = λ v f r reached t. told_never (λ k. line C T L k v) f (told_reached v f r reached t);
        forecast_leaves = forecast_leaves;
        forecast_one = forecast_one;
      }

  -- a run between two forecasts: of a well-formed record they speak of the same moments, and an ill-formed one comes back from it
  forecast_shortened : Chips.ForecastShortened C T L
  forecast_shortened v f g m t = go (C.well v) refl
    where
      ran : C.left t.ran ≡ next C (T.run m) v
      ran = ap C.left t.run ∙ ap (next C (T.run m)) (forecast_leaves v f t.before t.foretold)

      go : (u : Bool) → C.well v ≡ u → g ≡ shortened m f
      go true w =
          let e = ran ∙ run_well_leaves C S T K m v t.at_most w in
          let w' : C.well (C.left t.ran) ≡ true = rw e (runs_well C S T K m v w) in
          comes_one g (shortened m f)
          (λ j. sym (t.again.told w' j)
          ∙ ap (λ (u : C.State). L.irq (after j T.rule u)) e
          ∙ ap L.irq (sym (after_add m j T.rule v))
          ∙ t.foretold.told w (m + j)
          ∙ sym (shortened_comes m f j))
      go false w =
          let e = ran ∙ ill_leaves C S (T.run m) v w in
          t.again.refused (ap C.well e ∙ w) ∙ ap In (omega arith) ∙ sym (ap (shortened m) (t.foretold.refused w))

  pub keeps_word : KeepsWord C T L
  keeps_word =
      record {
        forecast_keeps = λ v f g k m t e h. forecast_shortened v f g m t ∙ ap (shortened m) e;
        never_stays = λ v f g m t e. forecast_shortened v f g m t ∙ ap (shortened m) e;
        forecast_shortened = forecast_shortened;
      }

  -- a forecast of a well-formed record can only be the one that is worked out
  pub foretold_is : (v : C.State) (f : Forecast) (r : C.Answer) → C.well v ≡ true → Foretold C T L v f r → f ≡ W.ahead v
  foretold_is v f r w t = comes_one f (W.ahead v) (λ k. sym (t.told w k) ∙ W.tells v w k)

  pub reached_kept : (v : C.State) → Reached C v → W.Kept v
  reached_kept = reached_keeps C S W.Kept W.kept_next W.kept_first

  forecast_bound : Chips.ForecastBound C T L
  forecast_bound v f r d reached t e =
      let w = reached_well C S v reached in
      most_in L.largest d (W.ahead v) (W.most v w (reached_kept v reached)) (sym (foretold_is v f r w t) ∙ e)

  forecast_attained : Chips.ForecastAttained C T L
  forecast_attained =
      let v = W.farthest.0 in
      let w = reached_well C S v W.farthest.1 in
      let far = W.farthest.2 in (
        v,
        answer C L.forecast v,
        W.farthest.1,
        record {
          answered = refl;
          told = λ z k. W.tells v w k ∙ ap (λ (f : Forecast). comes f k) far;
          refused = λ z. absurd (true≢false (sym w ∙ z));
        },
      )

  -- of two bounds that are attained each is at most the other
  largest_one : Chips.LargestOne C T L
  largest_one n bound (v, r, reached, t) =
      let above = forecast_bound v (In n) r n reached t refl in
      let (u, s, far, told) = forecast_attained in
      let below = bound u (In L.largest) s L.largest far told refl in
      omega arith

  pub largest_forecast_lem : LargestForecast C T L
  largest_forecast_lem = record { forecast_bound = forecast_bound; forecast_attained = forecast_attained; largest_one = largest_one }

-- ---- what a call cleared
module _ (C : Chip) (S : Lawful C) (flags : C.State → ℕ) where
  -- nothing, where it leaves the record as it was
  pub kept_clears : (c : C.Call) (v : C.State) → next C c v ≡ v → cleared_by C flags c v ≡ 0
  kept_clears c v e = ap (λ (u : C.State). gone (flags v) (flags u)) e ∙ gone_none (flags v)

  pub refused_clears : (c : C.Call) (v : C.State) (r : Refusal) → C.refusal (answer C c v) ≡ Some r → cleared_by C flags c v ≡ 0
  refused_clears c v r z = kept_clears c v (ap C.left (refused_leaves C S c v r z) ∙ S.left_refused r v)

  -- a read that tells mask and answer, where the refusal that applies first is known
  module _ {R : Type 0} (reading : ℕ → C.Answer → R) (c : C.Call) (v : C.State) (k : Option Refusal) (e : k ≡ first C c v) where
    pub reading_accepted :
        k ≡ None
        → reading (cleared_by C flags c v) (answer C c v)
        ≡ reading (gone (flags v) (flags (C.leaves c v))) (C.accepted (C.gives c v) (C.leaves c v))
    reading_accepted z =
        let a = accepts C c v k e z in
        ap₂ reading
        (ap (λ (u : C.State). gone (flags v) (flags u)) (ap C.left a ∙ S.left_accepted (C.gives c v) (C.leaves c v)))
        a

    pub reading_refused : (r : Refusal) → k ≡ Some r → reading (cleared_by C flags c v) (answer C c v) ≡ reading 0 (C.refused r v)
    reading_refused r z =
        let q = refuses C c v k e r z in
        ap₂ reading (kept_clears c v (ap C.left q ∙ S.left_refused r v)) q
