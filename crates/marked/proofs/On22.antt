-- The outcomes of the 6522: a test of each by when its flags and its line are due, and why a record that passes it shows the outcome.
use mathlib.Core.Path.{◌≡◌, sym, ap, ◌∙◌}
use mathlib.Core.Bool.{Bool, true, false, not, ◌&&◌}
use mathlib.Core.List.{List, [], ◌∷◌}
use Prim.Native.Nat.{ℕ, ◌+◌, ◌-◌, ◌%◌}
use native.Mathlib.Omega.{arith}
use lib.Dec.{eqb}
use borrow.Author.Tests.{eqb-true, not-true}
use Rattle.clocks.specs.Clocks.{after}
use Rattle.clocks.specs.Bits.{bit}
use Rattle.clocks.specs.Forecasts.{comes}
use Rattle.clocks.specs.declared.Forecast.TheVariants.{Never, In}
use Rattle.clocks.proofs.Tests.{both}
use Rattle.clocks.proofs.Forecasts.{comes_one}
use Rattle.timers.specs.Second as Second
use Rattle.timers.proofs.Firsts as Firsts
use Rattle.timers.proofs.Seconds as Seconds
use Rattle.via6522.specs.Record.{well_formed}
use Rattle.via6522.specs.Access.{read_of}
use Rattle.via6522.specs.Clock.{timers_of, with_timers, clock_of}
use Rattle.via6522.specs.declared.Via.{Via}
use Rattle.via6522.proofs.Lens as Lens
use Rattle.via6522.proofs.Watched.{due1, due2, ahead, tells}
use Rattle.marked.specs.Cases.{flag1, flag2, Flags1, Reloads1, Wraps2, Outcome22, t1_flags_at, t1_reloads◌forecast◌, t2_wraps_unflagged_at, Shows22}
use Rattle.marked.proofs.Tests.{same, same_comes}

-- when the flags are set
flag1_due : (k : ℕ) (v : Via) → flag1 k v ≡ comes (due1 v) k
flag1_due k v = Lens.flag1_after k v ∙ Firsts.flag_due (timers_of v).t1 k

flag2_due : (k : ℕ) (v : Via) → flag2 k v ≡ comes (due2 v) k
flag2_due k v = Lens.flag2_after k v ∙ Seconds.flag_due (timers_of v).t2 k

counter2 : (k : ℕ) (v : Via) → (after k clock_of v).t2.counter ≡ (after k Second.clocked (timers_of v).t2).counter
unfolding with_timers
counter2 k v = ap (λ (u : Via). u.t2.counter) (Lens.each_after k v)

-- ---- T1's flag at each of these clocks

unfoldable pub flags1 : ℕ → List ℕ → Via → Bool
flags1 now [] v = true
flags1 now (n ∷ ns) v = same (due1 v) (In (n - now)) && flags1 n ns (read_of 4 (after (n - now) clock_of v))

flags1_holds : (now : ℕ) (ns : List ℕ) (v : Via) → flags1 now ns v ≡ true → Flags1 now ns v
unfolding flags1 Flags1
flags1_holds now [] v e = tt
flags1_holds now (n ∷ ns) v e =
    let u = read_of 4 (after (n - now) clock_of v) in
    let b = both (same (due1 v) (In (n - now))) (flags1 n ns u) e in
    (λ k. flag1_due k v ∙ same_comes (due1 v) (In (n - now)) b.0 k, flags1_holds n ns u b.1)

-- ---- a reload to come

abbrev pub reloads1 : ℕ → ℕ → Via → Bool
reloads1 latch n v =
    bit 6 v.acr
    && not (bit 6 v.ifr)
    && eqb v.ier 64
    && v.t1.mark
    && eqb v.t1.latch latch
    && well_formed v
    && same (ahead v) (In n)

reloads1_holds : (latch n : ℕ) (v : Via) → reloads1 latch n v ≡ true → Reloads1 latch n v
reloads1_holds latch n v h =
    let f = both _ _ h in
    let e = both _ _ f.0 in
    let d = both _ _ e.0 in
    let c = both _ _ d.0 in
    let b = both _ _ c.0 in
    let a = both _ _ b.0 in
    record {
      free = a.0;
      clear = not-true (bit 6 v.ifr) a.1;
      alone = eqb-true v.ier 64 b.1;
      mark = c.1;
      latched = eqb-true v.t1.latch latch d.1;
      line = λ k. tells v k ∙ same_comes (ahead v) (In n) f.1 k;
      told = λ g r t. comes_one g (In n) (λ k. sym (t.told e.1 k) ∙ tells v k ∙ same_comes (ahead v) (In n) f.1 k);
    }

-- ---- T2 disarmed

abbrev pub wraps2 : ℕ → Via → Bool
wraps2 n v = not v.t2.armed && not (bit 5 v.acr) && eqb (v.t2.counter + 1) n && same (due2 v) Never

-- where clocks count, T2 is at 0 after as many as its counter says, and at the top after one more
module _ (n : ℕ) (v : Via) (p : bit 5 v.acr ≡ false) (z : v.t2.counter + 1 ≡ n) where
  bottom : (after (n - 1) clock_of v).t2.counter ≡ 0
  unfolding timers_of
  bottom =
      let s : v.t2.counter - (n - 1) ≡ 0 = omega arith in
      counter2 (n - 1) v ∙ ap (λ u. u.counter) (Seconds.ran_short (timers_of v).t2 p (n - 1) (omega arith)) ∙ s

  top : (after n clock_of v).t2.counter ≡ 65535
  unfolding timers_of
  top =
      let s : n - v.t2.counter - 1 ≡ 0 = omega arith in
      counter2 n v
      ∙ ap (λ u. u.counter) (Seconds.ran_past (timers_of v).t2 p n (omega arith))
      ∙ ap (λ (x : ℕ). 65535 - x % 65536) s

wraps2_holds : (n : ℕ) (v : Via) → wraps2 n v ≡ true → Wraps2 n v
wraps2_holds n v h =
    let c = both _ _ h in
    let b = both _ _ c.0 in
    let a = both _ _ b.0 in
    let p = not-true (bit 5 v.acr) a.1 in
    let z = eqb-true (v.t2.counter + 1) n b.1 in
    record {
      disarmed = not-true v.t2.armed a.0;
      bottom = bottom n v p z;
      top = top n v p z;
      unflagged = λ k. flag2_due k v ∙ same_comes (due2 v) Never c.1 k;
    }

-- ---- any of them

abbrev pub passes22 : Outcome22 → Via → Bool
passes22 (t1_flags_at clocks) v = flags1 0 clocks v
passes22 (t1_reloads latch forecast n) v = reloads1 latch n v
passes22 (t2_wraps_unflagged_at n) v = wraps2 n v

pub passes22_holds : (o : Outcome22) (v : Via) → passes22 o v ≡ true → Shows22 o v
passes22_holds (t1_flags_at clocks) v e = flags1_holds 0 clocks v e
passes22_holds (t1_reloads latch forecast n) v e = reloads1_holds latch n v e
passes22_holds (t2_wraps_unflagged_at n) v e = wraps2_holds n v e
