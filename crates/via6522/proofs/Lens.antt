-- The timer pair is a part of the record, and the shift register is another: what is put back is what is taken out. So running the two,
-- side by side, runs the chip.
use mathlib.Core.Path.{◌≡◌, refl, sym, ap, ◌∙◌}
use mathlib.Core.Bool.{Bool, ◌&&◌}
use Prim.Native.Nat.{ℕ}
use native.Mathlib.Omega.{arith}
use Rattle.clocks.specs.Clocks.{after}
use Rattle.clocks.specs.Bits.{bit, with_bit}
use Rattle.clocks.proofs.Clocks.{after_agree, after_keeps, Part, Apart, moving_both, both_after}
use Rattle.clocks.proofs.Bits.{bit_here, bit_other, with_same, with_over, with_swap}
use Rattle.clocks.proofs.Tests.{picked}
use Rattle.timers.specs.First as First
use Rattle.timers.specs.Second as Second
use Rattle.timers.specs.Pair as Pair
use Rattle.timers.specs.declared.T2.{T2}
use Rattle.timers.specs.declared.Timers.{Timers}
use Rattle.timers.proofs.Firsts.{keeps_free}
use Rattle.timers.proofs.Seconds.{keeps_mode}
use Rattle.timers.proofs.Pairs.{each}
use Rattle.shifter.specs.Shifter as Shift
use Rattle.shifter.specs.declared.Shifter.{Shifter}
use Rattle.shifter.proofs.Runs.{clock_mode}
use Rattle.via6522.specs.Record.{mode_of}
use Rattle.via6522.specs.Flags.{with_ifr}
use Rattle.via6522.specs.Clock.{timers_of, with_timers, shifter_of, with_shifter, level_cb2, clock_of}
use Rattle.via6522.specs.declared.Via.{Via}

-- ---- the timer pair

-- IFR with T1's flag a and T2's flag b
abbrev pub flags : Bool → Bool → ℕ → ℕ
flags a b x = with_bit 6 a (with_bit 5 b x)

pub flag1 : (a b : Bool) (x : ℕ) → bit 6 (flags a b x) ≡ a
flag1 a b x = bit_here 6 a (with_bit 5 b x)

pub flag2 : (a b : Bool) (x : ℕ) → bit 5 (flags a b x) ≡ b
flag2 a b x = bit_other 6 a 5 (with_bit 5 b x) (λ e. omega (arith, e)) ∙ bit_here 5 b x

flags_same : (x : ℕ) → flags (bit 6 x) (bit 5 x) x ≡ x
flags_same x = ap (with_bit 6 (bit 6 x)) (with_same 5 x) ∙ with_same 6 x

flags_over : (a b c d : Bool) (x : ℕ) → flags a b (flags c d x) ≡ flags a b x
flags_over a b c d x =
    ap (with_bit 6 a) (with_swap 5 6 b c (with_bit 5 d x) (λ e. omega (arith, e)))
    ∙ with_over 6 a c (with_bit 5 b (with_bit 5 d x))
    ∙ ap (with_bit 6 a) (with_over 5 b d x)

put_timers : Via → Timers → Via
put_timers v p = with_timers p v

-- the pair p with other flags and modes
abbrev pair : Timers → Bool → Bool → Bool → Bool → Timers
pair p a free b pulse =
    record {
      t1 =
          record {
            counter = p.t1.counter;
            latch = p.t1.latch;
            armed = p.t1.armed;
            mark = p.t1.mark;
            level = p.t1.level;
            flag = a;
            free = free;
          };
      t2 = record { counter = p.t2.counter; low = p.t2.low; armed = p.t2.armed; flag = b; pulse = pulse };
    }

-- what is put in is taken out, where the modes are the record's
timers_put :
    (p : Timers) (v : Via) → p.t1.free ≡ bit 6 v.acr → p.t2.pulse ≡ bit 5 v.acr → timers_of (with_timers p v) ≡ p
unfolding timers_of with_timers
timers_put p v f m =
    λ i. pair p (flag1 p.t1.flag p.t2.flag v.ifr i) (sym f i) (flag2 p.t1.flag p.t2.flag v.ifr i) (sym m i)

timers_part : Part Pair.clocked timers_of put_timers
unfolding timers_of with_timers put_timers
timers_part =
    record {
      put_get = λ v. ap (λ (x : ℕ). with_ifr x v) (flags_same v.ifr);
      put_put = λ v p q.
          ap (λ (x : ℕ). with_ifr x (with_timers q v)) (flags_over q.t1.flag q.t2.flag p.t1.flag p.t2.flag v.ifr);
      get_put = λ v. timers_put (Pair.clocked (timers_of v)) v (keeps_free (timers_of v).t1) (keeps_mode (timers_of v).t2);
    }

-- a pulse leaves T2's low latch
pub pulsed_low : (fall : Bool) (t : T2) → (Second.pulsed fall t).low ≡ t.low
unfolding Second.pulsed Second.counted
pulsed_low fall t = picked (λ (u : T2). u.low ≡ t.low) (t.pulse && fall) refl refl

-- ---- the shift register

put_shifter : Via → Shifter → Via
put_shifter v s = with_shifter s v

-- the shift register s with another flag and another mode
abbrev shifter : Shifter → Bool → ℕ → Shifter
shifter s flag mode =
    record { byte = s.byte; left = s.left; half = s.half; output = s.output; flag = flag; mode = mode }

-- what is put in is taken out, where the mode is the record's
pub shifter_put : (s : Shifter) (v : Via) → s.mode ≡ mode_of v.acr → shifter_of (with_shifter s v) ≡ s
unfolding shifter_of with_shifter
shifter_put s v m = λ i. shifter s (bit_here 2 s.flag v.ifr i) (sym m i)

shifter_part : (level : Bool) → Part (Shift.clocked level) shifter_of put_shifter
unfolding shifter_of with_shifter put_shifter
shifter_part level =
    record {
      put_get = λ v. ap (λ (x : ℕ). with_ifr x v) (with_same 2 v.ifr);
      put_put = λ v s t. ap (λ (x : ℕ). with_ifr x (with_shifter t v)) (with_over 2 t.flag s.flag v.ifr);
      get_put = λ v. shifter_put (Shift.clocked level (shifter_of v)) v (clock_mode level (shifter_of v));
    }

-- ---- side by side

-- neither is in the other's way
pub timers_past : (v : Via) (s : Shifter) → timers_of (with_shifter s v) ≡ timers_of v
unfolding timers_of with_shifter
timers_past v s =
    λ i. pair (timers_of v) (bit_other 2 s.flag 6 v.ifr (λ e. omega (arith, e)) i) (bit 6 v.acr)
    (bit_other 2 s.flag 5 v.ifr (λ e. omega (arith, e)) i) (bit 5 v.acr)

shifter_past : (v : Via) (p : Timers) → shifter_of (with_timers p v) ≡ shifter_of v
unfolding shifter_of with_timers
shifter_past v p = λ i. shifter (shifter_of v) (low i) (mode_of v.acr)
  where
    low : bit 2 (flags p.t1.flag p.t2.flag v.ifr) ≡ bit 2 v.ifr
    low =
        bit_other 6 p.t1.flag 2 (with_bit 5 p.t2.flag v.ifr) (λ e. omega (arith, e))
        ∙ bit_other 5 p.t2.flag 2 v.ifr (λ e. omega (arith, e))

apart : (level : Bool) → Apart Pair.clocked timers_of put_timers (Shift.clocked level) shifter_of put_shifter
unfolding with_timers with_shifter put_timers put_shifter
apart level =
    record {
      first = timers_part;
      second = shifter_part level;
      get_past = timers_past;
      get'_past = shifter_past;
      put_past = λ v p s.
          ap (λ (x : ℕ). with_ifr x (with_timers p (with_shifter s v)))
          (ap (with_bit 6 p.t1.flag) (with_swap 5 2 p.t2.flag s.flag v.ifr (λ e. omega (arith, e)))
          ∙ with_swap 6 2 p.t1.flag s.flag (with_bit 5 p.t2.flag v.ifr) (λ e. omega (arith, e)));
    }

-- n clocks of the chip are n of the pair and n of the shift register: no clock moves CB2's level
pub parts_after :
    (n : ℕ) (v : Via)
    → after n clock_of v
    ≡ with_timers (after n Pair.clocked (timers_of v)) (with_shifter (after n (Shift.clocked (level_cb2 v)) (shifter_of v)) v)
unfolding clock_of with_timers with_shifter put_timers put_shifter
parts_after n v =
    after_agree (λ u. level_cb2 u ≡ level_cb2 v) clock_of
    (moving_both Pair.clocked timers_of put_timers (Shift.clocked (level_cb2 v)) shifter_of put_shifter)
    (λ u e. ap (λ (b : Bool). with_timers (Pair.clocked (timers_of u)) (with_shifter (Shift.clocked b (shifter_of u)) u)) e)
    (λ u e. e) n v refl
    ∙ both_after Pair.clocked timers_of put_timers (Shift.clocked (level_cb2 v)) shifter_of put_shifter (apart (level_cb2 v)) n v

-- and n of each timer
pub each_after :
    (n : ℕ) (v : Via)
    → after n clock_of v
    ≡ with_timers (record { t1 = after n First.clocked (timers_of v).t1; t2 = after n Second.clocked (timers_of v).t2 })
    (with_shifter (after n (Shift.clocked (level_cb2 v)) (shifter_of v)) v)
each_after n v =
    parts_after n v
    ∙ ap (λ (p : Timers). with_timers p (with_shifter (after n (Shift.clocked (level_cb2 v)) (shifter_of v)) v)) (each n (timers_of v))

-- the flags that clocks move, after n of them
pub flag1_after : (n : ℕ) (v : Via) → bit 6 (after n clock_of v).ifr ≡ (after n First.clocked (timers_of v).t1).flag
unfolding with_timers
flag1_after n v = ap (λ (u : Via). bit 6 u.ifr) (each_after n v) ∙ flag1 _ _ _

pub flag2_after : (n : ℕ) (v : Via) → bit 5 (after n clock_of v).ifr ≡ (after n Second.clocked (timers_of v).t2).flag
unfolding with_timers
flag2_after n v = ap (λ (u : Via). bit 5 u.ifr) (each_after n v) ∙ flag2 _ _ _

-- the whole pair
pub timers_after : (n : ℕ) (v : Via) → timers_of (after n clock_of v) ≡ after n Pair.clocked (timers_of v)
unfolding timers_of with_shifter
timers_after n v =
    ap timers_of (parts_after n v)
    ∙ timers_put (after n Pair.clocked (timers_of v)) (with_shifter (after n (Shift.clocked (level_cb2 v)) (shifter_of v)) v)
    (after_keeps (λ (p : Timers). p.t1.free ≡ bit 6 v.acr) Pair.clocked (λ p e. keeps_free p.t1 ∙ e) n (timers_of v) refl)
    (after_keeps (λ (p : Timers). p.t2.pulse ≡ bit 5 v.acr) Pair.clocked (λ p e. keeps_mode p.t2 ∙ e) n (timers_of v) refl)

-- and the whole shift register
pub shifter_after : (n : ℕ) (v : Via) → shifter_of (after n clock_of v) ≡ after n (Shift.clocked (level_cb2 v)) (shifter_of v)
unfolding shifter_of
shifter_after n v =
    let s = after n (Shift.clocked (level_cb2 v)) (shifter_of v) in
    ap shifter_of (parts_after n v)
    ∙ shifter_past (with_shifter s v) (after n Pair.clocked (timers_of v))
    ∙ shifter_put s v
    (after_keeps (λ (u : Shifter). u.mode ≡ mode_of v.acr) (Shift.clocked (level_cb2 v)) (λ u e. clock_mode (level_cb2 v) u ∙ e) n (shifter_of v) refl)
