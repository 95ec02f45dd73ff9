-- When the interrupt line is asserted: by the flag of a timer or of the shift register, or by one that no clock moves.
use Rattle.std.specs.Prelude.{if◌then◌else◌}
use mathlib.Core.Path.{◌≡◌, sym, ap, ap₂, ◌∙◌}
use mathlib.Core.Bool.{Bool, false, ◌&&◌, ◌||◌}
use Prim.Native.Nat.{ℕ}
use native.Mathlib.Omega.{arith}
use lib.Dec.{leb-zero, lit<}
use Rattle.clocks.specs.Clocks.{after}
use Rattle.clocks.specs.Bits.{bit, with_bit, shares}
use Rattle.clocks.specs.Forecasts.{comes, sooner_of}
use Rattle.clocks.specs.declared.Forecast.{Forecast}
use Rattle.clocks.specs.declared.Forecast.TheVariants.{Never, In}
use Rattle.clocks.proofs.Bits.{with_swap, shares_with}
use Rattle.clocks.proofs.Forecasts.{sooner_comes, gate_comes}
use Rattle.timers.specs.First as First
use Rattle.timers.specs.Second as Second
use Rattle.shifter.specs.Shifter as Shift
use Rattle.via6522.specs.Flags.{irq_of}
use Rattle.via6522.specs.Clock.{timers_of, with_timers, shifter_of, with_shifter, level_cb2, clock_of}
use Rattle.via6522.specs.Closed.{steady, soonest}
use Rattle.via6522.specs.declared.Via.{Via}
use Rattle.via6522.proofs.Lens.{flags, each_after}

-- IFR with the flags of T1, T2 and the shift register, which are those that clocks move
abbrev moved : Bool → Bool → Bool → ℕ → ℕ
moved a b c x = flags a b (with_bit 2 c x)

-- each of them by itself
line_split :
    (a b c : Bool) (x y : ℕ)
    → shares 8 (moved a b c x) y ≡ (a && bit 6 y || (b && bit 5 y || (c && bit 2 y || shares 8 (moved false false false x) y)))
line_split a b c x y =
    shares_with 8 6 a (with_bit 5 b (with_bit 2 c x)) y (lit< tt)
    ∙ ap (λ (r : Bool). a && bit 6 y || r)
    (ap (λ (z : ℕ). shares 8 z y) (with_swap 6 5 false b (with_bit 2 c x) (λ e. omega (arith, e)))
    ∙ shares_with 8 5 b (with_bit 6 false (with_bit 2 c x)) y (lit< tt)
    ∙ ap (λ (r : Bool). b && bit 5 y || r)
    (ap (λ (z : ℕ). shares 8 z y) (first c)
    ∙ shares_with 8 2 c (with_bit 5 false (with_bit 6 false x)) y (lit< tt)
    ∙ ap (λ (r : Bool). c && bit 2 y || r) (ap (λ (z : ℕ). shares 8 z y) last)))
  where
    first : (c : Bool) → with_bit 5 false (with_bit 6 false (with_bit 2 c x)) ≡ with_bit 2 c (with_bit 5 false (with_bit 6 false x))
    first c =
        ap (with_bit 5 false) (with_swap 6 2 false c x (λ e. omega (arith, e)))
        ∙ with_swap 5 2 false c (with_bit 6 false x) (λ e. omega (arith, e))

    last : with_bit 2 false (with_bit 5 false (with_bit 6 false x)) ≡ moved false false false x
    last = sym (first false) ∙ with_swap 5 6 false false (with_bit 2 false x) (λ e. omega (arith, e))

-- the four forecasts, taken apart
four : (v : Via) (f g h : Forecast) (k : ℕ) →
    comes (soonest v f g h) k
    ≡ (comes f k && bit 6 v.ier
    || (comes g k && bit 5 v.ier || (comes h k && bit 2 v.ier || shares 8 (moved false false false v.ifr) v.ier)))
unfolding soonest steady
four v f g h k =
    let others = shares 8 (moved false false false v.ifr) v.ier in
    let first = if bit 6 v.ier then f else Never in
    let second = if bit 5 v.ier then g else Never in
    let third = if bit 2 v.ier then h else Never in
    let now = if others then In 0 else Never in
    sooner_comes first (sooner_of second (sooner_of third now)) k
    ∙ ap₂ ◌||◌ (gate_comes (bit 6 v.ier) f k)
    (sooner_comes second (sooner_of third now) k
    ∙ ap₂ ◌||◌ (gate_comes (bit 5 v.ier) g k)
    (sooner_comes third now k
    ∙ ap₂ ◌||◌ (gate_comes (bit 2 v.ier) h k) (gate_comes others (In 0) k ∙ ap (λ (b : Bool). b && others) (leb-zero k))))

-- where f, g and h say when the flags of T1, T2 and the shift register are set, the soonest says when the line is asserted
pub line_after :
    (v : Via) (f g h : Forecast)
    → ((k : ℕ) → (after k First.clocked (timers_of v).t1).flag ≡ comes f k)
    → ((k : ℕ) → (after k Second.clocked (timers_of v).t2).flag ≡ comes g k)
    → ((level : Bool) (k : ℕ) → (after k (Shift.clocked level) (shifter_of v)).flag ≡ comes h k)
    → (k : ℕ) → irq_of (after k clock_of v) ≡ comes (soonest v f g h) k
unfolding with_timers with_shifter
line_after v f g h hf hg hh k =
    ap irq_of (each_after k v)
    ∙ (λ i. shares 8 (moved (hf k i) (hg k i) (hh (level_cb2 v) k i) v.ifr) v.ier)
    ∙ line_split (comes f k) (comes g k) (comes h k) v.ifr v.ier
    ∙ sym (four v f g h k)
