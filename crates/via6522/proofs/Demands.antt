-- The statements of specs/Demands.antt, proved.
use Rattle.std.specs.Prelude.{if◌then◌else◌, Option, None, Some}
use mathlib.Core.Path.{◌≡◌, refl, ap, ◌∙◌}
use mathlib.Core.Bool.{Bool, true, false, ◌&&◌}
use Prim.Native.Nat.{ℕ, ◌<◌}
use native.Mathlib.Omega.{arith}
use lib.Dec.{eqb, lit<}
use Rattle.clocks.specs.Bits.{bit, with_bit, with_clear}
use Rattle.clocks.proofs.Bits.{bit_with, bit_clear}
use Rattle.calls.specs.declared.Refusal.{Refusal}
use Rattle.calls.specs.declared.Call22.TheVariants.{Write, Read, Run}
use Rattle.chips.specs.Chips.{next}
use Rattle.chips.proofs.Chips as Chips
use Rattle.ports.specs.Ports.{lines_for}
use Rattle.ports.proofs.Demands as Ports
use Rattle.timers.proofs.Passings.{rounds, idle}
use Rattle.shifter.specs.Shifter.{accessed}
use Rattle.shifter.specs.declared.Shifter.{Shifter}
use Rattle.via6522.specs.Record.{well_formed, reset_of}
use Rattle.via6522.specs.Ports.{lines_b, shown_a, shown_b}
use Rattle.via6522.specs.Clock.{timers_of, with_timers, shifter_of, with_shifter, level_cb2}
use Rattle.via6522.specs.Chip.{chip, clocked, lined, flags, reading_of}
use Rattle.via6522.specs.Demands
use Rattle.via6522.specs.Demands.{pins_with, pulse}
use Rattle.via6522.proofs.Formed.{formed}
use Rattle.via6522.proofs.Lens.{flag1, each_after}
use Rattle.via6522.proofs.Lawful.{lawful, ticks}
use Rattle.via6522.proofs.Watched.{watched}
use Rattle.via6522.proofs.Shifting as Shifting
use Rattle.via6522.proofs.Shifting.{read_well, write_well, with_byte, read_access, write_access, flag_after_access, clocks_turn, levels_turn, pulse_turn, read_begins, write_begins, sent, received}

-- ---- what is asked of every chip

pub answers : Demands.Answers
answers = Chips.answers chip lawful

pub runs : Demands.Runs
runs = Chips.runs chip lawful clocked ticks

pub lines : Demands.Lines
lines = Chips.lines chip lawful clocked ticks lined watched

-- ---- what request 14 asks
pub keeps_word : Demands.KeepsWord
keeps_word = Chips.keeps_word chip lawful clocked ticks lined watched

pub runs_add : Demands.RunsAdd
runs_add = Chips.runs_add chip lawful clocked ticks

pub largest_forecast_lem : Demands.LargestForecast
largest_forecast_lem = Chips.largest_forecast_lem chip lawful clocked ticks lined watched

-- ---- what is the chip's own
pub power_up_reset : Demands.PowerUpReset
unfolding reset_of
power_up_reset = refl

pub lines_by_bit_b : Demands.LinesByBitB
unfolding lines_b
lines_by_bit_b v outside k h l = go (bit 7 v.acr)
  where
    lines : ℕ
    lines = lines_for outside v.b

    rule : Bool
    rule = if bit k v.b.ddr then bit k v.b.output else bit k outside

    plain : bit k lines ≡ rule
    plain = Ports.lines_by_bit v.b outside k h l

    go : (b : Bool) → bit k (if b then with_bit 7 v.t1.level lines else lines) ≡ (if b && eqb k 7 then v.t1.level else rule)
    go true = bit_with 7 v.t1.level k lines ∙ ap (λ (q : Bool). if eqb k 7 then v.t1.level else q) plain
    go false = plain

-- a bit of the byte that is picked
bit_picked : (k : ℕ) (b : Bool) (x y : ℕ) → bit k (if b then x else y) ≡ (if b then bit k x else bit k y)
bit_picked k b x y = grind arith

pub shown_by_bit_a : Demands.ShownByBitA
unfolding shown_a
shown_by_bit_a v k h l =
    bit_picked k (bit 0 v.acr && bit 1 v.ifr) v.kept_a (lines_for v.a.outside v.a)
    ∙ ap (λ (q : Bool). if bit 0 v.acr && bit 1 v.ifr then bit k v.kept_a else q) (Ports.lines_by_bit v.a v.a.outside k h l)

pub shown_by_bit_b : Demands.ShownByBitB
unfolding shown_b
shown_by_bit_b v k h l =
    let kept = bit 1 v.acr && bit 4 v.ifr in
    lines_by_bit_b v (if kept then v.kept_b else v.b.outside) k h l
    ∙ ap (λ (q : Bool). if bit 7 v.acr && eqb k 7 then v.t1.level else (if bit k v.b.ddr then bit k v.b.output else q))
    (bit_picked k kept v.kept_b v.b.outside)

pub t1_period : Demands.T1Period
unfolding timers_of with_timers with_shifter
t1_period v n w m = rw (each_after n v) (rounds (timers_of v).t1 m ((formed v w).top m) n)

pub t1_disarmed : Demands.T1Disarmed
unfolding timers_of with_timers with_shifter
t1_disarmed v n f a = rw (each_after n v) (let h = idle (timers_of v).t1 f a n in (h.disarmed, flag1 _ _ _ ∙ h.flag, h.level))

pub read_answers : Demands.ReadAnswers
unfolding reading_of
read_answers r v = refl

pub cleared_by_bit : Demands.ClearedByBit
unfolding reading_of
cleared_by_bit r k v = bit_clear k (next chip (Read r) v).ifr v.ifr

pub refused_clears_none : Demands.RefusedClearsNone
unfolding reading_of
refused_clears_none r v z = go (reading_of r v).answer.refusal refl
  where
    go : (k : Option Refusal) → (reading_of r v).answer.refusal ≡ k → (reading_of r v).cleared ≡ 0
    go None e = absurd (z e)
    go (Some q) e = Chips.refused_clears chip lawful flags (Read r) v q e

-- no mask has more than the record's own flags, and an ill-formed record is refused
pub mask_seven : Demands.MaskSeven
unfolding reading_of with_clear
mask_seven r v = go (well_formed v) refl
  where
    go : (b : Bool) → well_formed v ≡ b → (reading_of r v).cleared < 128
    go true w = omega (arith, (formed v w).flags)
    go false w = rw (Chips.kept_clears chip lawful flags (Read r) v (Chips.ill_leaves chip lawful (Read r) v w)) (lit< tt)

-- ---- what request 06 asks
pub accesses_shift : Demands.AccessesShift
unfolding shifter_of
accesses_shift x v w = (read_access v w, write_access x v w)

pub sends_by_clocks : Demands.SendsByClocks
unfolding shifter_of accessed
sends_by_clocks x v h w e =
    sent 6 (λ k. level_cb2) (λ k. next chip (Run 2)) (λ k. clocks_turn 6 refl) _ (write_begins 6 refl v w e x) refl x h
    (ap (λ (s : Shifter). s.byte) (write_access x v w))

pub sends_by_pulses : Demands.SendsByPulses
unfolding shifter_of accessed
sends_by_pulses x fall rise v h w e =
    sent 7 (λ k u. (rise k).cb2) (λ k. pulse (fall k) (rise k)) (λ k. pulse_turn 7 refl (fall k) (rise k)) _ (write_begins 7 refl v w e x) refl
    x h
    (ap (λ (s : Shifter). s.byte) (write_access x v w))

pub receives_by_clocks : Demands.ReceivesByClocks
receives_by_clocks cb1 l v w e =
    received 2 (λ k u. (l k).cb2) (λ k u. next chip (Run 2) (next chip (pins_with (cb1 k) (l k)) u)) (λ k. levels_turn (cb1 k) (l k)) _
    (read_begins 2 refl v w e) refl

pub receives_by_pulses : Demands.ReceivesByPulses
receives_by_pulses fall rise v w e =
    received 3 (λ k u. (rise k).cb2) (λ k. pulse (fall k) (rise k)) (λ k. pulse_turn 3 refl (fall k) (rise k)) _ (read_begins 3 refl v w e) refl

pub edges_flag : Demands.EdgesFlag
edges_flag k pa pb control v w h p q = Shifting.edges_flag pa pb control v w h k p q

pub sixteen_clocks : Demands.SixteenClocks
unfolding shifter_of
sixteen_clocks x n v h w m = (
  flag_after_access (shifter_of v) (next chip (Read 10) v) n h (read_well v w) (read_access v w) m,
  flag_after_access (with_byte x (shifter_of v)) (next chip (Write 10 x) v) n h (write_well x v w) (write_access x v w) m,
)
