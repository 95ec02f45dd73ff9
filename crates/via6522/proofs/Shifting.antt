-- The shift register under the calls that move it: accesses, pulses on CB1, runs. Eight turns that shift are eight shifts.
use Rattle.std.specs.Prelude.{None}
use mathlib.Core.Path.{◌≡◌, refl, sym, ap, ◌∙◌}
use mathlib.Core.Bool.{Bool, true, false, not, ◌&&◌, ◌||◌, and-false, or-false}
use Prim.Native.Nat.{ℕ, zero, suc, ◌-◌, ◌<◌, ◌≤◌}
use native.Mathlib.Omega.{arith}
use lib.Dec.{eqb, leb, lit<, lit≤}
use borrow.Author.Tests.{le-ltb}
use Rattle.clocks.specs.Clocks.{after, in_turn}
use Rattle.clocks.specs.Bits.{bit, with_bit, with_clear}
use Rattle.clocks.proofs.Bits.{bit_here, bit_other, bit_clear, bit_power, with_lt}
use Rattle.calls.specs.declared.Call22.{Call22}
use Rattle.calls.specs.declared.Call22.TheVariants.{Write, Read, Pins, Run}
use Rattle.chips.specs.Chips.{answer, next}
use Rattle.chips.proofs.Chips as Chips
use Rattle.flags.specs.Flags.{raised, access_clears, read_clears, write_clears}
use Rattle.flags.specs.Demands.{edge_at}
use Rattle.flags.proofs.Demands.{raised_by_bit}
use Rattle.shifter.specs.Shifter as Shift
use Rattle.shifter.specs.Shifter.{by_clock, by_pulse, outward, shifted, shifts, pulsed, accessed}
use Rattle.shifter.specs.declared.Shifter.{Shifter}
use Rattle.shifter.proofs.Runs.{two_clocks, on_rise, no_rise, other_modes, pulsed_mode}
use Rattle.shifter.proofs.Shifts.{left_after}
use Rattle.shifter.proofs.Demands.{eight_out, eight_in, eighth_flags, sixteen_clocks}
use Rattle.via6522.specs.Record.{mode_of, well_formed}
use Rattle.via6522.specs.Access.{read_asks, data_of, read_of, restarted, write_asks, stored, write_of}
use Rattle.via6522.specs.Pins as PinsOf
use Rattle.via6522.specs.Pins.{pins_asks, shift_pulsed, settled, pins_of}
use Rattle.via6522.specs.Clock.{shifter_of, with_shifter, level_cb2, clock_of}
use Rattle.via6522.specs.Chip.{asks_of, leaves_of, chip, clocked}
use Rattle.via6522.specs.Demands.{Levels, pins_with, pulse, Sent, Received}
use Rattle.via6522.specs.declared.Via.{Via}
use Rattle.via6522.specs.declared.Answer.{Answer}
use Rattle.via6522.proofs.Formed.{formed, well}
use Rattle.via6522.proofs.Keeps.{leaves_formed}
use Rattle.via6522.proofs.Lens.{shifter_after}
use Rattle.via6522.proofs.Lawful.{lawful, ticks}

-- what an accepted call leaves
module _ (c : Call22) (v : Via) (e : asks_of c v ≡ None) (w : well_formed v ≡ true) where
  leaves : next chip c v ≡ leaves_of c v
  leaves = ap (λ r. r.via) (Chips.accepts_well chip lawful c v w e)

  leaves_well : well_formed (next chip c v) ≡ true
  leaves_well = rw leaves (well (leaves_of c v) (leaves_formed c v e (formed v w)))

-- ---- accesses

pub read_well : (v : Via) → well_formed v ≡ true → well_formed (next chip (Read 10) v) ≡ true
unfolding read_asks
read_well v w = leaves_well (Read 10) v refl w

pub write_well : (x : ℕ) (v : Via) → well_formed v ≡ true → well_formed (next chip (Write 10 x) v) ≡ true
unfolding write_asks
write_well x v w = leaves_well (Write 10 x) v refl w

-- IFR2 after an access
cleared : (x : ℕ) → bit 2 (with_clear 4 x) ≡ false
cleared x = bit_clear 2 4 x ∙ rw (bit_power 2 2) (and-false (bit 2 x))

-- with another flag
abbrev flagged : Bool → Shifter → Shifter
flagged b s = record { byte = s.byte; left = s.left; half = s.half; output = s.output; flag = b; mode = s.mode }

pub read_access : (v : Via) → well_formed v ≡ true → shifter_of (next chip (Read 10) v) ≡ accessed (shifter_of v)
unfolding read_asks read_of restarted read_clears access_clears shifter_of accessed
read_access v w = ap shifter_of (leaves (Read 10) v refl w) ∙ ap (λ (b : Bool). flagged b (accessed (shifter_of v))) (cleared v.ifr)

-- in another mode
abbrev moded : ℕ → Shifter → Shifter
moded m s = record { byte = s.byte; left = s.left; half = s.half; output = s.output; flag = s.flag; mode = m }

-- with another byte
abbrev pub with_byte : ℕ → Shifter → Shifter
with_byte x s = record { byte = x; left = s.left; half = s.half; output = s.output; flag = s.flag; mode = s.mode }

pub write_access : (x : ℕ) (v : Via) → well_formed v ≡ true → shifter_of (next chip (Write 10 x) v) ≡ accessed (with_byte x (shifter_of v))
unfolding write_asks write_of stored restarted write_clears access_clears shifter_of accessed
write_access x v w =
    ap shifter_of (leaves (Write 10 x) v refl w)
    ∙ ap (λ (b : Bool). flagged b (accessed (with_byte x (shifter_of v)))) (cleared v.ifr)

-- ---- pins

-- a pins call with levels of four lines is accepted
module _ (pa pb control : ℕ) (v : Via) (w : well_formed v ≡ true) (h : control < 16) where
  pins_asks_lem : asks_of (Pins pa pb control) v ≡ None
  unfolding pins_asks
  pins_asks_lem = rw (le-ltb 15 control (omega arith))

  pins_leave : next chip (Pins pa pb control) v ≡ pins_of pa pb control v
  pins_leave = leaves (Pins pa pb control) v pins_asks_lem w

  -- flags that neither pulse moves
  pub edges_flag :
      (k : ℕ) → (k ≡ 2 → ⊥) → (k ≡ 5 → ⊥)
      → bit k (next chip (Pins pa pb control) v).ifr ≡ (bit k v.ifr || edge_at k v.pcr v.control control)
  unfolding pins_of settled with_shifter
  edges_flag k p q =
      let t = (PinsOf.pulsed pb v).flag in
      let s = (shift_pulsed control v).flag in
      ap (λ (u : Via). bit k u.ifr) pins_leave
      ∙ raised_by_bit k v.pcr v.control control (with_bit 2 s (with_bit 5 t v.ifr))
      ∙ ap (λ (b : Bool). b || edge_at k v.pcr v.control control)
      (bit_other 2 s k (with_bit 5 t v.ifr) p ∙ bit_other 5 t k v.ifr q)

-- with the levels of a bench: the shift register as a rise of CB1 leaves it, the new levels, and the mode
module _ (cb1 : Bool) (l : Levels) (v : Via) (w : well_formed v ≡ true) where
  abbrev control : ℕ
  control = with_bit 0 l.ca1 (with_bit 1 l.ca2 (with_bit 2 cb1 (with_bit 3 l.cb2 0)))

  within : control < 16
  within =
      with_lt 4 0 l.ca1 _ (lit< tt)
      (with_lt 4 1 l.ca2 _ (lit< tt) (with_lt 4 2 cb1 _ (lit< tt) (with_lt 4 3 l.cb2 0 (lit< tt) (lit< tt))))

  levels_leave : next chip (pins_with cb1 l) v ≡ pins_of l.pa l.pb control v
  levels_leave = pins_leave l.pa l.pb control v w within

  pub pins_well : well_formed (next chip (pins_with cb1 l) v) ≡ true
  pins_well = leaves_well (pins_with cb1 l) v (pins_asks_lem l.pa l.pb control v w within) w

  pub pins_mode : (next chip (pins_with cb1 l) v).acr ≡ v.acr
  unfolding pins_of settled with_shifter
  pins_mode = ap (λ (u : Via). u.acr) levels_leave

  cb1_level : bit 2 control ≡ cb1
  cb1_level =
      bit_other 0 l.ca1 2 _ (λ e. omega (arith, e)) ∙ bit_other 1 l.ca2 2 _ (λ e. omega (arith, e)) ∙ bit_here 2 cb1 _

  cb2_level : bit 3 control ≡ l.cb2
  cb2_level =
      bit_other 0 l.ca1 3 _ (λ e. omega (arith, e))
      ∙ bit_other 1 l.ca2 3 _ (λ e. omega (arith, e))
      ∙ bit_other 2 cb1 3 _ (λ e. omega (arith, e))
      ∙ bit_here 3 l.cb2 0

  pub pins_cb1 : bit 2 (next chip (pins_with cb1 l) v).control ≡ cb1
  unfolding pins_of settled
  pins_cb1 = ap (λ (u : Via). bit 2 u.control) levels_leave ∙ cb1_level

  pub pins_cb2 : level_cb2 (next chip (pins_with cb1 l) v) ≡ l.cb2
  unfolding pins_of settled
  pins_cb2 = ap level_cb2 levels_leave ∙ cb2_level

  -- no edge of a control line sets IFR2
  flag_past : (x : ℕ) (b : Bool) → bit 2 (raised v.pcr v.control control (with_bit 2 b x)) ≡ b
  flag_past x b =
      raised_by_bit 2 v.pcr v.control control (with_bit 2 b x) ∙ or-false (bit 2 (with_bit 2 b x)) ∙ bit_here 2 b x

  pub pins_shift :
      shifter_of (next chip (pins_with cb1 l) v) ≡ pulsed (not (bit 2 v.control) && cb1) l.cb2 (shifter_of v)
  unfolding pins_of settled with_shifter shift_pulsed shifter_of
  pins_shift =
      let s = shift_pulsed control v in
      let counted = with_bit 5 (PinsOf.pulsed l.pb v).flag v.ifr in
      ap shifter_of levels_leave
      ∙ (λ i. moded (sym (pulsed_mode (not (bit 2 v.control) && bit 2 control) (bit 3 control) (shifter_of v)) i) (flagged (flag_past counted s.flag i) s))
      ∙ (λ i. pulsed (not (bit 2 v.control) && cb1_level i) (cb2_level i) (shifter_of v))

-- ---- turns that shift

-- well formed, in mode m, and no shift begun
pub record Ready (m : ℕ) (v : Via) : Type 0 where
  pub well : well_formed v ≡ true
  pub mode : mode_of v.acr ≡ m
  pub whole : v.sr.half ≡ false

-- a turn that makes one shift, while some are to come, with CB2 at the level named
pub record Turn (m : ℕ) (level : Via → Bool) (turn : Via → Via) : Type 0 where
  pub shift : (v : Via) → Ready m v → 0 < v.sr.left → shifter_of (turn v) ≡ shifted (level v) (shifter_of v)
  pub keeps : (v : Via) → Ready m v → well_formed (turn v) ≡ true

-- n of them are n shifts
module _ (m : ℕ) (level : ℕ → Via → Bool) (turn : ℕ → Via → Via) (T : (k : ℕ) → Turn m (level k) (turn k)) where
  abbrev levels : Via → ℕ → Bool
  levels v k = level k (in_turn k turn v)

  pub turns_shift :
      (v : Via) → Ready m v → (n : ℕ) → n ≤ v.sr.left
      → Ready m (in_turn n turn v) × (shifter_of (in_turn n turn v) ≡ shifts n (levels v) (shifter_of v))
  unfolding in_turn shifter_of shifted
  turns_shift v r zero h = (r, refl)
  turns_shift v r (suc n) h =
      let before = turns_shift v r n (omega arith) in
      let u = in_turn n turn v in
      let some : u.sr.left ≡ v.sr.left - n = ap (λ (s : Shifter). s.left) before.1 ∙ left_after (levels v) (shifter_of v) n (omega arith) in
      let e = (T n).shift u before.0 (omega arith) in (
        record {
          well = (T n).keeps u before.0;
          mode = ap (λ (s : Shifter). s.mode) e ∙ before.0.mode;
          whole = ap (λ (s : Shifter). s.half) e ∙ before.0.whole;
        },
        e ∙ ap (shifted (level n u)) before.1,
      )

-- two clocks
run_of_two : (v : Via) → well_formed v ≡ true → next chip (Run 2) v ≡ after 2 clock_of v
run_of_two v w = Chips.run_well_leaves chip lawful clocked ticks 2 v (lit≤ tt) w

two_shift : (m : ℕ) → by_clock m ≡ true → (v : Via) → Ready m v → 0 < v.sr.left → shifter_of (next chip (Run 2) v) ≡ shifted (level_cb2 v) (shifter_of v)
unfolding shifter_of
two_shift m c v r h =
    ap shifter_of (run_of_two v r.well)
    ∙ shifter_after 2 v
    ∙ two_clocks (level_cb2 v) (shifter_of v) (ap by_clock r.mode ∙ c) h r.whole

two_well : (v : Via) → well_formed v ≡ true → well_formed (next chip (Run 2) v) ≡ true
two_well v w = rw (run_of_two v w) (Chips.runs_well chip lawful clocked ticks 2 v w)

pub clocks_turn : (m : ℕ) → by_clock m ≡ true → Turn m level_cb2 (next chip (Run 2))
clocks_turn m c = record { shift = two_shift m c; keeps = λ v r. two_well v r.well }

-- new levels, which modes 2 and 6 do not shift by, and then two clocks
pub levels_turn : (cb1 : Bool) (l : Levels) → Turn 2 (λ v. l.cb2) (λ v. next chip (Run 2) (next chip (pins_with cb1 l) v))
unfolding shifter_of
levels_turn cb1 l =
    record {
      shift = λ v r h.
          let u = next chip (pins_with cb1 l) v in
          let s = still v r in
          two_shift 2 refl u (ready v r) (rw (ap (λ (s : Shifter). s.left) s) h)
          ∙ (λ i. shifted (pins_cb2 cb1 l v r.well i) (s i));
      keeps = λ v r. two_well (next chip (pins_with cb1 l) v) (pins_well cb1 l v r.well);
    }
  where
    still : (v : Via) → Ready 2 v → shifter_of (next chip (pins_with cb1 l) v) ≡ shifter_of v
    still v r = pins_shift cb1 l v r.well ∙ other_modes _ l.cb2 (shifter_of v) (ap by_pulse r.mode)

    ready : (v : Via) → Ready 2 v → Ready 2 (next chip (pins_with cb1 l) v)
    ready v r =
        record {
          well = pins_well cb1 l v r.well;
          mode = ap mode_of (pins_mode cb1 l v r.well) ∙ r.mode;
          whole = ap (λ (s : Shifter). s.half) (still v r) ∙ r.whole;
        }

-- a fall of CB1, which shifts nothing, and then a rise
pub pulse_turn : (m : ℕ) → by_pulse m ≡ true → (fall rise : Levels) → Turn m (λ v. rise.cb2) (pulse fall rise)
unfolding shifter_of
pulse_turn m p fall rise =
    record {
      shift = λ v r h.
          let u = next chip (pins_with false fall) v in
          let w = pins_well false fall v r.well in
          pins_shift true rise u w
          ∙ (λ i. pulsed (not (pins_cb1 false fall v r.well i) && true) rise.cb2 (low v r i))
          ∙ on_rise rise.cb2 (shifter_of v) (ap by_pulse r.mode ∙ p);
      keeps = λ v r. pins_well true rise (next chip (pins_with false fall) v) (pins_well false fall v r.well);
    }
  where
    low : (v : Via) → Ready m v → shifter_of (next chip (pins_with false fall) v) ≡ shifter_of v
    low v r =
        pins_shift false fall v r.well
        ∙ ap (λ (b : Bool). pulsed b fall.cb2 (shifter_of v)) (and-false (not (bit 2 v.control)))
        ∙ no_rise fall.cb2 (shifter_of v)

-- ---- runs after an access
pub flag_after_access :
    (s : Shifter) (v : Via) (n : ℕ) → n ≤ 4294967295 → well_formed v ≡ true → shifter_of v ≡ accessed s → by_clock s.mode ≡ true
    → bit 2 (next chip (Run n) v).ifr ≡ leb 16 n
unfolding shifter_of
flag_after_access s v n h w a m =
    ap (λ (u : Via). (shifter_of u).flag) (Chips.run_well_leaves chip lawful clocked ticks n v h w)
    ∙ ap (λ (u : Shifter). u.flag) (shifter_after n v ∙ ap (after n (Shift.clocked (level_cb2 v))) a)
    ∙ sixteen_clocks (level_cb2 v) s n m

-- ---- eight shifts, from an access on

-- an access in a mode that shifts leaves eight shifts to come and IFR2 clear
pub record Begun (m : ℕ) (v : Via) : Type 0 where
  pub ready : Ready m v
  pub eight : v.sr.left ≡ 8
  pub clear : bit 2 v.ifr ≡ false

begun :
    (m : ℕ) → (by_clock m || by_pulse m) ≡ true → (s : Shifter) (v : Via) → s.mode ≡ m → well_formed v ≡ true
    → shifter_of v ≡ accessed s → Begun m v
unfolding shifter_of accessed
begun m on s v e w a =
    let shifting : (by_clock s.mode || by_pulse s.mode) ≡ true = ap (λ (n : ℕ). by_clock n || by_pulse n) e ∙ on in
    record {
      ready = record { well = w; mode = ap (λ (s : Shifter). s.mode) a ∙ e; whole = ap (λ (s : Shifter). s.half) a ∙ rw shifting };
      eight = ap (λ (s : Shifter). s.left) a ∙ rw shifting;
      clear = ap (λ (s : Shifter). s.flag) a;
    }

module _ (m : ℕ) (on : (by_clock m || by_pulse m) ≡ true) (v : Via) (w : well_formed v ≡ true) (e : mode_of v.acr ≡ m) where
  pub read_begins : Begun m (next chip (Read 10) v)
  unfolding shifter_of
  read_begins = begun m on (shifter_of v) (next chip (Read 10) v) e (read_well v w) (read_access v w)

  pub write_begins : (x : ℕ) → Begun m (next chip (Write 10 x) v)
  unfolding shifter_of
  write_begins x =
      begun m on (with_byte x (shifter_of v)) (next chip (Write 10 x) v) e (write_well x v w) (write_access x v w)

module _ (m : ℕ) (level : ℕ → Via → Bool) (turn : ℕ → Via → Via) (T : (k : ℕ) → Turn m (level k) (turn k)) (v : Via) (b : Begun m v) where
  abbrev made : ℕ → Shifter
  made n = shifts n (levels m level turn T v) (shifter_of v)

  as_shifts : (n : ℕ) → n ≤ 8 → shifter_of (in_turn n turn v) ≡ made n
  as_shifts n h = (turns_shift m level turn T v b.ready n (omega (arith, b.eight))).1

  flags : (k : ℕ) → k ≤ 8 → bit 2 (in_turn k turn v).ifr ≡ eqb k 8
  unfolding shifter_of
  flags k h = ap (λ (s : Shifter). s.flag) (as_shifts k h) ∙ eighth_flags (levels m level turn T v) (shifter_of v) k h b.eight b.clear

  -- what a read of SR then gives
  reads : (answer chip (Read 10) (in_turn 8 turn v)).«data» ≡ (made 8).byte
  unfolding shifter_of read_asks data_of
  reads =
      let u = in_turn 8 turn v in
      let w = (turns_shift m level turn T v b.ready 8 (omega (arith, b.eight))).0.well in
      ap (λ (r : Answer). r.«data») (Chips.accepts_well chip lawful (Read 10) u w refl)
      ∙ ap (λ (s : Shifter). s.byte) (as_shifts 8 (lit≤ tt))

  pub sent : outward m ≡ true → (x : ℕ) → x < 256 → v.sr.byte ≡ x → Sent x turn v
  unfolding shifter_of
  sent o x h e =
      let out = eight_out (levels m level turn T v) (shifter_of v) (ap outward b.ready.mode ∙ o) (rw e h) in
      record {
        bits = λ k g. ap (λ (s : Shifter). s.output) (as_shifts (suc k) (omega arith)) ∙ out.0 k g ∙ ap (bit (7 - k)) e;
        flag = flags;
        byte = reads ∙ out.1 ∙ e;
      }

  pub received : outward m ≡ false → Received (levels m level turn T v) turn v
  unfolding shifter_of
  received o =
      let in_order = eight_in (levels m level turn T v) (shifter_of v) (ap outward b.ready.mode ∙ o) in
      record { bits = λ k g. ap (bit (7 - k)) reads ∙ in_order.0 k g; flag = flags }
