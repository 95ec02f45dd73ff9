-- What the three demands and the requests ask of the 6522 beyond the promise of each entry. proofs/Demands.antt has a proof of each statement, under its name in small letters.
use Rattle.std.specs.Prelude.{◌≡◌, Bool, true, false, not, ◌&&◌, ◌||◌, ℕ, suc, ◌+◌, ◌-◌, ◌%◌, ◌<◌, ◌≤◌, eqb, leb, if◌then◌else◌, None}
use Rattle.clocks.specs.Clocks.{after, in_turn}
use Rattle.clocks.specs.Bits.{bit, with_bit}
use Rattle.calls.specs.declared.Call22.{Call22}
use Rattle.calls.specs.declared.Call22.TheVariants.{Write, Read, Pins, Run}
use Rattle.chips.specs.Chips
use Rattle.chips.specs.Chips.{answer, next}
use Rattle.flags.specs.Demands.{edge_at}
use Rattle.shifter.specs.Shifter.{by_clock, accessed}
use Rattle.via6522.specs.Record.{mode_of, well_formed, power_up, reset_of}
use Rattle.via6522.specs.Ports.{lines_b, shown_a, shown_b}
use Rattle.via6522.specs.Clock.{shifter_of, clock_of}
use Rattle.via6522.specs.Chip.{chip, clocked, lined, reading_of}
use Rattle.via6522.specs.declared.Via.{Via}

-- what is asked of every chip
abbrev pub Answers : Type 0
Answers = Chips.Answers chip

abbrev pub Runs : Type 0
Runs = Chips.Runs chip clocked

abbrev pub Lines : Type 0
Lines = Chips.Lines chip clocked lined

-- request 14, of what `run` and `forecast` give back, with the pins still and no access: a forecast k is k - m after a run of m clocks, m at
-- most k, and 0 after a longer one; never stays never
abbrev pub KeepsWord : Type 0
KeepsWord = Chips.KeepsWord chip clocked lined

-- a run of a clocks and then one of b leave and show what one of a + b does, up to 4,294,967,295
abbrev pub RunsAdd : Type 0
RunsAdd = Chips.RunsAdd chip clocked

-- after any calls from power-up a forecast is never or at most 65,537; some calls make it 65,537; no other number has both
abbrev pub LargestForecast : Type 0
LargestForecast = Chips.LargestForecast chip clocked lined

-- a reset leaves power-up as it is
abbrev pub PowerUpReset : Type 0
PowerUpReset = reset_of power_up ≡ power_up

-- demand 2: a line of port B, bit by bit, under any levels outside: PB7 is T1's level under ACR bit 7, and every other line goes by the rule of ports
abbrev pub LinesByBitB : Type 0
LinesByBitB =
    (v : Via) (outside k : ℕ) → k < 8 → v.b.ddr < 256
    → bit k (lines_b outside v)
    ≡ (if bit 7 v.acr && eqb k 7 then v.t1.level else (if bit k v.b.ddr then bit k v.b.output else bit k outside))

-- what a read of port A shows, bit by bit: the kept lines while ACR bit 0 and IFR1 are set, else the lines
abbrev pub ShownByBitA : Type 0
ShownByBitA =
    (v : Via) (k : ℕ) → k < 8 → v.a.ddr < 256
    → bit k (shown_a v)
    ≡ (if bit 0 v.acr && bit 1 v.ifr then bit k v.kept_a
    else (if bit k v.a.ddr then bit k v.a.output else bit k v.a.outside))

-- and of port B: a kept line, while ACR bit 1 and IFR4 are set, only where DDRB is 0 and T1 does not drive PB7
abbrev pub ShownByBitB : Type 0
ShownByBitB =
    (v : Via) (k : ℕ) → k < 8 → v.b.ddr < 256
    → bit k (shown_b v)
    ≡ (if bit 7 v.acr && eqb k 7 then v.t1.level
    else (if bit k v.b.ddr then bit k v.b.output
    else (if bit 1 v.acr && bit 4 v.ifr then bit k v.kept_b else bit k v.b.outside)))

-- request 02: T1's passings of zero are latch + 2 clocks apart; neither the mode nor the arming matters. Counted from a passing,
-- the mark is set at each multiple of latch + 2 and at no other clock; between two of them the counter falls from the latch to 0
abbrev pub T1Period : Type 0
T1Period =
    (v : Via) (n : ℕ) → well_formed v ≡ true → v.t1.mark ≡ true
    → let r = n % (v.t1.latch + 2) in
    let u = (after n clock_of v).t1 in
    (u.mark ≡ eqb r 0) × (u.counter ≡ (if eqb r 0 then 65535 else v.t1.latch + 1 - r))

-- request 02: a disarmed T1 in one-shot stays disarmed, and its passings leave IFR6 and the level as they are
abbrev pub T1Disarmed : Type 0
T1Disarmed =
    (v : Via) (n : ℕ) → bit 6 v.acr ≡ false → v.t1.armed ≡ false
    → let u = after n clock_of v in
    (u.t1.armed ≡ false) × (bit 6 u.ifr ≡ bit 6 v.ifr) × (u.t1.level ≡ v.t1.level)

-- request 03: a read's answer, beside its mask, is that of the call
abbrev pub ReadAnswers : Type 0
ReadAnswers = (r : ℕ) (v : Via) → (reading_of r v).answer ≡ answer chip (Read r) v

-- bit k of the mask says whether the read found flag k set and left it clear
abbrev pub ClearedByBit : Type 0
ClearedByBit =
    (r k : ℕ) (v : Via) → bit k (reading_of r v).cleared ≡ (bit k v.ifr && not (bit k (reading_of r v).answer.via.ifr))

-- the mask of a refused read is 0
abbrev pub RefusedClearsNone : Type 0
RefusedClearsNone = (r : ℕ) (v : Via) → ((reading_of r v).answer.refusal ≡ None → ⊥) → (reading_of r v).cleared ≡ 0

-- bit 7 is in no mask, whatever record is handed in
abbrev pub MaskSeven : Type 0
MaskSeven = (r : ℕ) (v : Via) → (reading_of r v).cleared < 128

-- ---- request 06: the shift register, by the calls that a bench makes

-- levels outside, but for CB1's
pub record Levels : Type 0 where
  pub pa : ℕ
  pub pb : ℕ
  pub ca1 : Bool
  pub ca2 : Bool
  pub cb2 : Bool

-- the pins call for them, with CB1 at the level that is named
abbrev pub pins_with : Bool → Levels → Call22
pins_with cb1 l = Pins l.pa l.pb (with_bit 0 l.ca1 (with_bit 1 l.ca2 (with_bit 2 cb1 (with_bit 3 l.cb2 0))))

-- CB1 falls and rises, in two pins calls; all other levels are free in both
abbrev pub pulse : Levels → Levels → Via → Via
pulse fall rise v = next chip (pins_with true rise) (next chip (pins_with false fall) v)

-- turn k makes shift k of eight. Outward, each puts a bit of x on CB2, the highest first; the eighth sets IFR2, and a read of SR then
-- gives x back
pub record Sent (x : ℕ) (turn : ℕ → Via → Via) (v : Via) : Type 0 where
  pub bits : (k : ℕ) → k < 8 → (in_turn (suc k) turn v).sr.output ≡ bit (7 - k) x
  pub flag : (k : ℕ) → k ≤ 8 → bit 2 (in_turn k turn v).ifr ≡ eqb k 8
  pub byte : (answer chip (Read 10) (in_turn 8 turn v)).«data» ≡ x

-- inward, a read of SR after the eighth gives the levels, the first in bit 7
pub record Received (levels : ℕ → Bool) (turn : ℕ → Via → Via) (v : Via) : Type 0 where
  pub bits : (k : ℕ) → k < 8 → bit (7 - k) (answer chip (Read 10) (in_turn 8 turn v)).«data» ≡ levels k
  pub flag : (k : ℕ) → k ≤ 8 → bit 2 (in_turn k turn v).ifr ≡ eqb k 8

-- mode 6: x is written, and each turn is a run of 2 clocks; mode 7: each turn is a pulse on CB1
abbrev pub SendsByClocks : Type 0
SendsByClocks =
    (x : ℕ) (v : Via) → x < 256 → well_formed v ≡ true → mode_of v.acr ≡ 6
    → Sent x (λ k. next chip (Run 2)) (next chip (Write 10 x) v)

abbrev pub SendsByPulses : Type 0
SendsByPulses =
    (x : ℕ) (fall rise : ℕ → Levels) (v : Via) → x < 256 → well_formed v ≡ true → mode_of v.acr ≡ 7
    → Sent x (λ k. pulse (fall k) (rise k)) (next chip (Write 10 x) v)

-- mode 2: SR is read, and each turn is a pins call, with CB1 at any level, and a run of 2 clocks; mode 3: each turn is a pulse on CB1, and
-- CB2's level is the one that the rise comes with
abbrev pub ReceivesByClocks : Type 0
ReceivesByClocks =
    (cb1 : ℕ → Bool) (l : ℕ → Levels) (v : Via) → well_formed v ≡ true → mode_of v.acr ≡ 2
    → Received (λ k. (l k).cb2) (λ k u. next chip (Run 2) (next chip (pins_with (cb1 k) (l k)) u)) (next chip (Read 10) v)

abbrev pub ReceivesByPulses : Type 0
ReceivesByPulses =
    (fall rise : ℕ → Levels) (v : Via) → well_formed v ≡ true → mode_of v.acr ≡ 3
    → Received (λ k. (rise k).cb2) (λ k. pulse (fall k) (rise k)) (next chip (Read 10) v)

-- a read of SR does to the shift register what an access does; so does a write, which stores its byte too
abbrev pub AccessesShift : Type 0
AccessesShift =
    (x : ℕ) (v : Via) → well_formed v ≡ true
    → (shifter_of (next chip (Read 10) v) ≡ accessed (shifter_of v))
    × (shifter_of (next chip (Write 10 x) v)
    ≡ accessed
    (record {
      byte = x;
      left = v.sr.left;
      half = v.sr.half;
      output = v.sr.output;
      flag = bit 2 v.ifr;
      mode = mode_of v.acr;
    }))

-- in every shift mode the edges of CA1, CA2, CB1 and CB2 set their flags by PCR alone, and no flag but IFR2 and IFR5 is otherwise touched
abbrev pub EdgesFlag : Type 0
EdgesFlag =
    (k pa pb control : ℕ) (v : Via) → well_formed v ≡ true → control < 16 → (k ≡ 2 → ⊥) → (k ≡ 5 → ⊥)
    → bit k (next chip (Pins pa pb control) v).ifr ≡ (bit k v.ifr || edge_at k v.pcr v.control control)

-- in modes 2 and 6 IFR2 is set at clock 16 after an access and not before, in a run of any length
abbrev pub SixteenClocks : Type 0
SixteenClocks =
    (x n : ℕ) (v : Via) → n ≤ 4294967295 → well_formed v ≡ true → by_clock (mode_of v.acr) ≡ true
    → (bit 2 (next chip (Run n) (next chip (Read 10) v)).ifr ≡ leb 16 n)
    × (bit 2 (next chip (Run n) (next chip (Write 10 x) v)).ifr ≡ leb 16 n)
