-- What a case is: the calls that lead to it from power-up, and what must hold there.
use Rattle.std.specs.Prelude.{◌≡◌, Bool, true, false, List, [], ◌∷◌, ℕ, ◌-◌, ◌*◌, ◌/◌, ◌%◌, ◌≤◌, None}
use Rattle.clocks.specs.Clocks.{after}
use Rattle.clocks.specs.Bits.{bit}
use Rattle.clocks.specs.Forecasts.{comes}
use Rattle.clocks.specs.declared.Forecast.TheVariants.{Never, In}
use Rattle.clocks.specs.declared.Forecast.{Forecast}
use Rattle.calls.specs.declared.Call22.{Call22}
use Rattle.calls.specs.declared.Call25.{Call25}
use Rattle.calls.specs.declared.Call32.{Call32}
use Rattle.calls.specs.declared.Call45.{Call45}
use Rattle.chips.specs.Chips.{Chip, answer, next, line, Foretold}
use Rattle.via6522.specs.Access as Access22
use Rattle.via6522.specs.Clock as Clock22
use Rattle.via6522.specs.Chip as Chip22
use Rattle.via6522.specs.declared.Via.{Via}
use Rattle.via6522.specs.declared.Answer.{Answer}
use Rattle.tpi6525.specs.Signals.{air_of}
use Rattle.tpi6525.specs.Chip as Chip25
use Rattle.tpi6525.specs.declared.Tpi.{Tpi}
use Rattle.riot6532.specs.Clock as Clock32
use Rattle.riot6532.specs.Chip as Chip32
use Rattle.riot6532.specs.declared.Riot.{Riot}
use Rattle.raster.specs.Signals.{signals_of}
use Rattle.crtc6545.specs.Clock as Clock45
use Rattle.crtc6545.specs.Chip as Chip45
use Rattle.crtc6545.specs.declared.Crtc.{Crtc}

-- the calls are made one after the other, each with operands of their types, none is refused, and P holds of the record that the last
-- one leaves
unfoldable pub Leads : (C : Chip) → (C.State → Type 0) → List C.Call → C.State → Type 0
Leads C P [] v = P v
Leads C P (c ∷ cs) v = C.Typed c × (C.refusal (answer C c v) ≡ None) × Leads C P cs (next C c v)

-- ---- the 6522

-- the flags of T1 and T2, and the interrupt line, after k clocks
abbrev pub flag1 : ℕ → Via → Bool
flag1 k v = bit 6 (after k Clock22.clock_of v).ifr

abbrev pub flag2 : ℕ → Via → Bool
flag2 k v = bit 5 (after k Clock22.clock_of v).ifr

abbrev pub line22 : ℕ → Via → Bool
line22 = line Chip22.chip Chip22.clocked Chip22.lined

-- T1's flag is set at each of these clocks and not before it, where a read of register 4 clears it each time; the clocks are counted
-- from the last load, and `now` of them have gone by
unfoldable pub Flags1 : ℕ → List ℕ → Via → Type 0
Flags1 now [] v = Unit {0}
Flags1 now (n ∷ ns) v =
    ((k : ℕ) → flag1 k v ≡ comes (In (n - now)) k)
    × Flags1 n ns (Access22.read_of 4 (after (n - now) Clock22.clock_of v))

-- T1 free-runs with a reload of the latch to come, its flag is clear and the only one enabled: the line is asserted from clock n on, and
-- no forecast but n is allowed
pub record Reloads1 (latch n : ℕ) (v : Via) : Type 0 where
  pub free : bit 6 v.acr ≡ true
  pub clear : bit 6 v.ifr ≡ false
  pub alone : v.ier ≡ 64
  pub mark : v.t1.mark ≡ true
  pub latched : v.t1.latch ≡ latch
  pub line : (k : ℕ) → line22 k v ≡ comes (In n) k
  pub told : (f : Forecast) (r : Answer) → Foretold Chip22.chip Chip22.clocked Chip22.lined v f r → f ≡ In n

-- T2 is disarmed and goes from 0 to 65,535 at clock n: neither this wrap nor any later one sets its flag
pub record Wraps2 (n : ℕ) (v : Via) : Type 0 where
  pub disarmed : v.t2.armed ≡ false
  pub bottom : (after (n - 1) Clock22.clock_of v).t2.counter ≡ 0
  pub top : (after n Clock22.clock_of v).t2.counter ≡ 65535
  pub unflagged : (k : ℕ) → flag2 k v ≡ comes Never k

infix 20 t1_reloads◌forecast◌
pub data Outcome22 : Type 0 where
  t1_flags_at : List ℕ → Outcome22
  t1_reloads◌forecast◌ : ℕ → ℕ → Outcome22
  t2_wraps_unflagged_at : ℕ → Outcome22

abbrev pub Shows22 : Outcome22 → Via → Type 0
Shows22 (t1_flags_at clocks) = Flags1 0 clocks
Shows22 (t1_reloads latch forecast n) = Reloads1 latch n
Shows22 (t2_wraps_unflagged_at n) = Wraps2 n

-- ---- the 6525

-- a step: a call, and then the byte that it gave, whether the interrupt is asserted, and what the active interrupt register shows
infix 20 ◌gives◌asserted◌shows◌
pub data Step25 : Type 0 where
  ◌gives◌asserted◌shows◌ : Call25 → ℕ → Bool → ℕ → Step25

-- the steps are made one after the other, none is refused, and each comes out so
unfoldable pub Shows25 : List Step25 → Tpi → Type 0
Shows25 [] v = Unit {0}
Shows25 ((c gives byte asserted irq shows air) ∷ steps) v =
    ((Chip25.chip).Typed c)
    × ((answer Chip25.chip c v).refusal ≡ None)
    × ((answer Chip25.chip c v).«data» ≡ byte)
    × ((answer Chip25.chip c v).irq ≡ irq)
    × (air_of (next Chip25.chip c v) ≡ air)
    × Shows25 steps (next Chip25.chip c v)

-- ---- the 6532

-- the timer's flag after k clocks
abbrev pub flag32 : ℕ → Riot → Bool
flag32 k v = (after k Clock32.clock_of v).io.timer.flag

pub data Outcome32 : Type 0 where
  timer_flag_at : ℕ → Outcome32

abbrev pub Shows32 : Outcome32 → Riot → Type 0
Shows32 (timer_flag_at n) v = (k : ℕ) → flag32 k v ≡ comes (In n) k

-- ---- the 6545

-- the field after k clocks
abbrev pub field45 : ℕ → Crtc → ℕ
field45 k v = (after k Clock45.clock_of v).raster.frame.field

-- a frame takes n clocks: through one round of the 32 fields, the field counts the frames that are over
abbrev pub FrameOf : ℕ → Crtc → Type 0
FrameOf n v = (k : ℕ) → k ≤ 32 * n → field45 k v ≡ k / n % 32

-- the frame started at `start`, and MA shows `ma` at this row and this column
pub record Addresses (start row column ma : ℕ) (v : Crtc) : Type 0 where
  pub started : v.raster.frame.frame_start ≡ start
  pub at_row : v.raster.frame.row ≡ row
  pub at_column : v.raster.line.column ≡ column
  pub shown : (signals_of v.raster).ma ≡ ma

infix 20 start◌row◌column◌MA◌
pub data Outcome45 : Type 0 where
  frame_of◌clocks : ℕ → Outcome45
  start◌row◌column◌MA◌ : ℕ → ℕ → ℕ → ℕ → Outcome45

abbrev pub Shows45 : Outcome45 → Crtc → Type 0
Shows45 (frame_of n clocks) = FrameOf n
Shows45 (start s row r column c MA x) = Addresses s r c x

-- ---- a case of one of the four

pub data Case : Type 0 where
  on_6522 : List Call22 → Outcome22 → Case
  on_6525 : List Call25 → List Step25 → Case
  on_6532 : List Call32 → Outcome32 → Case
  on_6545 : List Call45 → Outcome45 → Case

-- from power-up the calls lead, none refused, to the outcome
abbrev pub Holds : Case → Type 0
Holds (on_6522 calls o) = Leads Chip22.chip (Shows22 o) calls (Chip22.chip).power_up
Holds (on_6525 calls steps) = Leads Chip25.chip (Shows25 steps) calls (Chip25.chip).power_up
Holds (on_6532 calls o) = Leads Chip32.chip (Shows32 o) calls (Chip32.chip).power_up
Holds (on_6545 calls o) = Leads Chip45.chip (Shows45 o) calls (Chip45.chip).power_up
