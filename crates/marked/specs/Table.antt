-- The twelve marked cases, in document 01's order, and the three that the catalogue tells of the 6525.
use Rattle.std.specs.Prelude.{true, false, List, [], ◌∷◌, ◌++◌, ℕ, ◌/◌, ◌%◌}
use Rattle.calls.specs.declared.Call22.{Call22}
use Rattle.calls.specs.declared.Call22.TheVariants as Via
use Rattle.calls.specs.declared.Call25.{Call25}
use Rattle.calls.specs.declared.Call25.TheVariants as Tpi
use Rattle.calls.specs.declared.Call32.{Call32}
use Rattle.calls.specs.declared.Call32.TheVariants as Riot
use Rattle.calls.specs.declared.Call45.{Call45}
use Rattle.calls.specs.declared.Call45.TheVariants as Crtc
use Rattle.marked.specs.Cases.{Case, on_6522, on_6525, on_6532, on_6545, t1_flags_at, t1_reloads◌forecast◌, t2_wraps_unflagged_at, timer_flag_at, frame_of◌clocks, start◌row◌column◌MA◌, ◌gives◌asserted◌shows◌}

-- a timer of the 6522 is loaded by its low and then its high byte: T1 by registers 4 and 5, T2 by 8 and 9
abbrev pub load1 : ℕ → List Call22
load1 n = Via.Write 4 (n % 256) ∷ Via.Write 5 (n / 256) ∷ []

abbrev pub load2 : ℕ → List Call22
load2 n = Via.Write 8 (n % 256) ∷ Via.Write 9 (n / 256) ∷ []

-- bit 6 of ACR has T1 run free, and bit 6 of IER enables its flag
abbrev pub free_run : List Call22
free_run = Via.Write 11 64 ∷ []

abbrev pub enable1 : List Call22
enable1 = Via.Write 14 192 ∷ []

-- T1's latch alone, by registers 6 and 7; the second clears its flag
abbrev pub latch1 : ℕ → List Call22
latch1 n = Via.Write 6 (n % 256) ∷ Via.Write 7 (n / 256) ∷ []

-- one clock, and the read that clears T2's flag
abbrev pub clock22 : List Call22
clock22 = Via.Run 1 ∷ []

abbrev pub clear2 : List Call22
clear2 = Via.Read 8 ∷ []

-- the 6532's timer is loaded over 8 at address 149, and over 1024 at 151
abbrev pub load_over_8 : ℕ → List Call32
load_over_8 x = Riot.Write 149 x ∷ []

abbrev pub load_over_1024 : ℕ → List Call32
load_over_1024 x = Riot.Write 151 x ∷ []

-- a register of the 6545 is set by its number at address 0 and its value at address 1
abbrev pub registers : List (ℕ × ℕ) → List Call45
registers [] = []
registers (r ∷ rs) = Crtc.Write 0 r.0 ∷ Crtc.Write 1 r.1 ∷ registers rs

abbrev pub run45 : ℕ → List Call45
run45 n = Crtc.Run n false ∷ []

-- The fourth has T1 pass zero with its first clock, so that a reload is to come, and then gives it the latch; the fifth has T2 wrap
-- with its first clock, which disarms it. The last two run to their place: two lines of 4 clocks and 1 clock more, and 23 rows of
-- 8 lines of 100 clocks and 79 clocks more.
unfoldable pub table : List Case
table =
    on_6522 (load1 0) (t1_flags_at (1 ∷ []))
    ∷ on_6522 (load1 65535) (t1_flags_at (65536 ∷ []))
    ∷ on_6522 (free_run ++ load1 3) (t1_flags_at (4 ∷ 9 ∷ 14 ∷ []))
    ∷ on_6522 (free_run ++ enable1 ++ load1 0 ++ clock22 ++ latch1 65535) (t1_reloads 65535 forecast 65537)
    ∷ on_6522 (load2 0 ++ clock22 ++ clear2) (t2_wraps_unflagged_at 65536)
    ∷ on_6532 (load_over_8 52) (timer_flag_at 417)
    ∷ on_6532 (load_over_1024 0) (timer_flag_at 1)
    ∷ on_6532 (load_over_1024 255) (timer_flag_at 261121)
    ∷ on_6545 (registers ((0, 3) ∷ (4, 1) ∷ (9, 1) ∷ (5, 1) ∷ [])) (frame_of 20 clocks)
    ∷ on_6545 (registers ((0, 3) ∷ (4, 1) ∷ (9, 1) ∷ (5, 0) ∷ [])) (frame_of 16 clocks)
    ∷ on_6545 (registers ((1, 2) ∷ (0, 3) ∷ (4, 1) ∷ (9, 1) ∷ []) ++ run45 9) (start 0 row 1 column 1 MA 3)
    ∷ on_6545 (registers ((1, 80) ∷ (0, 99) ∷ (4, 24) ∷ (9, 7) ∷ []) ++ run45 18479) (start 0 row 23 column 79 MA 1919)
    ∷ []

-- ---- the 6525

-- CR (register 6) for interrupt mode with priority, and a mask (register 5) that lets all inputs through
abbrev pub with_priority : List Call25
with_priority = Tpi.Write 6 3 ∷ Tpi.Write 5 31 ∷ []

-- the levels of port C; those of I4 to I0 are in bits 4 to 0, and each falls from 1 to 0
abbrev pub levels : ℕ → Call25
levels pc = Tpi.Pins 255 255 pc

-- the active interrupt register is register 7
abbrev pub read_air : Call25
read_air = Tpi.Read 7

abbrev pub write_air : Call25
write_air = Tpi.Write 7 0

-- A: I1 is served, and can then interrupt again. B: I2 comes while I1 is served, and after I2's service that of I1 goes on; I0 waits until it has
-- ended. C: I0 comes while I1 is served, and waits.
unfoldable pub catalogue : List Case
catalogue =
    on_6525 with_priority (
    (levels 0xFD gives 0 asserted true shows 2)
    ∷ (read_air gives 2 asserted false shows 0)
    ∷ (write_air gives 0 asserted false shows 0)
    ∷ (levels 0xFF gives 0 asserted false shows 0)
    ∷ (levels 0xFD gives 0 asserted true shows 2)
    ∷ []
    )
    ∷ on_6525 with_priority (
    (levels 0xFD gives 0 asserted true shows 2)
    ∷ (read_air gives 2 asserted false shows 0)
    ∷ (levels 0xF9 gives 0 asserted true shows 4)
    ∷ (read_air gives 4 asserted false shows 0)
    ∷ (write_air gives 0 asserted false shows 0)
    ∷ (levels 0xF8 gives 0 asserted false shows 1)
    ∷ (write_air gives 0 asserted true shows 1)
    ∷ []
    )
    ∷ on_6525 with_priority (
    (levels 0xFD gives 0 asserted true shows 2)
    ∷ (read_air gives 2 asserted false shows 0)
    ∷ (levels 0xFC gives 0 asserted false shows 1)
    ∷ (write_air gives 0 asserted true shows 1)
    ∷ (read_air gives 1 asserted false shows 0)
    ∷ []
    )
    ∷ []
