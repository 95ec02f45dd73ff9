-- Going through lines that may repeat, and noting what they write.
use Rattle.std.specs.Prelude.{◌≡◌, List, ℕ, ◌+◌, ◌<◌, ◌≤◌, length, drop, get_or}
use Rattle.blocks.specs.Blocks.{first, others, blocks_of, line_out, behind}
use Rattle.blocks.specs.Windows.{Window, window, notes}
use Rattle.blocks.specs.declared.Walked.{Walked}

-- a walk from a line on has noted ps; and where the window is not full, bs is what the lines write that it has come to, with k
-- levels left
pub record Walks (line : ℕ → List ℕ) (table : List ℕ) (from : ℕ) (w : Window) (ps : List ℕ) (k : ℕ) (bs : List (List ℕ)) (r : Walked) (seen : List ℕ) : Type 0 where
  pub begun : from ≤ r.at
  pub within : r.at ≤ length table
  pub noted : window r.skip r.used seen ≡ notes w ps
  pub next : r.used < length seen → blocks_of line k (drop r.at table) ≡ bs

-- through a block up to its close
abbrev pub ThroughBlock : (ℕ → List ℕ) → List ℕ → ℕ → ℕ → Window → Walked → List ℕ → Type 0
ThroughBlock line table at k w r seen =
    Walks line table at w (first (blocks_of line k (drop at table))) (k + 1) (others (blocks_of line k (drop at table))) r seen

-- through one line that closes nothing, with all that it runs
abbrev pub ThroughLine : (ℕ → List ℕ) → List ℕ → ℕ → ℕ → Window → Walked → List ℕ → Type 0
ThroughLine line table at k w r seen =
    Walks line table (at + 1) w (line_out line k (get_or table at 0) (drop (at + 1) table)) k (behind line k (get_or table at 0) (drop (at + 1) table)) r seen
