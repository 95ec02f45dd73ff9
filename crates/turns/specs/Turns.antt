-- A turn: what one read brings, what is held after it, and what is to be written for it.
use Rattle.std.specs.Prelude.{◌≡◌, Bool, true, false, List, [], ◌∷◌, ◌++◌, ℕ, ◌+◌, ◌*◌, ◌≤◌, length, take, drop, Option, None, Some, unwrap_or, option_map, if◌then◌else◌}
use Rattle.lines.specs.Lines.{last_line}
use Rattle.session.specs.Sessions.{says_all}
use Rattle.session.specs.Pieces.{Held, at_start, held, wrote}
use Rattle.lines.specs.Written.{Written}
use Rattle.session.specs.declared.Bench.{Bench}
use Rattle.turns.specs.declared.Went.{Went}

-- what a read brings: none where it failed, else a piece of the input, which is empty at its end
abbrev pub Came : Type 0
Came = Option (List ℕ)

-- what comes of it: what is held then, what is to be written, and whether more may come
pub record Outcome : Type 0 where
  pub holds : Held
  pub text : List ℕ
  pub more : Bool

-- a read that failed leaves what was held; an empty piece is the end of the input, where the open line is answered
unfoldable pub outcome : Held → Came → Outcome
outcome h None = record { holds = h; text = []; more = false }
outcome h (Some []) = record { holds = h; text = says_all h.bench (last_line h.kept); more = false }
outcome h (Some (x ∷ s)) = record { holds = held h (x ∷ s); text = wrote h (x ∷ s); more = true }

-- all that is written for some reads, one after the other, until no more may come
abbrev pub written : Held → List Came → List ℕ
written h [] = []
written h (c ∷ cs) = (outcome h c).text ++ (if (outcome h c).more then written (outcome h c).holds cs else [])

-- ---- in buffers

abbrev pub holding : Bench → List ℕ → Held
holding b kept = record { bench = b; kept = kept }

-- how many bytes a read gave, and what it brought to a buffer, behind what is kept
abbrev pub bytes_of : Option ℕ → ℕ
bytes_of read = unwrap_or read 0

unfoldable pub brought : Option ℕ → ℕ → List ℕ → Came
brought read kept buf = option_map (λ n. take n (drop kept buf)) read

-- the input buffer has what is kept and what was read, and the output buffer has room for every answer
abbrev pub Fits : ℕ → Option ℕ → List ℕ → List ℕ → Type 0
Fits kept read buf out = (kept + bytes_of read ≤ length buf) × (3 * length buf + 13 ≤ length out)

-- a turn and its two buffers, before and after it, show an outcome
pub record Shows (o : Outcome) (buf out : List ℕ) (t : Went) (buf' out' : List ℕ) : Type 0 where
  pub holds : holding t.bench (take t.kept buf') ≡ o.holds
  pub within : t.kept ≤ length buf'
  pub beyond : drop t.kept buf' ≡ drop t.kept buf
  pub answers : Written out out' t.made o.text
  pub more : t.more ≡ o.more

-- what `taken` gives: the outcome of what was brought, or where the buffers do not fit it, all as it was and nothing to write
pub record Takes (b : Bench) (kept : ℕ) (read : Option ℕ) (buf out : List ℕ) (t : Went) (buf' out' : List ℕ) : Type 0 where
  pub fits : Fits kept read buf out → Shows (outcome (holding b (take kept buf)) (brought read kept buf)) buf out t buf' out'
  pub misfits :
      (Fits kept read buf out → ⊥)
      → (t ≡ record { bench = b; kept = kept; made = 0; more = false }) × (buf' ≡ buf) × (out' ≡ out)

-- ---- from power-up on

-- what is held after pieces that came one after another
abbrev pub held_after : Held → List (List ℕ) → Held
held_after h [] = h
held_after h (p ∷ ps) = held_after (held h p) ps

-- what some pieces left
abbrev pub Reached : Held → Type 0
Reached h = (pieces : List (List ℕ)) × (h ≡ held_after at_start pieces)
