-- What a read leaves of the buffer that it reads into, and what goes from turn to turn.
use mathlib.Core.Path.{◌≡◌, refl, ap, sym, ◌∙◌}
use mathlib.Core.Bool.{Bool, true, false, ◌&&◌, false≢true}
use mathlib.Core.List.{List, []}
use Prim.Native.Nat.{ℕ, ◌+◌, ◌-◌, ◌*◌, ◌≤◌}
use native.Mathlib.Omega.{arith}
use Rattle.std.proofs.Common.{add-one}
use lib.ListN.{length, take, drop, length-take, length-drop}
use Rattle.std.specs.Prelude.{Option, None, Some, IfSome, nat_eq}
use Rattle.std.specs.Option.{option_eq}
use Rattle.std.proofs.lemmas.Bool.Decides.{nat_tests}
use Rattle.session.specs.declared.Bench.{Bench}
use Rattle.session.specs.Steps.{power_up}
use Rattle.session.specs.Pieces.{at_start}
use Rattle.turns.specs.Turns.{outcome, holding, brought, Shows, Fits, Takes, Reached}
use Rattle.turns.specs.declared.Went.{Went}
use Rattle.turns.proofs.Demands.{goes_on}
use Rattle.bench.specs.Turns.{Turned, Taken, After, on, Stops}
use Rattle.bench.specs.declared.Turn.{Turn}

-- so many bytes are there
pub part : (a n : ℕ) (xs : List ℕ) → n ≡ length xs - a → length (take n (drop a xs)) ≡ n
part a n xs h = omega (arith, length-take n (drop a xs), length-drop a xs)

-- what the read gave fits both buffers
pub fits :
    (read : Option ℕ) (kept : ℕ) (space buf out : List ℕ) → IfSome read (λ n. n ≤ length space) → kept + length space ≤ length buf
    → 3 * length buf + 13 ≤ length out → Fits kept read buf out
fits None kept space buf out w h l = (omega arith, l)
fits (Some n) kept space buf out w h l = (omega arith, l)

pub shown :
    (b : Bench) (kept₀ : List ℕ) (kept : ℕ) (read : Option ℕ) (buf out buf' out' : List ℕ) (went : Went)
    → take kept buf ≡ kept₀ → Fits kept read buf out → Takes b kept read buf out went buf' out'
    → Shows (outcome (holding b kept₀) (brought read kept buf)) buf out went buf' out'
shown b kept₀ kept read buf out buf' out' went e f t = rw (← e) (t.fits f)

pub turned :
    (b : Bench) (kept₀ : List ℕ) (kept : ℕ) (read : Option ℕ) (buf out buf' out' : List ℕ) (went : Went) (written : Bool)
    → take kept buf ≡ kept₀ → Fits kept read buf out → Takes b kept read buf out went buf' out'
    → Turned (holding b kept₀) kept out (record { read = read; went = went; written = written }) buf' out'
turned b kept₀ kept read buf out buf' out' went written e f t =
    record { buf = buf; front = e; room = f.0; shows = shown b kept₀ kept read buf out buf' out' went e f t }

-- ---- turn after turn

-- what goes from turn to turn: what is held is what some pieces left from power-up, and as many turns
pub record Going (buf out : List ℕ) (bench : Bench) (kept turns : ℕ) : Type 0 where
  pub input : length buf ≡ 65536
  pub output : length out ≡ 196621
  pub small : kept ≤ 33
  pub held : Reached (holding bench (take kept buf))
  pub after : After turns (holding bench (take kept buf))

module _
    {buf out : List ℕ} {bench : Bench} {kept turns : ℕ} (t : Turn) {buf' out' : List ℕ} (g : Going buf out bench kept turns)
    (d : Turned (holding bench (take kept buf)) kept out t buf' out')
  where
    abbrev taken : Taken (holding bench (take kept buf))
    taken = record { kept = kept; out = out; turn = t; buf' = buf'; out' = out'; turned = d }

    one_more : on t ≡ true → After (turns + 1) (holding t.went.bench (take t.went.kept buf'))
    unfolding After
    one_more e = rw add-one (holding bench (take kept buf), g.after, taken, e, refl)

    pub turn_on :
        t.written ≡ true → t.went.more ≡ true → length buf' ≡ length buf → length out' ≡ length out
        → Going buf' out' t.went.bench t.went.kept (turns + 1)
    turn_on w m b o =
        let s = goes_on _ _ _ _ t.went _ _ d.shows m g.held in
        record { input = b ∙ g.input; output = o ∙ g.output; small = s.0; held = s.1; after = one_more (rw (m, w)) }

    stops : on t ≡ false → Stops
    stops e = record { from = holding bench (take kept buf); reached = g.held; taken = taken; stopped = e }

    pub stops_unwritten : t.written ≡ false → Stops
    stops_unwritten w = stops (unless t.went.more t.written w)
      where
        unless : (a b : Bool) → b ≡ false → (a && b) ≡ false
        unless true b e = e
        unless false b e = refl

    pub stops_last : t.went.more ≡ false → Stops
    stops_last m = stops (rw m)

    pub stops_whole :
        t.written ≡ true → t.went.more ≡ false → t.read ≡ Some 0 → (s : Stops) × (s.taken.turn.read ≡ Some 0) × (s.taken.turn.written ≡ true)
    unfolding stops stops_last
    stops_whole w m r = (stops_last m, r, w)

pub going_start : (buf out : List ℕ) (b : Bench) → length buf ≡ 65536 → length out ≡ 196621 → b ≡ power_up → Going buf out b 0 0
unfolding After
going_start buf out b i o p =
    let e : holding b (take 0 buf) ≡ at_start = ap (λ (b : Bench). holding b []) p in
    record { input = i; output = o; small = omega arith; held = ([], e); after = e }

-- the test for the end of the input
pub met_end : (read : Option ℕ) (end : Bool) → end ≡ option_eq nat_eq read (Some 0) → end ≡ true → read ≡ Some 0
met_end None end e t = absurd (false≢true (sym e ∙ t))
met_end (Some k) end e t = let z : k ≡ 0 = grind (arith, nat_tests) in ap Some z
