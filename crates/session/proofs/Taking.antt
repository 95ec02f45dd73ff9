-- As many lines as there is room for, and what is left of the file then.
use mathlib.Core.Path.{◌≡◌, refl, ap, sym, ◌∙◌}
use mathlib.Core.Bool.{Bool, true, false}
use mathlib.Core.List.{List, [], ◌∷◌, ◌++◌, append_assoc, append-nil}
use Prim.Native.Nat.{ℕ, ◌+◌, ◌-◌, ◌*◌, ◌<◌, ◌≤◌}
use native.Mathlib.Decide.{dec_lt}
use native.Mathlib.Omega.{arith}
use lib.Dec.{leb}
use lib.ListN.{length, length-append}
use borrow.Author.Tests.{le-leb}
use Rattle.lines.specs.Lines.{ended, file_of}
use Rattle.lines.proofs.Demands.{lines_left}
use Rattle.replies.specs.Hex.{hex_of}
use Rattle.frames.specs.Frames.{frame_of}
use Rattle.replies.specs.Replies.{told, render}
use Rattle.frames.proofs.Lines.{short_unknown}
use Rattle.session.specs.Steps.{step_of}
use Rattle.session.specs.Sessions.{next_of, says_of, next_all, says_all}
use Rattle.session.specs.Pieces.{Taken, before, takes}
use Rattle.session.specs.Demands
use Rattle.session.specs.declared.Bench.{Bench}
use Rattle.session.proofs.Feeding.{says_short}

-- what some lines and then others do
pub says_append : (b : Bench) (x y : List (List ℕ)) → says_all b (x ++ y) ≡ says_all b x ++ says_all (next_all b x) y
says_append b [] y = refl
says_append b (l ∷ x) y =
    ap (λ (r : List ℕ). says_of b l ++ r) (says_append (next_of b l) x y)
    ∙ sym (append_assoc (says_of b l) (says_all (next_of b l) x) _)

pub next_append : (b : Bench) (x y : List (List ℕ)) → next_all b (x ++ y) ≡ next_all (next_all b x) y
next_append b [] y = refl
next_append b (l ∷ x) y = next_append (next_of b l) x y

-- what all of some lines come to
abbrev pub all_taken : Bench → List (List ℕ) → Taken
all_taken b ls = record { bench = next_all b ls; used = length (file_of ls); text = says_all b ls }

one_more : (b : Bench) (l : List ℕ) (ls : List (List ℕ)) → before l (says_of b l) (all_taken (next_of b l) ls) ≡ all_taken b (l ∷ ls)
one_more b l ls =
    let e : length l + 1 + length (file_of ls) ≡ length (l ++ 10 ∷ file_of ls) = simp length-append (omega arith) in
    λ i. record { bench = next_all b (l ∷ ls); used = e i; text = says_all b (l ∷ ls) }

-- the lines that are taken, and those that are left
record Parted (room : ℕ) (b : Bench) (ls : List (List ℕ)) : Type 0 where
  done : List (List ℕ)
  left : List (List ℕ)
  parts : ls ≡ done ++ left
  taken : takes room b ls ≡ all_taken b done

parted : (ls : List (List ℕ)) (room : ℕ) (b : Bench) → Parted room b ls
parted [] room b = record { done = []; left = []; parts = refl; taken = refl }
parted (l ∷ ls) room b = go (leb 13 room) refl (parted ls (room - length (says_of b l)) (next_of b l))
  where
    go : (t : Bool) → leb 13 room ≡ t → Parted (room - length (says_of b l)) (next_of b l) ls → Parted room b (l ∷ ls)
    go true e p =
        record {
          done = l ∷ p.done;
          left = p.left;
          parts = ap {B = List (List ℕ)} (λ r. l ∷ r) p.parts;
          taken = rw e (ap (before l (says_of b l)) p.taken ∙ one_more b l p.done);
        }
    go false e p = record { done = []; left = l ∷ ls; parts = refl; taken = rw e }

pub taking_goes_on : Demands.TakingGoesOn
taking_goes_on room b s =
    let p = parted (ended [] s) room b in
    let w = lines_left s p.done p.left p.parts in
    rw (p.taken, w.1, w.2)
    (ap (says_all b) p.parts ∙ says_append b p.done p.left, ap (next_all b) p.parts ∙ next_append b p.done p.left, refl)

-- a line is taken where there is one, and room
takes_some : (room : ℕ) (b : Bench) (ls : List (List ℕ)) → 13 ≤ room → (ls ≡ [] → ⊥) → 0 < (takes room b ls).used
takes_some room b [] h n = absurd (n refl)
takes_some room b (l ∷ ls) h n = rw (le-leb 13 room h) (omega arith)

pub makes_progress : Demands.MakesProgress
makes_progress room b s h n = takes_some room b (ended [] s) h n

-- an answer is at most three bytes for each of its line, the LF counted
says_little : (b : Bench) (l : List ℕ) → length (says_of b l) ≤ 3 * (length l + 1)
unfolding says_of step_of render told hex_of
says_little b l = go (dec_lt (length l) 4)
  where
    go : Dec (length l < 4) → length (render (step_of b (frame_of l)).reply) ≤ 3 * (length l + 1)
    go (yes h) = rw (short_unknown l h) (omega arith)
    go (no h) = omega (arith, says_short b l)

takes_all : (ls : List (List ℕ)) (room : ℕ) (b : Bench) → 3 * length (file_of ls) + 13 ≤ room → takes room b ls ≡ all_taken b ls
takes_all [] room b h = refl
takes_all (l ∷ ls) room b h =
    let m = says_little b l in
    let n = length-append l (10 ∷ file_of ls) in
    let more = takes_all ls (room - length (says_of b l)) (next_of b l) (omega arith) in
    rw (le-leb 13 room (omega arith)) (ap (before l (says_of b l)) more ∙ one_more b l ls)

-- all lines are taken where there are 13 bytes for each
pub takes_each : (ls : List (List ℕ)) (room : ℕ) (b : Bench) → 13 * length ls ≤ room → takes room b ls ≡ all_taken b ls
takes_each [] room b h = refl
takes_each (l ∷ ls) room b h =
    let m = says_short b l in
    let more = takes_each ls (room - length (says_of b l)) (next_of b l) (omega arith) in
    rw (le-leb 13 room (omega arith)) (ap (before l (says_of b l)) more ∙ one_more b l ls)

pub room_for_all : Demands.RoomForAll
room_for_all room b s h =
    let w = lines_left s (ended [] s) [] (sym (append-nil (ended [] s))) in
    rw (takes_all (ended [] s) room b (omega (arith, w.3))) (refl, refl, w.0)

-- no more is used than there is
pub used_within : (room : ℕ) (b : Bench) (s : List ℕ) → (takes room b (ended [] s)).used ≤ length s
used_within room b s =
    let p = parted (ended [] s) room b in
    rw p.taken (lines_left s p.done p.left p.parts).3
