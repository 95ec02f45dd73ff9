-- The answers to a file that is cut, though not all of a line is kept that goes on.
use Rattle.std.specs.Prelude.{Option, if◌then◌else◌}
use mathlib.Core.Path.{◌≡◌, refl, ap, sym, ◌∙◌}
use mathlib.Core.Bool.{Bool, true, false}
use mathlib.Core.List.{List, [], ◌∷◌, ◌++◌, append_assoc}
use Prim.Native.Nat.{ℕ, ◌<◌, ◌≤◌}
use native.Mathlib.Decide.{dec_le}
use native.Mathlib.Omega.{arith}
use lib.Dec.{eqb}
use lib.ListN.{length, take, length-append}
use lib.Seq.{take_all, length-take-le}
use Rattle.frames.specs.declared.Frame.{Frame}
use Rattle.replies.specs.Replies.{render}
use Rattle.frames.proofs.Lines.{long_unknown}
use Rattle.session.specs.Steps.{step_of}
use Rattle.lines.specs.Lines.{ended, open_line, last_line, joined, Quiet}
use Rattle.lines.proofs.Lines.{ended_append, open_append, ended_behind, open_behind, quiet_take, open_quiet}
use Rattle.session.specs.Sessions.{next_of, says_of, next_all, says_all, session}
use Rattle.session.specs.Pieces.{Held, at_start, held, wrote, written_for}
use Rattle.session.specs.declared.Bench.{Bench}
use Rattle.session.proofs.Taking.{says_append}

-- the answers to the rest of a file in the middle of whose line l we stand
answers : Bench → List ℕ → List ℕ → List ℕ
answers b l s = says_all b (ended l s ++ last_line (open_line l s))

-- two lines of over 32 bytes do the same and get the same answer, whatever their bytes
long_next : (b : Bench) (p q : List ℕ) → 32 < length p → 32 < length q → next_of b p ≡ next_of b q
unfolding next_of
long_next b p q h k = ap (λ (f : Option Frame). (step_of b f).bench) (long_unknown p h ∙ sym (long_unknown q k))

long_says : (b : Bench) (p q : List ℕ) → 32 < length p → 32 < length q → says_of b p ≡ says_of b q
unfolding says_of
long_says b p q h k = ap (λ (f : Option Frame). render (step_of b f).reply) (long_unknown p h ∙ sym (long_unknown q k))

-- hence 33 bytes of a line say as much as all of it
same_long : (b : Bench) (p q : List ℕ) (ls : List (List ℕ)) → 32 < length p → 32 < length q → says_all b (p ∷ ls) ≡ says_all b (q ∷ ls)
same_long b p q ls h k = λ i. long_says b p q h k i ++ says_all (long_next b p q h k i) ls

trim : (b : Bench) (p q s : List ℕ) → 32 < length p → 32 < length q → answers b p s ≡ answers b q s
unfolding answers
trim b [] q [] h k = absurd (omega arith)
trim b (x ∷ p) [] [] h k = absurd (omega arith)
trim b (x ∷ p) (y ∷ q) [] h k = same_long b (x ∷ p) (y ∷ q) [] h k
trim b p q (x ∷ s) h k =
    go (eqb x 10)
    (trim b (p ++ x ∷ []) (q ++ x ∷ []) s (simp length-append (omega arith)) (simp length-append (omega arith)))
  where
    go :
        (t : Bool) → answers b (p ++ x ∷ []) s ≡ answers b (q ++ x ∷ []) s
        → says_all b
        ((if t then p ∷ ended [] s else ended (p ++ x ∷ []) s)
        ++ last_line (if t then open_line [] s else open_line (p ++ x ∷ []) s))
        ≡ says_all b
        ((if t then q ∷ ended [] s else ended (q ++ x ∷ []) s)
        ++ last_line (if t then open_line [] s else open_line (q ++ x ∷ []) s))
    go true e = same_long b p q (ended [] s ++ last_line (open_line [] s)) h k
    go false e = e

trimmed : (b : Bench) (q s : List ℕ) → answers b (take 33 q) s ≡ answers b q s
trimmed b q s = go (dec_le (length q) 33)
  where
    go : Dec (length q ≤ 33) → answers b (take 33 q) s ≡ answers b q s
    go (yes h) = rw (take_all 33 q h)
    go (no n) =
        let h : 33 ≤ length q = omega arith in
        trim b (take 33 q) q s (rw (length-take-le 33 q h) (omega arith)) (omega arith)

-- the answers to two pieces, the second from what the first leaves
answers_append : (b : Bench) (l s t : List ℕ) → answers b l (s ++ t) ≡ says_all b (ended l s) ++ answers (next_all b (ended l s)) (open_line l s) t
unfolding answers
answers_append b l s t = rw (ended_append, open_append, append_assoc, says_append)

from_held : (h : Held) (pieces : List (List ℕ)) → Quiet h.kept → written_for h pieces ≡ answers h.bench h.kept (joined pieces)
unfolding answers
from_held h [] q = refl
from_held h (piece ∷ pieces) q =
    let e = ended_behind h.kept piece q in
    let o = open_behind h.kept piece q in
    let r : Quiet (held h piece).kept = rw o (quiet_take 33 _ (open_quiet h.kept piece q)) in
    ap (λ (t : List ℕ). wrote h piece ++ t)
    (from_held (held h piece) pieces r ∙ trimmed (held h piece).bench (open_line [] (h.kept ++ piece)) (joined pieces))
    ∙ rw (e, o) (sym (answers_append h.bench h.kept piece (joined pieces)))

pub any_cut : (pieces : List (List ℕ)) → written_for at_start pieces ≡ session (joined pieces)
unfolding Quiet answers session
any_cut pieces = from_held at_start pieces tt
