-- The lines of a file that is cut, and of one that is put together from lines.
use Rattle.std.specs.Prelude.{if◌then◌else◌}
use mathlib.Core.Path.{◌≡◌, refl, ap, sym, ◌∙◌}
use mathlib.Core.Bool.{Bool, true, false}
use mathlib.Core.List.{List, [], ◌∷◌, ◌++◌, append_assoc, append-nil}
use Prim.Native.Nat.{ℕ, zero, suc, ◌<◌}
use native.Mathlib.Omega.{arith}
use lib.Dec.{eqb}
use lib.ListN.{length, take}
use borrow.Author.Tests.{eqb-true}
use Rattle.lines.specs.Lines.{ended, open_line, last_line, file_of, Quiet, Quiets}

-- cutting a file in two cuts its list of lines in two, the second part starting in the line that the first left open
pub ended_append : (l a b : List ℕ) → ended l (a ++ b) ≡ ended l a ++ ended (open_line l a) b
ended_append l [] b = refl
ended_append l (x ∷ a) b = go (eqb x 10) (ended_append [] a b) (ended_append (l ++ x ∷ []) a b)
  where
    go :
        (t : Bool) → ended [] (a ++ b) ≡ ended [] a ++ ended (open_line [] a) b
        → ended (l ++ x ∷ []) (a ++ b) ≡ ended (l ++ x ∷ []) a ++ ended (open_line (l ++ x ∷ []) a) b
        → (if t then l ∷ ended [] (a ++ b) else ended (l ++ x ∷ []) (a ++ b))
        ≡ (if t then l ∷ ended [] a else ended (l ++ x ∷ []) a)
        ++ ended (if t then open_line [] a else open_line (l ++ x ∷ []) a) b
    go true e f = ap {B = List (List ℕ)} (λ r. l ∷ r) e
    go false e f = f

pub open_append : (l a b : List ℕ) → open_line l (a ++ b) ≡ open_line (open_line l a) b
open_append l [] b = refl
open_append l (x ∷ a) b = go (eqb x 10) (open_append [] a b) (open_append (l ++ x ∷ []) a b)
  where
    go :
        (t : Bool) → open_line [] (a ++ b) ≡ open_line (open_line [] a) b
        → open_line (l ++ x ∷ []) (a ++ b) ≡ open_line (open_line (l ++ x ∷ []) a) b
        → (if t then open_line [] (a ++ b) else open_line (l ++ x ∷ []) (a ++ b))
        ≡ open_line (if t then open_line [] a else open_line (l ++ x ∷ []) a) b
    go true e f = e
    go false e f = f

-- ---- texts without LF

pub quiet_ended : (p l : List ℕ) → Quiet l → ended p l ≡ []
unfolding Quiet
quiet_ended p [] q = refl
quiet_ended p (x ∷ l) q = rw q.0 (quiet_ended (p ++ x ∷ []) l q.1)

pub quiet_open : (p l : List ℕ) → Quiet l → open_line p l ≡ p ++ l
unfolding Quiet
quiet_open p [] q = sym (append-nil p)
quiet_open p (x ∷ l) q = rw q.0 (quiet_open (p ++ x ∷ []) l q.1 ∙ append_assoc p (x ∷ []) l)

pub quiet_append : (a b : List ℕ) → Quiet a → Quiet b → Quiet (a ++ b)
unfolding Quiet
quiet_append [] b q r = r
quiet_append (x ∷ a) b q r = (q.0, quiet_append a b q.1 r)

pub quiet_take : (n : ℕ) (l : List ℕ) → Quiet l → Quiet (take n l)
unfolding Quiet
quiet_take zero l q = tt
quiet_take (suc n) [] q = tt
quiet_take (suc n) (x ∷ l) q = (q.0, quiet_take n l q.1)

-- the lines of s behind a text without LF are those that it starts
module _ (l s : List ℕ) (q : Quiet l) where
  pub ended_behind : ended [] (l ++ s) ≡ ended l s
  ended_behind = ended_append [] l s ∙ rw (quiet_ended [] l q, quiet_open [] l q)

  pub open_behind : open_line [] (l ++ s) ≡ open_line l s
  open_behind = open_append [] l s ∙ rw (quiet_open [] l q)

-- no line has an LF: neither the open one nor the finished ones
pub open_quiet : (p s : List ℕ) → Quiet p → Quiet (open_line p s)
unfolding Quiet
open_quiet p [] q = q
open_quiet p (x ∷ s) q =
    go (eqb x 10) refl (open_quiet [] s tt) (λ f. open_quiet (p ++ x ∷ []) s (quiet_append p (x ∷ []) q (f, tt)))
  where
    go :
        (t : Bool) → eqb x 10 ≡ t → Quiet (open_line [] s) → (eqb x 10 ≡ false → Quiet (open_line (p ++ x ∷ []) s))
        → Quiet (if t then open_line [] s else open_line (p ++ x ∷ []) s)
    go true e a b = a
    go false e a b = b e

pub ended_quiet : (p s : List ℕ) → Quiet p → Quiets (ended p s)
unfolding Quiet Quiets
ended_quiet p [] q = tt
ended_quiet p (x ∷ s) q =
    go (eqb x 10) refl (ended_quiet [] s tt) (λ f. ended_quiet (p ++ x ∷ []) s (quiet_append p (x ∷ []) q (f, tt)))
  where
    go :
        (t : Bool) → eqb x 10 ≡ t → Quiets (ended [] s) → (eqb x 10 ≡ false → Quiets (ended (p ++ x ∷ []) s))
        → Quiets (if t then p ∷ ended [] s else ended (p ++ x ∷ []) s)
    go true e a b = (q, a)
    go false e a b = b e

-- a last line that is not empty
pub last_some : (s : List ℕ) → 0 < length s → last_line s ≡ s ∷ []
last_some [] h = absurd (omega arith)
last_some (x ∷ s) h = refl

-- ---- files put together from lines

pub whole : (l s : List ℕ) → file_of (ended l s) ++ open_line l s ≡ l ++ s
whole l [] = sym (append-nil l)
whole l (x ∷ s) = go (eqb x 10) refl (whole [] s) (whole (l ++ x ∷ []) s)
  where
    go :
        (t : Bool) → eqb x 10 ≡ t → file_of (ended [] s) ++ open_line [] s ≡ s
        → file_of (ended (l ++ x ∷ []) s) ++ open_line (l ++ x ∷ []) s ≡ (l ++ x ∷ []) ++ s
        → file_of (if t then l ∷ ended [] s else ended (l ++ x ∷ []) s)
        ++ (if t then open_line [] s else open_line (l ++ x ∷ []) s)
        ≡ l ++ x ∷ s
    go true e a b =
        append_assoc l (10 ∷ file_of (ended [] s)) (open_line [] s)
        ∙ ap (λ (r : List ℕ). l ++ 10 ∷ r) a
        ∙ ap (λ (y : ℕ). l ++ y ∷ s) (sym (eqb-true x 10 e))
    go false e a b = b ∙ append_assoc l (x ∷ []) s

-- a line and its LF before a file: one more line, and the same rest
module _ (l s : List ℕ) (q : Quiet l) where
  pub line_ended_lem : ended [] (l ++ 10 ∷ s) ≡ l ∷ ended [] s
  line_ended_lem = ended_behind l (10 ∷ s) q

  pub line_open : open_line [] (l ++ 10 ∷ s) ≡ open_line [] s
  line_open = open_behind l (10 ∷ s) q

pub file_ended : (ls : List (List ℕ)) (s : List ℕ) → Quiets ls → ended [] (file_of ls ++ s) ≡ ls ++ ended [] s
unfolding Quiets
file_ended [] s q = refl
file_ended (l ∷ ls) s q =
    ap (ended []) (append_assoc l (10 ∷ file_of ls) s)
    ∙ line_ended_lem l (file_of ls ++ s) q.0
    ∙ ap {B = List (List ℕ)} (λ r. l ∷ r) (file_ended ls s q.1)

pub file_open : (ls : List (List ℕ)) (s : List ℕ) → Quiets ls → open_line [] (file_of ls ++ s) ≡ open_line [] s
unfolding Quiets
file_open [] s q = refl
file_open (l ∷ ls) s q =
    ap (open_line []) (append_assoc l (10 ∷ file_of ls) s) ∙ line_open l (file_of ls ++ s) q.0 ∙ file_open ls s q.1

pub file_append : (x y : List (List ℕ)) → file_of (x ++ y) ≡ file_of x ++ file_of y
file_append [] y = refl
file_append (l ∷ x) y =
    ap (λ (r : List ℕ). l ++ 10 ∷ r) (file_append x y) ∙ sym (append_assoc l (10 ∷ file_of x) (file_of y))

pub quiets_append : (x y : List (List ℕ)) → Quiets (x ++ y) → Quiets x × Quiets y
unfolding Quiets
quiets_append [] y q = (tt, q)
quiets_append (l ∷ x) y q = let r = quiets_append x y q.1 in ((q.0, r.0), r.1)
