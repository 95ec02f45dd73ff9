-- The statements of specs/Demands.antt, proved.
use mathlib.Core.Path.{◌≡◌, refl, sym, ap, ◌∙◌}
use mathlib.Core.Bool.{true, false≢true}
use mathlib.Core.List.{List, [], ◌∷◌, ◌++◌, append-nil}
use Prim.Native.Nat.{ℕ, ◌+◌, ◌*◌, ◌≤◌}
use native.Mathlib.Decide.{dec_le}
use native.Mathlib.Omega.{arith}
use lib.ListN.{length, take, drop, length-take}
use lib.Seq.{length-take-le}
use Rattle.std.specs.Prelude.{None, Some}
use Rattle.clocks.proofs.Lists.{same_halves}
use Rattle.lines.specs.Lines.{open_line}
use Rattle.session.specs.Pieces.{Held, at_start, held, wrote, written_for}
use Rattle.session.proofs.Demands.{any_cut}
use Rattle.lines.proofs.Written.{written_one}
use Rattle.turns.specs.Turns.{Came, Outcome, outcome, written, holding, bytes_of, Fits, Shows, held_after}
use Rattle.turns.specs.Demands
use Rattle.turns.specs.Demands.{Filled, reads}
use Rattle.turns.specs.declared.Went.{Went}

-- ---- all that is written

from_held : (h : Held) (pieces : List (List ℕ)) (later : List Came) → Filled pieces → written h (reads pieces later) ≡ written_for h pieces
unfolding outcome
from_held h [] later f = append-nil _
from_held h ([] ∷ ps) later f = absurd f
from_held h ((x ∷ p) ∷ ps) later f = ap (λ (r : List ℕ). wrote h (x ∷ p) ++ r) (from_held (held h (x ∷ p)) ps later f)

pub turns_write_session : Demands.TurnsWriteSession
turns_write_session pieces later f = from_held at_start pieces later f ∙ any_cut pieces

-- ---- what goes from turn to turn

pub held_more : (h : Held) (ps : List (List ℕ)) (p : List ℕ) → held_after h (ps ++ p ∷ []) ≡ held (held_after h ps) p
held_more h [] p = refl
held_more h (q ∷ ps) p = held_more (held h q) ps p

-- more may come only after a piece
after_piece : (h : Held) (c : Came) → (outcome h c).more ≡ true → (p : List ℕ) × ((outcome h c).holds ≡ held h p)
unfolding outcome
after_piece h None e = absurd (false≢true e)
after_piece h (Some []) e = absurd (false≢true e)
after_piece h (Some (x ∷ p)) e = (x ∷ p, refl)

pub goes_on : Demands.GoesOn
goes_on h c buf out t buf' out' s e r =
    let q = after_piece h c (sym s.more ∙ e) in
    let n : holding t.bench (take t.kept buf') ≡ held h q.0 = s.holds ∙ q.1 in
    let k : length (take t.kept buf') ≡ t.kept = length-take-le t.kept buf' s.within in
    let m : length (take t.kept buf') ≡ length (held h q.0).kept = ap (λ (x : Held). length x.kept) n in (
      omega (arith, k, m, length-take 33 (open_line [] (h.kept ++ q.0))),
      (r.0 ++ q.0 ∷ [], n ∙ ap (λ (x : Held). held x q.0) r.1 ∙ sym (held_more at_start r.0 q.0)),
    )

-- ---- one result

shows_one :
    {o : Outcome} {buf out x y u v : List ℕ} {t s : Went} → Shows o buf out t x u → Shows o buf out s y v
    → (t ≡ s) × (x ≡ y) × (u ≡ v)
shows_one {o} {buf} {out} {x} {y} {u} {v} {t} {s} f g =
    let h : holding t.bench (take t.kept x) ≡ holding s.bench (take s.kept y) = f.holds ∙ sym g.holds in
    let p : take t.kept x ≡ take s.kept y = ap (λ (h : Held). h.kept) h in
    let k : t.kept ≡ s.kept =
    sym (length-take-le t.kept x f.within) ∙ ap length p ∙ length-take-le s.kept y g.within in
    let w = written_one f.answers g.answers in (
      λ i. record { bench = (h i).bench; kept = k i; made = w.1 i; more = (f.more ∙ sym g.more) i },
      same_halves t.kept s.kept x y k p (f.beyond ∙ ap (λ (n : ℕ). drop n buf) k ∙ sym g.beyond),
      w.0,
    )

pub takes_one : Demands.TakesOne
takes_one b kept read buf out x y u v t s f g = go (dec_le (kept + bytes_of read) (length buf)) (dec_le (3 * length buf + 13) (length out))
  where
    none : (Fits kept read buf out → ⊥) → (t ≡ s) × (x ≡ y) × (u ≡ v)
    none n =
        let p = f.misfits n in
        let q = g.misfits n in
        (p.0 ∙ sym q.0, p.1 ∙ sym q.1, p.2 ∙ sym q.2)

    go : Dec (kept + bytes_of read ≤ length buf) → Dec (3 * length buf + 13 ≤ length out) → (t ≡ s) × (x ≡ y) × (u ≡ v)
    go (yes h) (yes l) = shows_one (f.fits (h, l)) (g.fits (h, l))
    go (no h) d = none (λ e. h e.0)
    go (yes h) (no l) = none (λ e. l e.1)
