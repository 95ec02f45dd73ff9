-- What a window comes to. Each law says what some more leave of one.
use mathlib.Core.Path.{◌≡◌, refl, ap, sym, ◌∙◌}
use mathlib.Core.List.{List, [], ◌∷◌, ◌++◌, append_assoc, append-nil}
use Prim.Native.Nat.{ℕ, zero, suc, ◌+◌, ◌-◌, ◌*◌, ◌<◌, ◌≤◌}
use native.Mathlib.Decide.{dec_lt, dec_le}
use native.Mathlib.Numerals.{add-one}
use native.Mathlib.Nat.{add-zero, zero-add, zero-mul, suc-mul, mul-zero}
use native.Mathlib.Omega.{arith}
use borrow.Author.Tests.{lt-ltb, le-ltb}
use lib.ListN.{length, take, drop, set, length-set, length-take, length-append, take-append-drop, drop_of_length-le}
use Rattle.clocks.proofs.Lists.{drop_take}
use lib.Seq.{take-suc-set, drop-set-lt, take_all, take-nil, length-take-le, drop_at}
use Rattle.blocks.specs.Blocks.{times}
use Rattle.blocks.specs.Windows.{Window, window, note_of, notes}

-- ---- one more

pub passed : (k u : ℕ) (l : List ℕ) (p : ℕ) → 0 < k → note_of (window k u l) p ≡ window (k - 1) u l
unfolding note_of
passed k u l p h = rw (lt-ltb 0 k h)

pub put : (u : ℕ) (l : List ℕ) (p : ℕ) → u < length l → note_of (window 0 u l) p ≡ window 0 (u + 1) (set l u p)
unfolding note_of
put u l p h = rw (lt-ltb u (length l) h)

pub late : (u : ℕ) (l : List ℕ) (p : ℕ) → length l ≤ u → note_of (window 0 u l) p ≡ window 0 u l
unfolding note_of
late u l p h = rw (le-ltb u (length l) h)

-- with none to pass over, whatever number says so
module _ (k u : ℕ) (l : List ℕ) (p : ℕ) (h : k ≤ 0) where
  pub put_last : u < length l → note_of (window k u l) p ≡ window k (u + 1) (set l u p)
  put_last g = let z : k ≡ 0 = omega arith in ap (λ (n : ℕ). note_of (window n u l) p) z ∙ put u l p g ∙ ap (λ (n : ℕ). window n (u + 1) (set l u p)) (sym z)

  pub too_late : length l ≤ u → note_of (window k u l) p ≡ window k u l
  too_late g = let z : k ≡ 0 = omega arith in ap (λ (n : ℕ). note_of (window n u l) p) z ∙ late u l p g ∙ ap (λ (n : ℕ). window n u l) (sym z)

-- what one more does
pub ruleset one_more = (passed, put_last, too_late)

-- ---- some more

pub none : (w : Window) → notes w [] ≡ w
unfolding notes
none w = refl

pub one : (w : Window) (p : ℕ) → notes w (p ∷ []) ≡ note_of w p
unfolding notes
one w p = refl

pub notes_append : (w : Window) (a b : List ℕ) → notes w (a ++ b) ≡ notes (notes w a) b
unfolding notes
notes_append w [] b = refl
notes_append w (x ∷ a) b = notes_append (note_of w x) a b

-- all are passed over that there are to pass over
pub leaps : (k u : ℕ) (l ps : List ℕ) → length ps ≤ k → notes (window k u l) ps ≡ window (k - length ps) u l
unfolding notes
leaps k u l [] h = let z : k ≡ k - 0 = omega arith in ap (λ (n : ℕ). window n u l) z
leaps k u l (p ∷ ps) h =
    let z : k - 1 - length ps ≡ k - suc (length ps) = omega arith in
    ap (λ (w : Window). notes w ps) (passed k u l p (omega arith)) ∙ leaps (k - 1) u l ps (omega arith) ∙ ap (λ (n : ℕ). window n u l) z

-- first those that are to be passed over, then the others
pub skips : (k u : ℕ) (l ps : List ℕ) → k ≤ length ps → notes (window k u l) ps ≡ notes (window 0 u l) (drop k ps)
unfolding notes
skips zero u l ps h = refl
skips (suc k) u l [] h = absurd (omega arith)
skips (suc k) u l (p ∷ ps) h =
    let z : suc k - 1 ≡ k = omega arith in
    ap (λ (w : Window). notes w ps) (passed (suc k) u l p (omega arith) ∙ ap (λ (n : ℕ). window n u l) z) ∙ skips k u l ps (omega arith)

-- nothing more comes into a full window
pub full : (u : ℕ) (l ps : List ℕ) → length l ≤ u → notes (window 0 u l) ps ≡ window 0 u l
unfolding notes
full u l [] h = refl
full u l (p ∷ ps) h = ap (λ (w : Window). notes w ps) (late u l p h) ∙ full u l ps h

pub stays : (w : Window) (ps : List ℕ) → w.skip ≡ 0 → length w.seen ≤ w.used → notes w ps ≡ w
stays w ps z h = let e : w ≡ window 0 w.used w.seen = ap (λ (n : ℕ). window n w.used w.seen) z in rw e (full w.used w.seen ps h)

-- those that there is room for stand behind those before them, and beyond them nothing is changed
pub record Filled (u : ℕ) (l ps : List ℕ) (w : Window) : Type 0 where
  pub skip : w.skip ≡ 0
  pub used : w.used ≡ u + length ps
  pub front : take (u + length ps) w.seen ≡ take u l ++ ps
  pub beyond : drop (u + length ps) w.seen ≡ drop (u + length ps) l
  pub size : length w.seen ≡ length l

filled_none : (u : ℕ) (l : List ℕ) → Filled u l [] (window 0 u l)
filled_none u l =
    let z = add-zero u in
    record { skip = refl; used = sym z; front = rw (z, append-nil (take u l)); beyond = refl; size = refl }

pub fills : (u : ℕ) (l ps : List ℕ) → u + length ps ≤ length l → Filled u l ps (notes (window 0 u l) ps)
unfolding notes
fills u l [] h = filled_none u l
fills u l (p ∷ ps) h =
    let f = fills (u + 1) (set l u p) ps (omega (arith, length-set l u p)) in
    let z : u + suc (length ps) ≡ u + 1 + length ps = omega arith in
    let s : take (u + 1) (set l u p) ++ ps ≡ take u l ++ p ∷ ps =
    rw (add-one, take-suc-set l u p (omega arith)) (append_assoc (take u l) (p ∷ []) ps) in
    let g : Filled u l (p ∷ ps) (notes (window 0 (u + 1) (set l u p)) ps) =
    record {
      skip = f.skip;
      used = f.used ∙ sym z;
      front = rw z (f.front ∙ s);
      beyond = rw z (f.beyond ∙ drop-set-lt (u + 1 + length ps) l u p (omega arith));
      size = f.size ∙ length-set l u p;
    } in
    rw (put u l p (omega arith)) g

-- ---- how far a window has come

-- from w to v by these: the buffer is as long as it was, fewer are to be passed over, more are noted; and until it is full, each was
-- passed over or noted, and none was noted before all were passed over
pub record Came (w v : Window) (ps : List ℕ) : Type 0 where
  pub size : length v.seen ≡ length w.seen
  pub fewer : v.skip ≤ w.skip
  pub more : w.used ≤ v.used
  pub within : w.used ≤ length w.seen → v.used ≤ length w.seen
  pub all : v.used < length w.seen → w.skip - v.skip + (v.used - w.used) ≡ length ps
  pub order : w.used < v.used → v.skip ≡ 0

came_none : (w : Window) → Came w w []
came_none w =
    record {
      size = refl;
      fewer = omega arith;
      more = omega arith;
      within = λ h. h;
      all = λ h. omega arith;
      order = λ h. absurd (omega arith);
    }

module _ (k u : ℕ) (l : List ℕ) (p : ℕ) (ps : List ℕ) where
  came_past : {v : Window} → 0 < k → Came (window (k - 1) u l) v ps → Came (window k u l) v (p ∷ ps)
  came_past {v} h c =
      let f = c.fewer in
      record {
        size = c.size;
        fewer = omega arith;
        more = c.more;
        within = c.within;
        all = λ g. let e = c.all g in omega arith;
        order = c.order;
      }

  came_put : {v : Window} → k ≡ 0 → u < length l → Came (window 0 (u + 1) (set l u p)) v ps → Came (window k u l) v (p ∷ ps)
  came_put {v} z h c =
      let n = length-set l u p in
      let f = c.fewer in
      let m = c.more in
      let s = c.size in
      record {
        size = s ∙ n;
        fewer = omega arith;
        more = omega arith;
        within = λ g. let w = c.within (omega (arith, n)) in omega (arith, n);
        all = λ g. let e = c.all (omega (arith, n)) in omega arith;
        order = λ g. omega arith;
      }

came_late : (k u : ℕ) (l ps : List ℕ) → k ≡ 0 → length l ≤ u → Came (window k u l) (window 0 u l) ps
came_late k u l ps z h =
    record {
      size = refl;
      fewer = omega arith;
      more = omega arith;
      within = λ g. g;
      all = λ g. absurd (omega arith);
      order = λ g. refl;
    }

pub came : (k u : ℕ) (l ps : List ℕ) → Came (window k u l) (notes (window k u l) ps) ps
unfolding notes
came k u l [] = came_none (window k u l)
came k u l (p ∷ ps) = go (λ k u l. came k u l ps) (dec_lt 0 k) (dec_lt u (length l))
  where
    go :
        ((k u : ℕ) (l : List ℕ) → Came (window k u l) (notes (window k u l) ps) ps)
        → Dec (0 < k) → Dec (u < length l) → Came (window k u l) (notes (note_of (window k u l) p) ps) (p ∷ ps)
    go rec (yes h) d = rw (passed k u l p h) (came_past k u l p ps h (rec (k - 1) u l))
    go rec (no h) (yes g) =
        let z : k ≡ 0 = omega arith in
        rw (ap (λ (n : ℕ). note_of (window n u l) p) z ∙ put u l p g) (came_put k u l p ps z g (rec 0 (u + 1) (set l u p)))
    go rec (no h) (no g) =
        let z : k ≡ 0 = omega arith in
        let f : length l ≤ u = omega arith in
        rw (ap (λ (n : ℕ). note_of (window n u l) p) z ∙ late u l p f, full u l ps f) (came_late k u l (p ∷ ps) z f)

-- those that were noted last, if there was room for them, are the last in the buffer
pub lasts : (u : ℕ) (l ps : List ℕ) → u + length ps ≤ length l → take (length ps) (drop u (notes (window 0 u l) ps).seen) ≡ ps
lasts u l ps h =
    let f = fills u l ps h in
    let v = (notes (window 0 u l) ps).seen in
    let n : length (take u l) ≡ u = length-take-le u l (omega arith) in
    let z : u + length ps - u ≡ length ps = omega arith in
    ap (λ (n : ℕ). take n (drop u v)) (sym z) ∙ sym (drop_take u (u + length ps) v) ∙ ap (drop u) f.front ∙ drop_at (take u l) ps u n

-- ---- what a window of a list holds in the end

-- a buffer with these at its front, and beyond them what was there
pub record Shown (k : ℕ) (l ps : List ℕ) (v : Window) : Type 0 where
  pub used : v.used ≡ length (take (length l) (drop k ps))
  pub front : take v.used v.seen ≡ take (length l) (drop k ps)
  pub beyond : drop v.used v.seen ≡ drop v.used l

-- with nothing to be passed over
module _ (l ps : List ℕ) where
  fitting : List ℕ
  fitting = take (length l) ps

  filled : Filled 0 l fitting (notes (window 0 0 l) fitting)
  unfolding fitting
  filled = fills 0 l (take (length l) ps) (omega (arith, length-take (length l) ps))

  -- those that do not fit come too late
  only_fitting : notes (window 0 0 l) ps ≡ notes (window 0 0 l) fitting
  unfolding fitting
  only_fitting = go (dec_le (length ps) (length l))
    where
      go : Dec (length ps ≤ length l) → notes (window 0 0 l) ps ≡ notes (window 0 0 l) (take (length l) ps)
      go (yes h) = ap (notes (window 0 0 l)) (sym (take_all (length l) ps h))
      go (no h) =
          let n : length (take (length l) ps) ≡ length l = length-take-le (length l) ps (omega arith) in
          let v = notes (window 0 0 l) (take (length l) ps) in
          let s = filled.size in
          let u = filled.used in
          ap (notes (window 0 0 l)) (sym (take-append-drop (length l) ps))
          ∙ notes_append (window 0 0 l) (take (length l) ps) (drop (length l) ps)
          ∙ stays v (drop (length l) ps) filled.skip (omega (arith, n, s, u))

  shows_here : Shown 0 l ps (notes (window 0 0 l) ps)
  unfolding fitting
  shows_here =
      let f = filled in
      let z = zero-add (length fitting) in
      let u : (notes (window 0 0 l) fitting).used ≡ length fitting = f.used ∙ z in
      let e = only_fitting in
      record {
        used = ap (λ (w : Window). w.used) e ∙ u;
        front = ap (λ (w : Window). take w.used w.seen) e ∙ rw u (rw (← z) f.front);
        beyond = rw (e, u) (rw (← z) f.beyond);
      }

pub shows : (k : ℕ) (l ps : List ℕ) → Shown k l ps (notes (window k 0 l) ps)
shows k l ps = go (dec_le k (length ps))
  where
    go : Dec (k ≤ length ps) → Shown k l ps (notes (window k 0 l) ps)
    go (yes h) =
        let s = shows_here l (drop k ps) in
        rw (skips k 0 l ps h) (record { used = s.used; front = s.front; beyond = s.beyond })
    go (no h) =
        let e : take (length l) (drop k ps) ≡ [] = ap (take (length l)) (drop_of_length-le ps {i = k} (omega arith)) ∙ take-nil (length l) in
        rw (leaps k 0 l ps (omega arith)) (record { used = sym (ap length e); front = sym e; beyond = refl })

-- ---- a list many times over

pub never : (w : Window) (o : List ℕ) → notes w (times 0 o) ≡ w
unfolding times notes
never w o = refl

pub once_more : (w : Window) (n : ℕ) (o : List ℕ) → notes w (times (n + 1) o) ≡ notes (notes w (times n o)) o
unfolding times
once_more w n o = rw add-one (notes_append w (times n o) o)

-- so often, and then so often again
pub times_add : (n m : ℕ) (o : List ℕ) → times (n + m) o ≡ times n o ++ times m o
unfolding times
times_add n zero o = rw add-zero (sym (append-nil (times n o)))
times_add n (suc m) o = let z : n + suc m ≡ suc (n + m) = omega arith in rw z (ap (λ (x : List ℕ). x ++ o) (times_add n m o) ∙ append_assoc (times n o) (times m o) o)

pub more_often : (w : Window) (n m : ℕ) (o : List ℕ) → notes w (times (n + m) o) ≡ notes (notes w (times n o)) (times m o)
more_often w n m o = ap (notes w) (times_add n m o) ∙ notes_append w (times n o) (times m o)

pub length_times : (n : ℕ) (o : List ℕ) → length (times n o) ≡ n * length o
unfolding times
length_times zero o = sym (zero-mul (length o))
length_times (suc n) o = length-append (times n o) o ∙ omega (arith, length_times n o, suc-mul n (length o))

pub empty : (xs : List ℕ) → length xs ≡ 0 → xs ≡ []
empty [] e = refl
empty (x ∷ xs) e = absurd (omega arith)

pub times_none : (n : ℕ) (o : List ℕ) → length o ≡ 0 → times n o ≡ []
times_none n o h = empty (times n o) (length_times n o ∙ rw h (mul-zero n))
