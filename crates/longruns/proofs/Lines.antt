-- Line ends: of a sum of clocks, of whole lines, and by division.
use Rattle.std.proofs.Common.{◌≡◌, ℕ, zero, suc, ◌+◌, ◌-◌, ◌*◌, ◌/◌, ◌%◌, ◌<◌, ◌≤◌, eqb, sym, refl, ap, ◌∙◌, ap₂, zero-le, add-zero, add_assoc, add-suc, mod-lt, suc-mul, add_comm, div-add-mod', le-div_iff_mul-le, zero-mul, div-mul-le_self, arith, lit≤, ne_eqb}
use native.Mathlib.Decide.{dec_lt}
use Rattle.clocks.specs.Clocks.{after}
use Rattle.clocks.proofs.Clocks.{after_add}
use Rattle.clocks.proofs.Tests.{on_true, on_false, picked}
use Rattle.raster.specs.Clock.{ends_line, line_clocked, line_ended, raster_clocked}
use Rattle.raster.specs.Closed.{gap, along_of}
use Rattle.raster.specs.declared.Registers.{Registers}
use Rattle.raster.specs.declared.Line.{Line}
use Rattle.raster.specs.declared.Frame.{Frame}
use Rattle.raster.specs.declared.Raster.{Raster}
use Rattle.raster.proofs.Runs.{raster, along_after, last, at_end, end_column, past_after}
use Rattle.longruns.specs.Ends.{ends_next, ends_of, turns_of}

-- ---- clocks and then more of them

-- what clocks leave, and the line ends that they passed
pub record Passed : Type 0 where
  pub raster : Raster
  pub ends : ℕ

abbrev pub passed : Raster → ℕ → Passed
passed v k = record { raster = v; ends = k }

abbrev pub passed_of : ℕ → Raster → Passed
passed_of n v = passed (after n raster_clocked v) (ends_of n v)

-- k line ends before those of p
abbrev pub more : ℕ → Passed → Passed
more k p = passed p.raster (k + p.ends)

pub ends_add : (m n : ℕ) (v : Raster) → ends_of (m + n) v ≡ ends_of m v + ends_of n (after m raster_clocked v)
unfolding ends_of
ends_add m zero v = rw (add-zero, add-zero)
ends_add m (suc n) v =
    rw (add-suc, after_add m n raster_clocked v, ends_add m n v)
    (add_assoc (ends_of m v) (ends_of n (after m raster_clocked v)) _)

pub passed_add : (m n : ℕ) (v : Raster) → passed_of (m + n) v ≡ more (ends_of m v) (passed_of n (after m raster_clocked v))
passed_add m n v = ap₂ passed (after_add m n raster_clocked v) (ends_add m n v)

-- ---- a line

module _ (r : Registers) (b0 : r.r0 < 256) (b2 : r.r2 < 256) (l : Line) (b : l.column < 256) where
  -- k clocks before the one that ends the line
  pub along_ends : (f : Frame) (k : ℕ) → k ≤ gap l.column r.r0 → ends_of k (raster r l f) ≡ 0
  unfolding ends_of
  along_ends f zero h = refl
  along_ends f (suc k) h =
      ap₂ ◌+◌ (along_ends f k (omega arith)) (ap ends_next (along_after r b0 b2 l b f k (omega arith)) ∙ none)
    where
      none : ends_next (raster r (along_of k r l) f) ≡ 0
      none = unfold along_of in on_false (eqb ((l.column + k) % 256) r.r0) 1 0 (ne_eqb ((l.column + k) % 256) r.r0 (omega arith))

  -- and that one with them
  line_ends : (f : Frame) → ends_of (suc (gap l.column r.r0)) (raster r l f) ≡ 1
  unfolding ends_of
  line_ends f =
      let g = gap l.column r.r0 in
      ap₂ ◌+◌ (along_ends f g (omega arith))
      (ap ends_next (along_after r b0 b2 l b f g (omega arith)) ∙ on_true (eqb (last r b0 b2 l b).column r.r0) 1 0 (at_end r b0 b2 l b))

-- n clocks come to the start of a line, k line ends on
pub record Lined (r : Registers) (l : Line) (f : Frame) (n k : ℕ) : Type 0 where
  pub line : Line
  pub column : line.column ≡ 0
  pub lined : passed_of n (raster r l f) ≡ passed (raster r line (after k (line_ended r) f)) k

module _ (r : Registers) (b0 : r.r0 < 256) (b2 : r.r2 < 256) where
  -- the clocks of this line's rest
  pub first_line : (l : Line) → l.column < 256 → (f : Frame) → Lined r l f (suc (gap l.column r.r0)) 1
  unfolding after
  first_line l b f =
      let g = gap l.column r.r0 in
      let z : suc g - g - 1 ≡ 0 = omega arith in
      let e = line_clocked r (last r b0 b2 l b) in
      record {
        line = e;
        column = end_column r b0 b2 l b;
        lined =
            ap₂ passed
            (past_after r b0 b2 l b f (suc g) (omega arith) ∙ ap (λ (k : ℕ). after k raster_clocked (raster r e (line_ended r f))) z)
            (line_ends r b0 b2 l b f);
      }

  -- j line ends, and k more
  lined_then : (l : Line) (f : Frame) (m n j k : ℕ) (a : Lined r l f m j) → Lined r a.line (after j (line_ended r) f) n k → Lined r l f (m + n) (j + k)
  lined_then l f m n j k a b =
      record {
        line = b.line;
        column = b.column;
        lined =
            passed_add m n (raster r l f)
            ∙ ap (λ (p : Passed). more p.ends (passed_of n p.raster)) a.lined
            ∙ ap (more j) b.lined
            ∙ ap (λ (x : Frame). passed (raster r b.line x) (j + k)) (sym (after_add j k (line_ended r) f));
      }

  lined_as : (l : Line) (f : Frame) {m n j k : ℕ} → m ≡ n → j ≡ k → Lined r l f m j → Lined r l f n k
  lined_as l f e o a = rw (← e, ← o) a

  -- k lines from the start of one
  pub whole_lines : (k : ℕ) (l : Line) → l.column ≡ 0 → (f : Frame) → Lined r l f (k * (r.r0 + 1)) k
  unfolding after ends_of
  whole_lines zero l z f = record { line = l; column = z; lined = rw zero-mul }
  whole_lines (suc k) l z f =
      let a = whole_lines k l z f in
      let c = a.column in
      let e : k * (r.r0 + 1) + suc (gap a.line.column r.r0) ≡ suc k * (r.r0 + 1) = omega (arith, suc-mul k (r.r0 + 1)) in
      let o : k + 1 ≡ suc k = omega arith in
      let b = first_line a.line (omega arith) (after k (line_ended r) f) in
      lined_as l f e o (lined_then l f (k * (r.r0 + 1)) _ k 1 a b)

  -- this line's rest, and k lines
  pub lines_on : (k : ℕ) (l : Line) → l.column < 256 → (f : Frame) → Lined r l f (suc (gap l.column r.r0) + k * (r.r0 + 1)) (suc k)
  lines_on k l b f =
      let a = first_line l b f in
      let o : 1 + k ≡ suc k = omega arith in
      lined_as l f refl o (lined_then l f (suc (gap l.column r.r0)) (k * (r.r0 + 1)) 1 k a (whole_lines k a.line a.column _))

  -- ---- line ends by division

  -- from the start of a line
  pub from_start : (n : ℕ) (l : Line) → l.column ≡ 0 → (f : Frame) → ends_of n (raster r l f) ≡ n / (r.r0 + 1)
  from_start n l z f =
      let w = r.r0 + 1 in
      let a = whole_lines (n / w) l z f in
      let c = a.column in
      let s = mod-lt n {m = w} (omega arith) in
      let o = along_ends r b0 b2 a.line (omega arith) (after (n / w) (line_ended r) f) (n % w) (omega arith) in
      ap (λ (k : ℕ). ends_of k (raster r l f)) (sym (div-add-mod' n w))
      ∙ ends_add (n / w * w) (n % w) (raster r l f)
      ∙ ap₂ ◌+◌ (ap (λ (p : Passed). p.ends) a.lined) (ap (λ (p : Passed). ends_of (n % w) p.raster) a.lined ∙ o)
      ∙ add-zero (n / w)

  -- from anywhere, past the line's end: one there, and from there on one each R0 + 1 clocks
  pub ends_some :
      (n : ℕ) (l : Line) → l.column < 256 → (f : Frame) → gap l.column r.r0 < n
      → ends_of n (raster r l f) ≡ (n - gap l.column r.r0 - 1) / (r.r0 + 1) + 1
  ends_some n l b f h =
      let g = gap l.column r.r0 in
      let m = n - g - 1 in
      let a = first_line l b f in
      let e : n ≡ suc g + m = omega arith in
      ap (λ (k : ℕ). ends_of k (raster r l f)) e
      ∙ ends_add (suc g) m (raster r l f)
      ∙ ap₂ ◌+◌ (ap (λ (p : Passed). p.ends) a.lined)
      (ap (λ (p : Passed). ends_of m p.raster) a.lined ∙ from_start m a.line a.column _)
      ∙ add_comm 1 (m / (r.r0 + 1))

  -- so at most one more than a line each R0 + 1 clocks
  pub ends_most : (n : ℕ) (l : Line) → l.column < 256 → (f : Frame) → ends_of n (raster r l f) ≤ n / (r.r0 + 1) + 1
  ends_most n l b f = go (dec_lt (gap l.column r.r0) n)
    where
      go : Dec (gap l.column r.r0 < n) → ends_of n (raster r l f) ≤ n / (r.r0 + 1) + 1
      go (no h) = rw (along_ends r b0 b2 l b f n (omega arith)) zero-le
      go (yes h) =
          let m = n - gap l.column r.r0 - 1 in
          let d : m / (r.r0 + 1) ≤ n / (r.r0 + 1) =
          (le-div_iff_mul-le {k = r.r0 + 1} {x = m / (r.r0 + 1)} {y = n} (omega arith)).1 (omega (arith, div-mul-le_self m (r.r0 + 1))) in
          rw (ends_some n l b f h) (omega arith)

-- ---- how many there can be

-- a clock ends one line at most
pub ends_fit : (n : ℕ) (v : Raster) → ends_of n v ≤ n
unfolding ends_of
ends_fit zero v = zero-le
ends_fit (suc n) v =
    let u = after n raster_clocked v in
    let h = ends_fit n v in
    let e : ends_next u ≤ 1 = picked (λ (k : ℕ). k ≤ 1) (ends_line u.registers u.line) (lit≤ tt) zero-le in
    omega arith

-- ---- turns

pub turns_some : (n : ℕ) (v : Raster) → (n ≡ 0 → ⊥) → ends_of n v + 1 ≡ turns_of n v
unfolding turns_of
turns_some zero v z = absurd (z refl)
turns_some (suc n) v z = refl

pub turns_few : (n : ℕ) (v : Raster) → turns_of n v ≤ n + 1
unfolding turns_of
turns_few zero v = zero-le
turns_few (suc n) v = omega (arith, ends_fit (suc n) v)
