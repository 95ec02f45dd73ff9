-- A frame's line ends, VSYNC apart, are counts down to a new frame, and then round and round: an instance of the laws of clocks.
use Rattle.std.proofs.Common.{◌≡◌, ℕ, suc, ◌+◌, ◌-◌, ◌*◌, ◌/◌, ◌%◌, ◌<◌, ◌≤◌, Bool, true, false, eqb, ltb, ◌⊎◌, sym, refl, ap, ◌∙◌, inl, inr, mul-le-mul_right, suc-mul, div-add-mod', mul-suc, mul-add, arith, le-ltb, lt-ltb, eq-eqb, if◌then◌else◌}
use native.Mathlib.Nat.{add-mul-div_right}
use native.Mathlib.Decide.{dec_lt, dec_le, ℕ_discrete}
use Rattle.std.proofs.lemmas.Bool.Decides.{nat_tests}
use Rattle.clocks.specs.Clocks.{after}
use Rattle.clocks.proofs.Tests.{on_true, on_false}
use Rattle.clocks.proofs.Turns.{one_more, Within, Turned, Turns, after_short, after_past}
use Rattle.raster.specs.Clock.{with_adjust, row_done, new_frame, adjust_moved, row_ended, frame_moved}
use Rattle.raster.specs.declared.Registers.{Registers}
use Rattle.raster.specs.declared.Frame.{Frame}
use Rattle.longruns.specs.Closed.{Counters, rows_after, ends_before, in_row, in_adjust, rows_left, at_row, place_of, with_field, frame_on}

-- ---- the cases of the definitions

before_true : (r : Registers) (f : Frame) → f.adjusting ≡ true → ends_before r f ≡ (r.r5 + 31 - f.adjust) % 32
unfolding ends_before
before_true r f e = on_true f.adjusting _ _ e

before_false :
    (r : Registers) (f : Frame) → f.adjusting ≡ false
    → ends_before r f ≡ (r.r9 + 32 - f.scan) % 32 + rows_after r f * (r.r9 + 1) + r.r5
unfolding ends_before
before_false r f e = on_false f.adjusting _ _ e

place_true : (r : Registers) (f : Frame) (k : ℕ) → f.adjusting ≡ true → place_of r f k ≡ with_adjust true ((r.r5 + 31 - k) % 32) f
unfolding place_of
place_true r f k e = on_true f.adjusting _ _ e

place_adjust : (r : Registers) (f : Frame) (k : ℕ) → f.adjusting ≡ false → k < r.r5 → place_of r f k ≡ in_adjust r f (r.r5 - 1 - k)
unfolding place_of
place_adjust r f k e h = on_false f.adjusting _ _ e ∙ on_true (ltb k r.r5) _ _ (lt-ltb k r.r5 h)

place_row : (r : Registers) (f : Frame) (k : ℕ) → f.adjusting ≡ false → r.r5 ≤ k → place_of r f k ≡ at_row r f (k - r.r5)
unfolding place_of
place_row r f k e h = on_false f.adjusting _ _ e ∙ on_false (ltb k r.r5) _ _ (le-ltb k r.r5 h)

module _ (r : Registers) (b4 : r.r4 < 128) (b5 : r.r5 < 32) (b9 : r.r9 < 32) (f : Frame) where
  -- ---- one line end

  -- a scan line less of the row
  scan_step : (s u : ℕ) → u < 31 → frame_moved r (in_row r f s (suc u)) ≡ in_row r f s u
  unfolding frame_moved in_row
  scan_step s u h = grind (arith, nat_tests)

  -- the row start grows by R1 once for each row
  grown : (s : ℕ) → s < rows_after r f
      → ((f.row_start + r.r1 * (rows_after r f - suc s)) % 16384 + r.r1) % 16384 ≡ (f.row_start + r.r1 * (rows_after r f - s)) % 16384
  grown s h =
      let e : rows_after r f - s ≡ suc (rows_after r f - suc s) = omega arith in
      rw (e, mul-suc) (omega arith)

  -- a row less, and the next one has R9 scan lines after its first
  row_step : (s : ℕ) → s < rows_after r f → rows_after r f < 128 → frame_moved r (in_row r f (suc s) 0) ≡ in_row r f s r.r9
  unfolding frame_moved row_ended in_row
  row_step s h l = grind (arith, nat_tests, grown)

  -- the last row done: a new frame where R5 is 0, else adjust line 0
  abbrev ended : Frame
  ended = in_row r f 0 0

  rows_done : (x : Frame) → x ≡ (if eqb r.r5 0 then new_frame r (row_done r ended) else with_adjust true 0 (row_done r ended)) → frame_moved r ended ≡ x
  unfolding frame_moved row_ended in_row
  rows_done x e =
      rw (eq-eqb ((r.r9 + 32 - 0) % 32) r.r9 (omega arith), eq-eqb ((r.r4 + 128 - 0) % 128) r.r4 (omega arith)) (sym e)

  rows_new : r.r5 ≡ 0 → frame_moved r ended ≡ new_frame r f
  unfolding new_frame in_row
  rows_new z = rows_done (new_frame r f) (rw (eq-eqb r.r5 0 z))

  rows_adjust : 0 < r.r5 → frame_moved r ended ≡ in_adjust r f 0
  unfolding in_row in_adjust
  rows_adjust h = grind (arith, nat_tests, rows_done, mul-add)

  -- in adjust the next line, or a new frame at R5
  adjust_step : (g : Frame) (a : ℕ) → ((a + 1) % 32 ≡ r.r5 → ⊥)
      → frame_moved r (with_adjust true a g) ≡ with_adjust true ((a + 1) % 32) g
  unfolding frame_moved adjust_moved
  adjust_step g a n = grind (arith, nat_tests)

  adjust_done : (g : Frame) (a : ℕ) → (a + 1) % 32 ≡ r.r5 → frame_moved r (with_adjust true a g) ≡ new_frame r g
  unfolding frame_moved adjust_moved new_frame
  adjust_done g a e = grind (arith, nat_tests)

  in_adjust_step : (a : ℕ) → ((a + 1) % 32 ≡ r.r5 → ⊥) → frame_moved r (in_adjust r f a) ≡ in_adjust r f ((a + 1) % 32)
  unfolding in_adjust
  in_adjust_step a n = adjust_step (in_adjust r f a) a n

  in_adjust_done : (a : ℕ) → (a + 1) % 32 ≡ r.r5 → frame_moved r (in_adjust r f a) ≡ new_frame r f
  unfolding in_adjust new_frame
  in_adjust_done a e = adjust_done (in_adjust r f a) a e

  -- ---- the rows, x line ends before the one that ends the last

  abbrev tall : ℕ
  tall = r.r9 + 1

  left_all : (x : ℕ) → rows_after r f ≤ x / tall → rows_left r f x ≡ rows_after r f
  left_all x h = grind (arith, nat_tests)

  left_some : (x : ℕ) → x / tall ≤ rows_after r f → rows_left r f x ≡ x / tall
  left_some x h = grind (arith, nat_tests)

  -- one scan line less: the same rows
  same_row : (s x : ℕ) → rows_left r f (suc x) ≡ s → rows_left r f x ≡ s → s * tall ≤ x → x - s * tall < 31 → frame_moved r (at_row r f (suc x)) ≡ at_row r f x
  same_row s x p q h l =
      let e : suc x - s * tall ≡ suc (x - s * tall) = omega arith in
      rw (p, q, e) (scan_step s (x - s * tall) l)

  -- one line end less before the one that ends the last row
  row_counts : (x : ℕ) → rows_after r f < 128 → x < 31 + rows_after r f * tall → frame_moved r (at_row r f (suc x)) ≡ at_row r f x
  row_counts x w h = go (dec_le (rows_after r f) (x / tall)) (one_more x tall (omega arith))
    where
      parts : x ≡ x / tall * tall + x % tall
      parts = sym (div-add-mod' x tall)

      go : Dec (rows_after r f ≤ x / tall) → Within x tall ⊎ Turned x tall → frame_moved r (at_row r f (suc x)) ≡ at_row r f x
      go (yes l) (inl t) =
          let m = mul-le-mul_right tall l in
          same_row (rows_after r f) x (left_all (suc x) (rw t.quo l)) (left_all x l) (omega (arith, parts)) (omega (arith, parts))
      go (yes l) (inr t) =
          let m = mul-le-mul_right tall l in
          same_row (rows_after r f) x (left_all (suc x) (rw t.quo (omega arith))) (left_all x l) (omega (arith, parts)) (omega (arith, parts))
      go (no n) (inl t) =
          let m = t.small in
          same_row (x / tall) x (left_some (suc x) (rw t.quo (omega arith)) ∙ t.quo) (left_some x (omega arith)) (omega (arith, parts)) (omega (arith, parts))
      go (no n) (inr t) =
          let m = t.full in
          let s = x / tall in
          let p : rows_left r f (suc x) ≡ suc s = left_some (suc x) (rw t.quo (omega arith)) ∙ t.quo in
          let q : rows_left r f x ≡ s = left_some x (omega arith) in
          let u : suc x - suc s * tall ≡ 0 = omega (arith, parts, suc-mul s tall) in
          let v : x - s * tall ≡ r.r9 = omega (arith, parts) in
          rw (p, q, u, v) (row_step s (omega arith) w)

  -- ---- the frame, k line ends before the one that starts a new frame

  module _ (fr : f.row < 128) (fs : f.scan < 32) (fa : f.adjust < 32) (ft : f.row_start < 16384) where
    after_small : rows_after r f < 128
    unfolding rows_after
    after_small = omega arith

    abbrev scans : ℕ
    scans = (r.r9 + 32 - f.scan) % 32

    -- a frame is where its own counters place it
    row_begins : f.adjusting ≡ false → in_row r f (rows_after r f) scans ≡ f
    unfolding in_row rows_after
    row_begins e = grind (arith, nat_tests)

    rows_begin : f.adjusting ≡ false → at_row r f (scans + rows_after r f * tall) ≡ f
    rows_begin e = grind (arith, nat_tests, left_all, row_begins, add-mul-div_right)

    -- in adjust from the start
    module _ (e : f.adjusting ≡ true) where
      start_true : place_of r f (ends_before r f) ≡ f
      start_true = grind (arith, nat_tests, place_true, before_true)

      counts_true : (k : ℕ) → k < ends_before r f → frame_moved r (place_of r f (suc k)) ≡ place_of r f k
      counts_true k h = grind (arith, nat_tests, place_true, before_true, adjust_step)

      passes_true : frame_moved r (place_of r f 0) ≡ new_frame r f
      passes_true = grind (arith, nat_tests, place_true, adjust_done)

    -- in a row at the start
    module _ (e : f.adjusting ≡ false) where
      start_false : place_of r f (ends_before r f) ≡ f
      start_false = grind (arith, nat_tests, before_false, place_row, rows_begin)

      -- the last row has none after it, and its last scan line none
      last_row : at_row r f 0 ≡ ended
      last_row = grind (arith, nat_tests, left_some)

      counts_false : (k : ℕ) → k < ends_before r f → frame_moved r (place_of r f (suc k)) ≡ place_of r f k
      counts_false k h = go (dec_lt (suc k) r.r5) (ℕ_discrete (suc k) r.r5)
        where
          b : k < scans + rows_after r f * tall + r.r5
          b = rw (before_false r f e) at h

          go : Dec (suc k < r.r5) → Dec (suc k ≡ r.r5) → frame_moved r (place_of r f (suc k)) ≡ place_of r f k
          go (yes l) c =
              let a : (r.r5 - 1 - suc k + 1) % 32 ≡ r.r5 - 1 - k = omega arith in
              ap (frame_moved r) (place_adjust r f (suc k) e l)
              ∙ in_adjust_step (r.r5 - 1 - suc k) (omega arith)
              ∙ ap (in_adjust r f) a
              ∙ sym (place_adjust r f k e (omega arith))
          go (no n) (yes c) =
              let x : suc k - r.r5 ≡ 0 = omega arith in
              let z : 0 ≡ r.r5 - 1 - k = omega arith in
              ap (frame_moved r) (place_row r f (suc k) e (omega arith) ∙ ap (at_row r f) x ∙ last_row)
              ∙ rows_adjust (omega arith)
              ∙ ap (in_adjust r f) z
              ∙ sym (place_adjust r f k e (omega arith))
          go (no n) (no c) =
              let x : suc k - r.r5 ≡ suc (k - r.r5) = omega arith in
              ap (frame_moved r) (place_row r f (suc k) e (omega arith) ∙ ap (at_row r f) x)
              ∙ row_counts (k - r.r5) after_small (omega (arith, b))
              ∙ sym (place_row r f k e (omega arith))

      passes_false : frame_moved r (place_of r f 0) ≡ new_frame r f
      passes_false = grind (arith, nat_tests, place_row, place_adjust, last_row, rows_new, in_adjust_done)

    -- wherever it starts
    by_adjusting : (P : Type 0) → (f.adjusting ≡ true → P) → (f.adjusting ≡ false → P) → P
    by_adjusting P t n = go f.adjusting refl
      where
        go : (b : Bool) → f.adjusting ≡ b → P
        go true e = t e
        go false e = n e

    place_start : place_of r f (ends_before r f) ≡ f
    place_start = by_adjusting _ start_true start_false

    place_counts : (k : ℕ) → k < ends_before r f → frame_moved r (place_of r f (suc k)) ≡ place_of r f k
    place_counts k h = by_adjusting _ (λ e. counts_true e k h) (λ e. counts_false e k h)

    place_passes : frame_moved r (place_of r f 0) ≡ new_frame r f
    place_passes = by_adjusting _ passes_true passes_false

-- ---- new frames

module _ (r : Registers) (f : Frame) (h : Counters r f) where
  pub on_counters : (q : ℕ) → Counters r (frame_on r f q)
  unfolding frame_on new_frame
  on_counters q = record { r4 = h.r4; r5 = h.r5; r9 = h.r9; start = h.start; row = omega arith; scan = omega arith; adjust = omega arith; row_start = h.start }

  pub first_on : new_frame r f ≡ frame_on r f 0
  unfolding frame_on new_frame
  first_on =
      let e : (f.field + 1) % 32 ≡ ((f.field + 1) % 32 + 0) % 32 = omega arith in
      ap (λ (x : ℕ). with_field x (new_frame r f)) e

  next_on : (q : ℕ) → new_frame r (frame_on r f q) ≡ frame_on r f (suc q)
  unfolding frame_on new_frame
  next_on q =
      let e : (((f.field + 1) % 32 + q) % 32 + 1) % 32 ≡ ((f.field + 1) % 32 + suc q) % 32 = omega arith in
      ap (λ (x : ℕ). with_field x (new_frame r f)) e

  -- the line ends before a new frame, from the first line of any
  abbrev low : ℕ
  low = ends_before r (frame_on r f 0)

  low_is : (q : ℕ) → ends_before r (frame_on r f q) ≡ low
  unfolding ends_before rows_after frame_on new_frame
  low_is q = refl

  turns : Turns (frame_moved r) f (ends_before r f) low (place_of r f) (λ q. place_of r (frame_on r f q))
  turns =
      record {
        start = starts f h;
        counts = counts f h;
        passes = passes f h ∙ first_on ∙ sym (starts (frame_on r f 0) (on_counters 0));
        counts_on = λ q k l. counts (frame_on r f q) (on_counters q) k (rw (low_is q) l);
        passes_again = λ q. passes (frame_on r f q) (on_counters q) ∙ next_on q ∙ again q;
      }
    where
      starts : (g : Frame) → Counters r g → place_of r g (ends_before r g) ≡ g
      starts g c = place_start r c.r4 c.r5 c.r9 g c.row c.scan c.adjust c.row_start

      counts : (g : Frame) → Counters r g → (k : ℕ) → k < ends_before r g → frame_moved r (place_of r g (suc k)) ≡ place_of r g k
      counts g c = place_counts r c.r4 c.r5 c.r9 g c.row c.scan c.adjust c.row_start

      passes : (g : Frame) → Counters r g → frame_moved r (place_of r g 0) ≡ new_frame r g
      passes g c = place_passes r c.r4 c.r5 c.r9 g c.row c.scan c.adjust c.row_start

      again : (q : ℕ) → frame_on r f (suc q) ≡ place_of r (frame_on r f (suc q)) low
      again q =
          sym (ap (place_of r (frame_on r f (suc q))) (sym (low_is (suc q))) ∙ starts (frame_on r f (suc q)) (on_counters (suc q)))

  -- n line ends of the counters, as the code comes to them: a and b are the line ends before a new frame, in this one and in the next
  pub moved_short : (n a : ℕ) → a ≡ ends_before r f → n ≤ a → place_of r f (a - n) ≡ after n (frame_moved r) f
  moved_short n a e l = rw e (sym (after_short turns n (omega arith)))

  module _ (n a b : ℕ) (p : a ≡ ends_before r f) (q : b ≡ low) where
    abbrev on : ℕ → ℕ → Frame
    on m w = frame_on r f (m / w)

    pub place_fits : b - (n - a - 1) % (b + 1) ≤ ends_before r (on (n - a - 1) (b + 1))
    place_fits = omega (arith, q, low_is ((n - a - 1) / (b + 1)))

    pub moved_past : a < n → place_of r (on (n - a - 1) (b + 1)) (b - (n - a - 1) % (b + 1)) ≡ after n (frame_moved r) f
    moved_past l =
        let m : n - a - 1 ≡ n - suc (ends_before r f) = omega arith in
        let w : b + 1 ≡ suc low = omega (arith, q) in
        (λ i. place_of r (on (m i) (w i)) (q i - m i % w i)) ∙ sym (after_past turns n (omega arith))
