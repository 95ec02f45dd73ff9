-- Clocks that end no line, and the one that does.
use Rattle.std.proofs.Common.{◌≡◌, ℕ, zero, suc, ◌+◌, ◌-◌, ◌<◌, ◌≤◌, true, eqb, sym, ap, ◌∙◌, arith}
use Rattle.std.proofs.lemmas.Bool.Decides.{nat_tests}
use Rattle.clocks.specs.Clocks.{after}
use Rattle.clocks.proofs.Clocks.{after_add}
use Rattle.clocks.proofs.Tests.{on_true}
use Rattle.raster.specs.Clock.{line_clocked, line_ended, raster_clocked}
use Rattle.raster.specs.Closed.{gap, along_of}
use Rattle.raster.specs.declared.Registers.{Registers}
use Rattle.raster.specs.declared.Line.{Line}
use Rattle.raster.specs.declared.Frame.{Frame}
use Rattle.raster.specs.declared.Raster.{Raster}

abbrev pub raster : Registers → Line → Frame → Raster
raster r l f = record { registers = r; line = l; frame = f }

module _ (r : Registers) (b0 : r.r0 < 256) (b2 : r.r2 < 256) (l : Line) (b : l.column < 256) where
  along_none : along_of 0 r l ≡ l
  unfolding along_of
  along_none = grind (arith, nat_tests)

  -- one more clock that ends no line
  along_more : (k : ℕ) → k < gap l.column r.r0 → line_clocked r (along_of k r l) ≡ along_of (suc k) r l
  unfolding line_clocked along_of
  along_more k h = grind (arith, nat_tests)

  -- k clocks before the one that ends the line
  pub along_after : (f : Frame) (k : ℕ) → k ≤ gap l.column r.r0 → after k raster_clocked (raster r l f) ≡ raster r (along_of k r l) f
  unfolding after
  along_after f zero h = ap (λ (x : Line). raster r x f) (sym along_none)
  along_after f (suc k) h =
      ap raster_clocked (along_after f k (omega arith)) ∙ step
    where
      step : raster_clocked (raster r (along_of k r l) f) ≡ raster r (along_of (suc k) r l) f
      step = unfold raster_clocked along_of in grind (arith, nat_tests, along_more k (omega arith))

  abbrev pub last : Line
  last = along_of (gap l.column r.r0) r l

  pub at_end : eqb last.column r.r0 ≡ true
  unfolding along_of
  at_end = grind (arith, nat_tests)

  pub end_column : (line_clocked r last).column ≡ 0
  unfolding line_clocked
  end_column = on_true (eqb last.column r.r0) 0 _ at_end

  -- n clocks that pass the end of the line
  pub past_after :
      (f : Frame) (n : ℕ) → gap l.column r.r0 < n
      → after n raster_clocked (raster r l f)
      ≡ after (n - gap l.column r.r0 - 1) raster_clocked (raster r (line_clocked r last) (line_ended r f))
  unfolding after
  past_after f n h =
      let g = gap l.column r.r0 in
      let e : n ≡ suc g + (n - g - 1) = omega arith in
      ap (λ (k : ℕ). after k raster_clocked (raster r l f)) e
      ∙ after_add (suc g) (n - g - 1) raster_clocked (raster r l f)
      ∙ ap (after (n - g - 1) raster_clocked) (ap raster_clocked (along_after f g (omega arith)) ∙ ended)
    where
      ended : raster_clocked (raster r last f) ≡ raster r (line_clocked r last) (line_ended r f)
      ended = unfold raster_clocked in ap (raster r (line_clocked r last)) (on_true (eqb last.column r.r0) (line_ended r f) f at_end)

  -- the same as the code comes to it: x the line at its last column, y and g what its end leaves
  pub passed :
      (f : Frame) (a n : ℕ) → a ≡ gap l.column r.r0 → a < n → (x y : Line) (g : Frame)
      → x ≡ along_of a r l → y ≡ line_clocked r x → g ≡ line_ended r f
      → (after (n - a - 1) raster_clocked (raster r y g) ≡ after n raster_clocked (raster r l f)) × (y.column ≡ 0)
  passed f a n e h x y g p q t =
      let i : y ≡ line_clocked r last = q ∙ ap (line_clocked r) (p ∙ ap (λ (k : ℕ). along_of k r l) e) in
      (rw (i, t, e) (sym (past_after f n (omega arith))), ap (λ (j : Line). j.column) i ∙ end_column)
