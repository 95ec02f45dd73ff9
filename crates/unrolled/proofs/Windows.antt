-- The beginning of a session with repeats, and its windows.
use mathlib.Core.Path.{◌≡◌, refl, ap, sym, ◌∙◌}
use mathlib.Core.List.{List}
use mathlib.Core.Logic.{◌⊎◌, inl, inr}
use Prim.Native.Nat.{ℕ, ◌*◌, ◌/◌, ◌<◌, ◌≤◌}
use native.Mathlib.Decide.{dec_le}
use native.Mathlib.Nat.{zero-add}
use native.Mathlib.Omega.{arith}
use lib.ListN.{length, take, drop, length-take}
use lib.Seq.{take_all}
use Rattle.lines.specs.Lines.{lines_of}
use Rattle.lines.specs.Places.{line_at, lines_at, cut_of}
use Rattle.lines.specs.Written.{Written}
use Rattle.lines.proofs.Places.{cut_lines, cut_count, lines_length, lines_take, lines_drop}
use Rattle.replies.specs.Replies.{refusal_line, Put}
use Rattle.marks.specs.Refusals.{number_of}
use Rattle.marks.specs.declared.Refusal.{Refusal}
use Rattle.std.specs.Prelude.{Result, Ok, Err}
use Rattle.blocks.specs.Blocks.{itself, written_out}
use Rattle.blocks.specs.Judged.{refusal_of}
use Rattle.marks.specs.Matches.{match_of}
use Rattle.blocks.proofs.Judged.{too_long, accepted_all}
use Rattle.blocks.proofs.Texts.{refusal_at, written_at}
use Rattle.session.specs.Pieces.{Plays}
use Rattle.session.specs.declared.Bench.{Bench}
use Rattle.session.specs.declared.Played.{Played}
use Rattle.unrolled.specs.Windows.{judged, full_of, Begins, lines_from, Goes}
use Rattle.unrolled.specs.declared.Begun.TheVariants.{NoRoom, Told, Lines}

-- ---- the beginning

-- with a table for 32,768 lines the session is judged by all of its lines
pub judged_is :
    (s : List ℕ) {table table' : List ℕ} {n : ℕ} → 32768 ≤ length table → Written table table' n (take (length table) (cut_of s))
    → refusal_of (line_at s) (length s) (take n table') ≡ judged s
unfolding judged
judged_is s {table} {table'} {n} h w = go (dec_le (length s) 32768)
  where
    go : Dec (length s ≤ 32768) → refusal_of (line_at s) (length s) (take n table') ≡ refusal_of itself (length s) (lines_of s)
    go (yes k) =
        let c = cut_count s in
        ap (refusal_of (line_at s) (length s)) (w.text ∙ take_all (length table) (cut_of s) (omega arith))
        ∙ refusal_at s (length s) (cut_of s)
        ∙ ap (refusal_of itself (length s)) (cut_lines s (omega arith))
    go (no k) = let l : 32768 < length s = omega arith in sym (too_long (line_at s) (length s) (take n table') l) ∙ too_long itself (length s) (lines_of s) l

module _ (s table out : List ℕ) where
  fitted : 32768 ≤ length table → 13 ≤ length out → (length table < 32768) ⊎ (length out < 13) → ⊥
  fitted a b (inl f) = omega arith
  fitted a b (inr f) = omega arith

  module _
      (h : 32768 ≤ length table) (g : 13 ≤ length out) {n : ℕ} {r : Result (Unit {0}) Refusal} {table' : List ℕ}
      (w : Written table table' n (take (length table) (cut_of s))) (c : r ≡ refusal_of (line_at s) (length s) (take n table'))
    where
      places : Written table table' (length (take (length table) (cut_of s))) (take (length table) (cut_of s))
      places = rw (← w.size) w

      pub begins_refused :
          (k : Refusal) → r ≡ Err k → (number : ℕ) → number ≡ number_of k → (out' : List ℕ) (m : ℕ) → Put out out' 0 m (refusal_line number)
          → Begins s table out (Told n m) table' out'
      begins_refused k e number i out' m p =
          let a = p.fits (omega arith) in
          let x : Written out out' m (refusal_line (number_of k)) =
          rw (← i) (record { size = a.place ∙ zero-add _; text = a.text; rest = a.rest }) in
          record { fits = λ _ _. (places, (w.size, k, sym (judged_is s h w) ∙ sym c ∙ e, x)); misfits = λ f. absurd (fitted h g f) }

      pub begins_accepted : r ≡ Ok tt → Begins s table out (Lines n) table' out
      begins_accepted e =
          record { fits = λ _ _. (places, (sym (judged_is s h w) ∙ sym c ∙ e, w.size, refl)); misfits = λ f. absurd (fitted h g f) }

-- ---- a window

-- the lines at the places of a window
lines_from_lem :
    (s table : List ℕ) (from room : ℕ) → lines_at s (take room (drop from (written_out (line_at s) table))) ≡ lines_from s table from room
lines_from_lem s table from room =
    lines_take s room (drop from (written_out (line_at s) table)) ∙ ap (take room) (lines_drop s from (written_out (line_at s) table) ∙ ap (drop from) (written_at s table))

-- 13 bytes for each
room : (n places out : ℕ) → n ≤ places → places ≤ out / 13 → 13 * n ≤ out
room n places out h g = omega arith

fitting : (n places : ℕ) (ls : List (List ℕ)) → n ≡ length (take places ls) → n ≤ places
fitting n places ls e = omega (arith, length-take places ls)

module _ (b : Bench) (s table : List ℕ) (from : ℕ) (places out : List ℕ) where
  pub goes :
      {n : ℕ} {places' out' : List ℕ} (p : Played) → length places ≤ length out / 13
      → Written places places' n (take (length places) (drop from (written_out (line_at s) table)))
      → Plays b (lines_at s (take n places')) out out' p
      → Goes b s table from places out (record { lines = n; played = p }) places' out'
  goes {n} {places'} {out'} p h w y =
      let ls = lines_from s table from (length places) in
      let e : lines_at s (take n places') ≡ ls = ap (lines_at s) w.text ∙ lines_from_lem s table from (length places) in
      let q : Plays b ls out out' p = rw (← e) y in
      let k : n ≡ length ls = w.size ∙ sym (lines_length s (take (length places) (drop from (written_out (line_at s) table)))) ∙ ap length (lines_from_lem s table from (length places)) in
      let m : length ls ≤ length places = fitting _ (length places) _ refl in
      let f = q.fits (room (length ls) (length places) (length out) m h) in
      record { fits = λ _. (f.0, f.1, k, w); short = λ g. absurd (below g (room (length places) (length places) (length out) (≤-refl (length places)) h)) }
    where
      below : length out < 13 * length places → 13 * length places ≤ length out → ⊥
      below a b = omega arith

      ≤-refl : (n : ℕ) → n ≤ n
      ≤-refl n = omega arith

-- ---- an accepted session

-- it is short enough for its lines to be cut, and at their places stand the lines that it is judged by
module _ (s : List ℕ) (e : judged s ≡ Ok tt) where
  within_limits : (length s ≤ 32768) × (match_of itself (lines_of s) ≡ Ok tt) × (length (written_out itself (lines_of s)) ≤ 1000000)
  unfolding judged
  within_limits = accepted_all itself (length s) (lines_of s) e

  pub full_lines : written_out itself (lines_at s (cut_of s)) ≡ full_of s
  unfolding full_of
  full_lines = let l = within_limits.0 in ap (written_out itself) (cut_lines s (omega arith))

  pub full_most : length (full_of s) ≤ 1000000
  unfolding full_of
  full_most = within_limits.2

-- what a beginning with room for all says of the session
module _ {s table out table' out' : List ℕ} (t : 32768 ≤ length table) (o : 13 ≤ length out) where
  pub never_no_room : Begins s table out NoRoom table' out' → ⊥
  never_no_room b = (b.fits t o).1

  pub its_number :
      {lines made : ℕ} → Begins s table out (Told lines made) table' out'
      → (r : Refusal) × (judged s ≡ Err r) × Written out out' made (refusal_line (number_of r))
  its_number b = let (n, r, e, w) = (b.fits t o).1 in (r, e, w)

  pub is_accepted : {lines : ℕ} → Begins s table out (Lines lines) table' out' → judged s ≡ Ok tt
  is_accepted b = (b.fits t o).1.0

  pub its_table : {lines : ℕ} → Begins s table out (Lines lines) table' out' → Written table table' lines (take (length table) (cut_of s))
  its_table b = rw (b.fits t o).1.1 (b.fits t o).0

  pub its_lines : {lines : ℕ} → Begins s table out (Lines lines) table' out' → take lines table' ≡ cut_of s
  its_lines b =
      let l = (within_limits s (is_accepted b)).0 in
      let c = cut_count s in
      (its_table b).text ∙ take_all (length table) (cut_of s) (omega arith)
