-- The windows of a session, one after the other.
use Rattle.std.specs.Prelude.{Ok}
use mathlib.Core.Path.{◌≡◌, ap, sym, ◌∙◌}
use mathlib.Core.Bool.{Bool, true, false, true≢false}
use mathlib.Core.List.{List, ◌++◌}
use mathlib.Core.Logic.{◌⊎◌, inl, inr}
use Prim.Native.Nat.{ℕ, ◌+◌, ◌-◌, ◌*◌, ◌<◌, ◌≤◌, min}
use native.Mathlib.Omega.{arith}
use lib.ListN.{length, take, drop, length-take, length-drop}
use lib.Seq.{take-add, take-take, take-length}
use Rattle.lines.specs.Places.{lines_at, cut_of}
use Rattle.blocks.specs.Blocks.{itself, written_out}
use Rattle.session.specs.Steps.{power_up}
use Rattle.session.specs.Sessions.{next_all, says_all}
use Rattle.session.specs.declared.Bench.{Bench}
use Rattle.session.proofs.Taking.{next_append, says_append}
use Rattle.unrolled.specs.Windows.{judged, full_of, lines_from, Goes}
use Rattle.unrolled.specs.declared.Gone.{Gone}
use Rattle.unrolled.proofs.Windows.{full_lines, full_most}
use Rattle.repeats.specs.Ends.{Ends}

-- as many of a list as are there, and no more
as_many : {A : Type 0} (m : ℕ) (xs : List A) → take (length (take m xs)) xs ≡ take m xs
as_many m xs = sym (take-take (length (take m xs)) m xs (omega (arith, length-take m xs))) ∙ take-length (take m xs)

-- ---- some lines more of a list

module _ (all : List (List ℕ)) (b : Bench) (played room n : ℕ) (e : n ≡ length (take room (drop played all))) where
  further : take (played + n) all ≡ take played all ++ take room (drop played all)
  further =
      take-add played n all
      ∙ ap (λ (x : List (List ℕ)). take played all ++ x) (ap (λ (k : ℕ). take k (drop played all)) e ∙ as_many room (drop played all))

  pub next_played : b ≡ next_all power_up (take played all) → next_all b (take room (drop played all)) ≡ next_all power_up (take (played + n) all)
  next_played h =
      let ls = take room (drop played all) in
      ap (λ (c : Bench). next_all c ls) h ∙ sym (next_append power_up (take played all) ls) ∙ ap (next_all power_up) (sym further)

  pub next_said :
      b ≡ next_all power_up (take played all)
      → says_all power_up (take played all) ++ says_all b (take room (drop played all)) ≡ says_all power_up (take (played + n) all)
  next_said h =
      let ls = take room (drop played all) in
      ap (λ (c : Bench). says_all power_up (take played all) ++ says_all c ls) h
      ∙ sym (says_append power_up (take played all) ls)
      ∙ ap (says_all power_up) (sym further)

  counted : n ≡ min room (length all - played)
  counted = e ∙ length-take room (drop played all) ∙ ap (min room) (length-drop played all)

  pub still_within : played ≤ length all → played + n ≤ length all
  still_within h = omega (arith, counted)

  -- a window without a line comes after the last
  pub none_left : played ≤ length all → 0 < room → n ≡ 0 → played + n ≡ length all
  none_left h g k = omega (arith, counted)

-- ---- so far

pub record Playing (s notes : List ℕ) (size : ℕ) (text : List ℕ) (b : Bench) (played : ℕ) : Type 0 where
  pub accepted : judged s ≡ Ok tt
  pub places : length notes ≡ 32768
  pub out : length text ≡ size
  pub room : 425984 ≤ size
  pub bench : b ≡ next_all power_up (take played (full_of s))
  pub within : played ≤ length (full_of s)

-- a window more
module _
    {s notes : List ℕ} {size : ℕ} {text : List ℕ} {b : Bench} {played : ℕ} (c : Playing s notes size text b played) (table : List ℕ)
    (i : table ≡ cut_of s) (g : Gone) {notes' text' : List ℕ} (y : Goes b s table played notes text g notes' text')
  where
    enough : 13 * length notes ≤ length text
    enough = let r = c.room in omega (arith, c.places, c.out)

    -- what it had of the written-out session
    had : lines_from s table played (length notes) ≡ take (length notes) (drop played (full_of s))
    had =
        ap (λ (t : List ℕ). take (length notes) (drop played (written_out itself (lines_at s t)))) i
        ∙ ap (λ (ls : List (List ℕ)). take (length notes) (drop played ls)) (full_lines s c.accepted)

    lines_is : g.lines ≡ length (take (length notes) (drop played (full_of s)))
    lines_is = (y.fits enough).2 ∙ ap length had

    on : played + g.lines ≤ length (full_of s)
    on = still_within (full_of s) b played (length notes) g.lines lines_is c.within

    -- what it wrote, behind what was written before it
    pub said_on : says_all power_up (take played (full_of s)) ++ take g.played.made text' ≡ says_all power_up (take (played + g.lines) (full_of s))
    said_on =
        ap (λ (x : List ℕ). says_all power_up (take played (full_of s)) ++ x) ((y.fits enough).1.text ∙ ap (says_all b) had)
        ∙ next_said (full_of s) b played (length notes) g.lines lines_is c.bench

    bench_is : g.played.bench ≡ next_all power_up (take (played + g.lines) (full_of s))
    bench_is = (y.fits enough).0 ∙ ap (next_all b) had ∙ next_played (full_of s) b played (length notes) g.lines lines_is c.bench

    pub played_fits : played + g.lines ≤ 1000000
    played_fits = let m = full_most s c.accepted in let o = on in omega arith

    pub playing_on :
        length notes' ≡ length notes → length text' ≡ length text → Playing s notes' size text' g.played.bench (played + g.lines)
    playing_on n t =
        record {
          accepted = c.accepted;
          places = n ∙ c.places;
          out = t ∙ c.out;
          room = c.room;
          bench = bench_is;
          within = on;
        }

    pub left_less : 0 < g.lines → length (full_of s) - (played + g.lines) < length (full_of s) - played
    left_less h = let o = on in omega arith

    module _ (w : Bool) (e : (w ≡ false) ⊎ ((w ≡ true) × (g.lines ≡ 0))) where
      -- none is left where all was written
      pub all_played : w ≡ true → played + g.lines ≡ length (full_of s)
      all_played t = none_left (full_of s) b played (length notes) g.lines lines_is c.within (omega (arith, c.places)) (none e)
        where
          none : (w ≡ false) ⊎ ((w ≡ true) × (g.lines ≡ 0)) → g.lines ≡ 0
          none (inl f) = absurd (true≢false (sym t ∙ f))
          none (inr p) = p.1

      pub ends : Ends s (record { bench = g.played.bench; played = played + g.lines; written = w })
      ends = record { bench = bench_is; refused = λ k r. absurd (cc (c.accepted, r)); accepted = λ _ t. all_played t }
