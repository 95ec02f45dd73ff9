-- The proofs of the statements of specs/Demands.antt.
use mathlib.Core.Path.{◌≡◌, refl, ap, ap₂, sym, ◌∙◌}
use mathlib.Core.List.{List, [], ◌∷◌, ◌++◌}
use mathlib.Core.Logic.{◌⊎◌, inl, inr}
use Prim.Native.Nat.{ℕ, zero, suc, ◌+◌, ◌-◌, ◌*◌, ◌<◌, ◌≤◌, min}
use native.Mathlib.Decide.{dec_le}
use native.Mathlib.Omega.{arith}
use lib.ListN.{length, take, drop, length-take, length-drop, take-append-drop}
use lib.Seq.{drop-drop}
use Rattle.lines.specs.Lines.{lines_of}
use Rattle.lines.specs.Places.{cut_of}
use Rattle.lines.proofs.Places.{cut_lines, cut_count, lines_length}
use Rattle.lines.proofs.Written.{written_one}
use Rattle.replies.specs.Hex.{hex_of}
use Rattle.replies.specs.Replies.{refusal_line}
use Rattle.std.specs.Prelude.{Ok}
use Rattle.blocks.specs.Blocks.{itself}
use Rattle.blocks.proofs.Demands.{plain_stays}
use Rattle.blocks.proofs.Judged.{accepted_by}
use Rattle.session.specs.Steps.{power_up}
use Rattle.session.specs.Sessions.{next_all, says_all, session}
use Rattle.session.specs.declared.Bench.{Bench}
use Rattle.session.proofs.Taking.{says_append}
use Rattle.unrolled.specs.Demands as Demands
use Rattle.unrolled.specs.Demands.{by_windows, sum}
use Rattle.unrolled.specs.Windows.{judged, full_of, answer_of, Starts, Begins, lines_from}
use Rattle.unrolled.specs.declared.Begun.{Begun}
use Rattle.unrolled.specs.declared.Begun.TheVariants.{NoRoom, Told, Lines}
use Rattle.unrolled.proofs.Windows.{full_lines, is_accepted, its_lines, its_number, never_no_room}
use Rattle.unrolled.proofs.Quiet.{full_quiet, lines_of_file}

-- ---- the whole answer

accepted : (s : List ℕ) → judged s ≡ Ok tt → answer_of s ≡ says_all power_up (full_of s)
unfolding answer_of
accepted s e = rw e

pub answers_as_written_out : Demands.AnswersAsWrittenOut
unfolding session full_of
answers_as_written_out s e = accepted s e ∙ ap (says_all power_up) (sym (lines_of_file (full_of s) (full_quiet s)))

pub number_alone : Demands.NumberAlone
unfolding answer_of
number_alone s r e = rw e

-- a file has no more lines than bytes
few_lines : (s : List ℕ) → length s ≤ 32768 → length (lines_of s) ≤ 1000000
few_lines s h =
    let c = cut_count s in
    let e : length (lines_of s) ≡ length (cut_of s) = ap length (sym (cut_lines s (omega arith))) ∙ lines_length s (cut_of s) in
    omega arith

pub answers_as_bench : Demands.AnswersAsBench
unfolding judged full_of session
answers_as_bench s p h =
    let q = plain_stays (lines_of s) p in
    let n : judged s ≡ Ok tt = accepted_by itself (length s) (lines_of s) h q.1 (rw q.0 (few_lines s h)) in
    (n, accepted s n ∙ ap (says_all power_up) q.0)

-- ---- by windows

nothing : (ls : List (List ℕ)) → length ls ≤ 0 → ls ≡ []
nothing [] h = refl
nothing (l ∷ ls) h = absurd (omega arith)

-- what is behind as many as are there
beyond : (n : ℕ) (ls : List (List ℕ)) → drop (length (take n ls)) ls ≡ drop n ls
beyond zero ls = refl
beyond (suc n) [] = refl
beyond (suc n) (l ∷ ls) = beyond n ls

module _ (s : List ℕ) (e : judged s ≡ Ok tt) where
  -- from a line on
  rest : (b : Bench) (from : ℕ) (sizes : List ℕ) → length (full_of s) ≤ from + sum sizes → by_windows s b from sizes ≡ says_all b (drop from (full_of s))
  rest b from [] h = sym (ap (says_all b) (nothing (drop from (full_of s)) (omega (arith, length-drop from (full_of s)))))
  rest b from (n ∷ ns) h =
      let ls = drop from (full_of s) in
      let w : lines_from s (cut_of s) from n ≡ take n ls = ap (λ (x : List (List ℕ)). take n (drop from x)) (full_lines s e) in
      let k = length (take n ls) in
      let m : k ≡ min n (length (full_of s) - from) = length-take n ls ∙ ap (min n) (length-drop from (full_of s)) in
      let d : drop (from + k) (full_of s) ≡ drop n ls = sym (drop-drop k from (full_of s)) ∙ beyond n ls in
      rw w
      (ap (λ (x : List ℕ). says_all b (take n ls) ++ x) (rest (next_all b (take n ls)) (from + k) ns (omega (arith, m)) ∙ ap (says_all (next_all b (take n ls))) d)
      ∙ sym (says_append b (take n ls) (drop n ls))
      ∙ ap (says_all b) (take-append-drop n ls))

pub windows_answer : Demands.WindowsAnswer
windows_answer s sizes e h = rest s e power_up 0 sizes (omega arith) ∙ sym (accepted s e)

pub begin_answers : Demands.BeginAnswers
begin_answers s table out table' out' r t o b = (told, lines, none)
  where
    told : (lines made : ℕ) → r ≡ Told lines made → take made out' ≡ answer_of s
    told n made e =
        let d : Begins s table out (Told n made) table' out' = rw (← e) b in
        let n = its_number t o d in n.2.text ∙ sym (number_alone s n.0 n.1)

    lines : (lines : ℕ) → r ≡ Lines lines → (judged s ≡ Ok tt) × (take lines table' ≡ cut_of s)
    lines n e = let d : Begins s table out (Lines n) table' out' = rw (← e) b in (is_accepted t o d, its_lines t o d)

    none : r ≡ NoRoom → ⊥
    none e = let d : Begins s table out NoRoom table' out' = rw (← e) b in never_no_room t o d

pub numbers_said : Demands.NumbersSaid
unfolding refusal_line hex_of
numbers_said = (refl, refl, refl, refl)

-- ---- one result

pub begins_one : Demands.BeginsOne
begins_one s table out x y u v r q f g = go (dec_le 32768 (length table)) (dec_le 13 (length out))
  where
    amiss : (length table < 32768) ⊎ (length out < 13) → (r ≡ q) × (x ≡ y) × (u ≡ v)
    amiss m =
        let a = f.misfits m in
        let c = g.misfits m in
        (a.0 ∙ sym c.0, a.1 ∙ sym c.1, a.2 ∙ sym c.2)

    starts : (r q : Begun) (places : List ℕ) → Starts s places out r u → Starts s places out q v → (r ≡ q) × (u ≡ v)
    starts NoRoom q places a c = absurd a
    starts (Told n m) NoRoom places a c = absurd c
    starts (Told n m) (Told l k) places a c =
        let e : c.1 ≡ a.1 = cc (a.2, c.2) in
        let w = written_one a.3 (rw e at c.3) in
        (ap₂ Told (a.0 ∙ sym c.0) w.1, w.0)
    starts (Told l m) (Lines n) places a c = let n : ⊥ = cc (a.2, c.0) in absurd n
    starts (Lines m) NoRoom places a c = absurd c
    starts (Lines m) (Told l n) places a c = let n : ⊥ = cc (a.0, c.2) in absurd n
    starts (Lines m) (Lines n) places a c = (ap Lines (a.1 ∙ sym c.1), a.2 ∙ sym c.2)

    go : Dec (32768 ≤ length table) → Dec (13 ≤ length out) → (r ≡ q) × (x ≡ y) × (u ≡ v)
    go (yes h) (yes k) =
        let a = f.fits h k in
        let c = g.fits h k in
        let j = starts r q (take (length table) (cut_of s)) a.1 c.1 in
        (j.0, (written_one a.0 c.0).0, j.1)
    go (yes h) (no k) = amiss (inr (omega arith))
    go (no h) k = amiss (inl (omega arith))

pub goes_one : Demands.GoesOne
goes_one b s table from places out x y u v r q f g = go (dec_le (13 * length places) (length out))
  where
    below : (13 * length places ≤ length out → ⊥) → length out < 13 * length places
    below n = omega arith

    go : Dec (13 * length places ≤ length out) → (r ≡ q) × (x ≡ y) × (u ≡ v)
    go (yes h) =
        let a = f.fits h in
        let c = g.fits h in
        let w = written_one a.1 c.1 in
        let t = written_one a.3 c.3 in
        (λ i. record { lines = t.1 i; played = record { bench = (a.0 ∙ sym c.0) i; made = w.1 i } }, t.0, w.0)
    go (no h) =
        let a = f.short (below h) in
        let c = g.short (below h) in
        (a.0 ∙ sym c.0, a.1 ∙ sym c.1, a.2 ∙ sym c.2)
