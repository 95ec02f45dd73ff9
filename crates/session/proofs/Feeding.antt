-- The loop over the lines of an input: what holds at each line, how it goes on, and what it comes to.
use Rattle.std.specs.Prelude.{Option, None, Some}
use mathlib.Core.Path.{◌≡◌, refl, ap, sym, ◌∙◌}
use mathlib.Core.Bool.{Bool, true, false}
use mathlib.Core.List.{List, [], ◌∷◌, ◌++◌, append_assoc, append-nil}
use Prim.Native.Nat.{ℕ, ◌+◌, ◌-◌, ◌<◌, ◌≤◌}
use native.Mathlib.Nat.{sub-zero, zero-add, add-zero}
use native.Mathlib.Omega.{arith}
use lib.ListN.{length, take, drop, length-drop, drop_of_length-le}
use lib.Seq.{length-take-le, take_all}
use borrow.Author.Tests.{le-leb, lt-leb}
use Rattle.clocks.proofs.Options.{none_some, same_some}
use Rattle.clocks.proofs.Lists.{drop_later}
use Rattle.lines.specs.Lines.{last_line, end_from}
use Rattle.lines.proofs.Lines.{last_some}
use Rattle.lines.proofs.Demands as Lines
use Rattle.frames.specs.Frames.{frame_of}
use Rattle.replies.specs.Replies.{render, Put}
use Rattle.replies.specs.declared.Reply.{Reply}
use Rattle.replies.proofs.Demands.{replies_fit}
use Rattle.session.specs.Steps.{step_of}
use Rattle.session.specs.Sessions.{next_of, says_of, says_all}
use Rattle.session.specs.Core.{joined, core_of}
use Rattle.session.specs.declared.Core.{Core}
use Rattle.session.specs.Pieces.{Taken, before, takes, Feeds, Finishes, lines_in, Ends}
use Rattle.session.specs.declared.Bench.{Bench}
use Rattle.session.specs.declared.Fed.{Fed}
use Rattle.session.specs.declared.Stepped.{Stepped}

-- ---- where a line ends

none_in : (whole : Bool) → lines_in whole [] ≡ []
unfolding lines_in
none_in true = refl
none_in false = refl

module _ (s : List ℕ) (at : ℕ) where
  pub ends_past : (whole : Bool) → length s ≤ at → Ends whole s at None
  ends_past whole h =
      record { found = λ end e. absurd (none_some end e); missing = λ e. ap (lines_in whole) (drop_of_length-le s h) ∙ none_in whole }

  module _ (h : at < length s) where
    pub ends_whole : Ends true s at (Some (length s))
    unfolding lines_in
    ends_whole =
        let some : 0 < length (drop at s) = simp length-drop (omega arith) in
        let all : length (drop at s) ≤ length s - at = simp length-drop (omega arith) in
        let none : drop (length s + 1) s ≡ [] = drop_of_length-le s {i = length s + 1} (omega arith) in
        record {
          found = λ end e. rw (sym (same_some (length s) end e))
              (omega arith, omega arith, rw (take_all (length s - at) (drop at s) all, none) (last_some (drop at s) some));
          missing = λ e. absurd (none_some (length s) (sym e));
        }

    pub ends_missing : end_from s at ≡ length s → Ends false s at None
    unfolding lines_in
    ends_missing e = record { found = λ end e. absurd (none_some end e); missing = λ k. (Lines.end_missing s at e).0 }

    pub ends_found : (end_from s at ≡ length s → ⊥) → Ends false s at (Some (end_from s at))
    unfolding lines_in
    ends_found n =
        let w = Lines.end_within s at in
        record {
          found = λ end e. rw (sym (same_some (end_from s at) end e)) (w.1 (omega arith), w.0, Lines.end_found s at (omega arith));
          missing = λ e. absurd (none_some (end_from s at) (sym e));
        }

-- ---- line by line

-- no answer is longer than 13 bytes
pub says_short : (b : Bench) (l : List ℕ) → length (says_of b l) ≤ 13
unfolding says_of
says_short b l = replies_fit (step_of b (frame_of l)).reply

-- what is taken behind n bytes that were used and a text that was written
abbrev behind : ℕ → List ℕ → Taken → Taken
behind n x t = record { bench = t.bench; used = n + t.used; text = x ++ t.text }

pub record Going (b₀ : Bench) (ls : List (List ℕ)) (out₀ out : List ℕ) (b : Bench) (at made : ℕ) (left : List (List ℕ)) : Type 0 where
  pub room : made ≤ length out
  pub sized : length out ≡ length out₀
  pub beyond : drop made out ≡ drop made out₀
  pub taken : takes (length out₀) b₀ ls ≡ behind at (take made out) (takes (length out₀ - made) b left)

pub going_start : (b : Bench) (ls : List (List ℕ)) (out : List ℕ) → Going b ls out out b 0 0 ls
going_start b ls out = record { room = omega arith; sized = refl; beyond = refl; taken = rw (sub-zero, zero-add) }

module _ {b₀ : Bench} {ls : List (List ℕ)} {out₀ out : List ℕ} {b : Bench} {at made : ℕ} {left : List (List ℕ)}
    (g : Going b₀ ls out₀ out b at made left) where
  -- with room for its answer, a line is taken
  pub going_line :
      (l : List ℕ) (more : List (List ℕ)) (r : Stepped) (out' : List ℕ) (at' made' : ℕ) → left ≡ l ∷ more
      → at' ≡ at + (length l + 1) → made + 13 ≤ length out → r ≡ step_of b (frame_of l) → length out' ≡ length out
      → Put out out' made made' (render r.reply) → Going b₀ ls out₀ out' r.bench at' made' more
  unfolding says_of next_of
  going_line l more r out' at' made' parts place h e z p =
      let a = p.fits h in
      let o : render r.reply ≡ says_of b l = ap (λ (r : Stepped). render r.reply) e in
      let d : made' ≡ made + length (says_of b l) = a.place ∙ ap (λ (y : List ℕ). made + length y) o in
      let t : take made' out' ≡ take made out ++ says_of b l = a.text ∙ ap (λ (y : List ℕ). take made out ++ y) o in
      let next = takes (length out₀ - made') (next_of b l) more in
      let took : takes (length out₀ - made) b left ≡ before l (says_of b l) next =
      ap (takes (length out₀ - made) b) parts
      ∙ rw (le-leb 13 (length out₀ - made) (omega (arith, g.sized)))
      (ap (λ (m : ℕ). before l (says_of b l) (takes m (next_of b l) more)) (omega arith)) in
      let u : at + (length l + 1 + next.used) ≡ at' + next.used = omega arith in
      let x : take made out ++ (says_of b l ++ next.text) ≡ take made' out' ++ next.text =
      sym (append_assoc (take made out) (says_of b l) next.text) ∙ ap (λ (y : List ℕ). y ++ next.text) (sym t) in
      record {
        room = omega (arith, z, d, says_short b l);
        sized = z ∙ g.sized;
        beyond = a.rest ∙ rw a.place (drop_later out₀ out made (length (render r.reply)) g.beyond);
        taken =
            g.taken ∙ ap (behind at (take made out)) took
            ∙ (λ i. record { bench = next.bench; used = u i; text = x i })
            ∙ ap (λ (r : Stepped). behind at' (take made' out') (takes (length out₀ - made') r.bench more)) (sym e);
      }

  -- nothing more is taken: no line is left, or no room
  ends : takes (length out₀ - made) b left ≡ record { bench = b; used = 0; text = [] } → Feeds b₀ ls out₀ out (record { bench = b; used = at; made = made })
  ends e =
      let q = g.taken ∙ ap (behind at (take made out)) e in
      let t = ap (λ (t : Taken). t.text) q ∙ append-nil (take made out) in
      record {
        bench = sym (ap (λ (t : Taken). t.bench) q);
        used = sym (ap (λ (t : Taken). t.used) q ∙ add-zero at);
        out = record { size = sym (ap length t ∙ length-take-le made out g.room); text = sym t; rest = g.beyond };
      }

  pub going_end : left ≡ [] → Feeds b₀ ls out₀ out (record { bench = b; used = at; made = made })
  going_end e = ends (ap (takes (length out₀ - made) b) e)

  pub going_full : length out - made < 13 → Feeds b₀ ls out₀ out (record { bench = b; used = at; made = made })
  going_full h = ends (full left)
    where
      full : (ls : List (List ℕ)) → takes (length out₀ - made) b ls ≡ record { bench = b; used = 0; text = [] }
      full [] = refl
      full (l ∷ ls) = rw (lt-leb 13 (length out₀ - made) (omega (arith, g.sized)))

-- the lines of an input from a place on
module _ (whole : Bool) (s : List ℕ) {b₀ : Bench} {out₀ out : List ℕ} {b : Bench} {at made : ℕ}
    (g : Going b₀ (lines_in whole s) out₀ out b at made (lines_in whole (drop at s))) where
  pub going_on :
      {end : ℕ} {b' : Bench} {y : Reply} {out' : List ℕ} {made' : ℕ} {e : Option ℕ} → Ends whole s at e → e ≡ Some end
      → 13 ≤ length out - made → ◌≡◌ {A = Stepped} (record { bench = b'; reply = y }) (step_of b (frame_of (take (end - at) (drop at s))))
      → length out' ≡ length out → Put out out' made made' (render y)
      → Going b₀ (lines_in whole s) out₀ out' b' (end + 1) made' (lines_in whole (drop (end + 1) s))
  going_on {end} {b'} {y} {out'} {made'} f k h e z p =
      let x = f.found end k in
      let size : length (take (end - at) (drop at s)) ≡ end - at =
      length-take-le (end - at) (drop at s) (simp length-drop (omega (arith, x.0, x.1))) in
      going_line g (take (end - at) (drop at s)) _ (record { bench = b'; reply = y }) out' (end + 1) made' x.2 (omega (arith, x.0))
      (omega (arith, g.room)) e z p

-- a bench that was taken apart, and put together again
pub from_core : (b : Bench) (k : Core) {ls : List (List ℕ)} {x y : List ℕ} {r : Fed} → k ≡ core_of b → Feeds (joined b.riot.ram k) ls x y r → Feeds b ls x y r
from_core b k e f = rw e at f

-- ---- a last line

one_takes : (room : ℕ) (b : Bench) (s : List ℕ) → 13 ≤ room → (takes room b (last_line s)).text ≡ says_all b (last_line s)
one_takes room b [] h = refl
one_takes room b (x ∷ s) h = rw (le-leb 13 room h)

none_takes : (room : ℕ) (b : Bench) (s : List ℕ) → room < 13 → (takes room b (last_line s)).text ≡ []
none_takes room b [] h = refl
none_takes room b (x ∷ s) h = rw (lt-leb 13 room h)

pub finishes : (b : Bench) (s out out' : List ℕ) (r : Fed) → Feeds b (last_line s) out out' r → Finishes b s out out' r.made
finishes b s out out' r f =
    record {
      answered = λ h. rw (← one_takes (length out) b s h) f.out;
      full = λ h.
          let e : r.made ≡ 0 = f.out.size ∙ ap length (none_takes (length out) b s h) in
          (ap (λ (n : ℕ). drop n out') (sym e) ∙ f.out.rest ∙ ap (λ (n : ℕ). drop n out) e, e);
    }
