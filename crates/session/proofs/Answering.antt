-- A reply is one line: no LF before its last byte.
use mathlib.Core.Path.{◌≡◌, refl, sym, ap, ap₂, ◌∙◌}
use mathlib.Core.Bool.{false}
use mathlib.Core.List.{List, [], ◌∷◌, ◌++◌, append_assoc, append-nil}
use Prim.Native.Nat.{ℕ, suc, ◌/◌, ◌%◌}
use native.Mathlib.Omega.{arith}
use lib.Dec.{eqb, ltb}
use lib.ListN.{length}
use borrow.Author.Tests.{ne_eqb}
use Rattle.clocks.proofs.Tests.{picked}
use Rattle.calls.specs.Refusals.{number_of}
use Rattle.replies.specs.Hex.{digit_of, hex_of, long_of}
use Rattle.frames.specs.Frames.{frame_of}
use Rattle.replies.specs.Replies.{told, render}
use Rattle.replies.specs.declared.Reply.{Reply}
use Rattle.replies.specs.declared.Reply.TheVariants.{Refused, RefusedAs, Done, Data, Read, Number}
use Rattle.session.specs.Steps.{power_up, step_of}
use Rattle.lines.specs.Lines.{ended, open_line, lines_of, file_of, Quiet, Quiets}
use Rattle.lines.proofs.Lines.{quiet_append}
use Rattle.lines.proofs.Demands.{one_way}
use Rattle.session.specs.Sessions.{next_of, says_of, says_all, session}
use Rattle.session.specs.Demands
use Rattle.session.specs.declared.Bench.{Bench}

-- a text without LF, and then one
record Line (x : List ℕ) : Type 0 where
  text : List ℕ
  whole : x ≡ text ++ 10 ∷ []
  quiet : Quiet text

digit_quiet : (n : ℕ) → eqb (digit_of n) 10 ≡ false
digit_quiet n = ne_eqb (digit_of n) 10 (picked (λ (d : ℕ). d ≡ 10 → ⊥) (ltb n 10) (λ e. omega (arith, e)) (λ e. omega (arith, e)))

hex_quiet : (b : ℕ) → Quiet (hex_of b)
unfolding hex_of Quiet
hex_quiet b = (digit_quiet (b / 16), (digit_quiet (b % 16), tt))

long_quiet : (n : ℕ) → Quiet (long_of n)
long_quiet n =
    quiet_append _ _ (quiet_append _ _ (quiet_append _ _ (hex_quiet (n / 16777216 % 256)) (hex_quiet (n / 65536 % 256))) (hex_quiet (n / 256 % 256)))
    (hex_quiet (n % 256))

told_quiet : (r : Reply) → Quiet (told r)
unfolding told
told_quiet (Refused r) = hex_quiet (number_of r)
told_quiet (RefusedAs n) = hex_quiet n
told_quiet (Done l) = quiet_append _ _ (hex_quiet 0) (hex_quiet l)
told_quiet (Data l b) = quiet_append _ _ (quiet_append _ _ (hex_quiet 0) (hex_quiet l)) (hex_quiet b)
told_quiet (Read l b m) = quiet_append _ _ (quiet_append _ _ (quiet_append _ _ (hex_quiet 0) (hex_quiet l)) (hex_quiet b)) (hex_quiet m)
told_quiet (Number l n) = quiet_append _ _ (quiet_append _ _ (hex_quiet 0) (hex_quiet l)) (long_quiet n)

render_line : (r : Reply) → Line (render r)
unfolding render
render_line r = record { text = told r; whole = refl; quiet = told_quiet r }

says_line : (b : Bench) (l : List ℕ) → Line (says_of b l)
unfolding says_of
says_line b l = render_line (step_of b (frame_of l)).reply

-- the answers to some lines are as many lines
record Lines (x : List ℕ) (n : ℕ) : Type 0 where
  texts : List (List ℕ)
  whole : x ≡ file_of texts
  quiet : Quiets texts
  count : length texts ≡ n

all_lines : (b : Bench) (ls : List (List ℕ)) → Lines (says_all b ls) (length ls)
unfolding Quiets
all_lines b [] = record { texts = []; whole = refl; quiet = tt; count = refl }
all_lines b (l ∷ ls) =
    let x = says_line b l in
    let r = all_lines (next_of b l) ls in
    record {
      texts = x.text ∷ r.texts;
      whole =
          ap₂ (λ (a c : List ℕ). a ++ c) x.whole r.whole ∙ append_assoc x.text (10 ∷ []) (file_of r.texts);
      quiet = (x.quiet, r.quiet);
      count = ap suc r.count;
    }

pub line_for_line : Demands.LineForLine
unfolding session Quiet
line_for_line s =
    let r = all_lines power_up (lines_of s) in
    let o = one_way r.texts [] r.quiet tt in
    let e : says_all power_up (lines_of s) ≡ file_of r.texts ++ [] = r.whole ∙ sym (append-nil (file_of r.texts)) in
    (ap (λ (x : List ℕ). length (ended [] x)) e ∙ ap length o.0 ∙ r.count, ap (open_line []) e ∙ o.1)
