-- What the program does to an input whose bytes are known, and to an output that is known to hold some.
use mathlib.Core.Path.{◌≡◌, ap, sym, ◌∙◌, subst}
use mathlib.Core.Bool.{Bool, true, false}
use mathlib.Core.List.{List, [], ◌++◌, append-nil}
use mathlib.Core.Logic.{◌⊎◌}
use Prim.Native.Nat.{ℕ, ◌+◌, ◌<◌, ◌≤◌}
use native.Mathlib.Decide.{dec_lt}
use native.Mathlib.Omega.{arith}
use lib.ListN.{length, take}
use lib.Seq.{take-add, take_all, length-take-le}
use Rattle.std.proofs.Common.{length-append}
use borrow.Rule.Slice.PartMut.{put_mid}
use Rattle.std.proofs.KnownBytes.{Consumes-trans, Appends-trans}
use Rattle.std.specs.Prelude.{Option, None, Some, IfSome, Ok}
use Rattle.pipes.proofs.Behind.{front, behind}
use Rattle.std.specs.Io.KnownBytes.{Appends, Consumes, IsAtEnd}
use Rattle.lines.specs.Lines.{lines_of}
use Rattle.lines.specs.Places.{cut_of}
use Rattle.replies.specs.Replies.{refusal_line}
use Rattle.marks.specs.Refusals.{number_of}
use Rattle.marks.specs.declared.Refusal.TheVariants.{FileTooLong}
use Rattle.blocks.specs.Blocks.{itself}
use Rattle.blocks.proofs.Judged.{too_long}
use Rattle.session.specs.Steps.{power_up}
use Rattle.session.specs.Sessions.{says_all}
use Rattle.session.specs.declared.Bench.{Bench}
use Rattle.unrolled.specs.Windows.{judged, full_of, answer_of, Goes}
use Rattle.unrolled.specs.declared.Gone.{Gone}
use Rattle.unrolled.proofs.Demands.{number_alone}
use Rattle.repeats.proofs.Ends.{Playing, said_on, all_played}

-- ---- the input

-- so many bytes more, behind those that stand there
pub came_on :
    (a b c : Option (List ℕ)) (xs ys : List ℕ) (n m k : ℕ) → n ≤ length xs → k ≤ length ys → Consumes a b (take n xs)
    → Consumes b c (take k ys) → Consumes a c (take (n + k) (put_mid n m xs ys))
came_on a b c xs ys n m k h g p q =
    rw (take-add n k (put_mid n m xs ys), front n m xs ys h, behind n m k xs ys h g) (Consumes-trans a b c (take n xs) (take k ys) p q)

-- a file that is too long
refused_long : (s : List ℕ) → 32768 < length s → answer_of s ≡ refusal_line (number_of FileTooLong)
unfolding judged
refused_long s h = number_alone s FileTooLong (sym (too_long itself (length s) (lines_of s) h))

-- what was read of the input gets the answer that all of it gets: it is all of it, or both are too long
pub all_of_it :
    (a b : Option (List ℕ)) (buf : List ℕ) (n : ℕ) → length buf ≡ 32769 → n ≤ length buf → Consumes a b (take n buf)
    → (n < length buf → IsAtEnd b) → (P : List ℕ → Type 0) → P (answer_of (take n buf)) → IfSome a (λ s. P (answer_of s))
all_of_it None b buf n l h c e P p = tt
all_of_it (Some s) None buf n l h c e P p = absurd c
all_of_it (Some s) (Some ys) buf n l h c e P p = go (dec_lt n (length buf))
  where
    size : length s ≡ n + length ys
    size = ap length c ∙ length-append (take n buf) ys ∙ ap (λ (k : ℕ). k + length ys) (length-take-le n buf h)

    go : Dec (n < length buf) → P (answer_of s)
    go (yes f) =
        let z : ys ≡ [] = e f in
        subst (λ (x : List ℕ). P (answer_of x)) (sym (c ∙ ap (λ (u : List ℕ). take n buf ++ u) z ∙ append-nil (take n buf))) p
    go (no f) =
        let k : length (take n buf) ≡ n = length-take-le n buf h in
        subst P (refused_long (take n buf) (omega arith) ∙ sym (refused_long s (omega (arith, size)))) p

-- ---- the output

-- the answers of a window more
pub saying_on :
    {s notes : List ℕ} {size : ℕ} {text : List ℕ} {b : Bench} {played : ℕ} (output output' output'' : Option (List ℕ))
    (c : Playing s notes size text b played) (i : List ℕ) (e : i ≡ cut_of s) (g : Gone) {notes' text' : List ℕ}
    (y : Goes b s i played notes text g notes' text') → Appends output output' (says_all power_up (take played (full_of s)))
    → Appends output' output'' (take g.played.made text') → Appends output output'' (says_all power_up (take (played + g.lines) (full_of s)))
saying_on output output' output'' c i e g y f a =
    subst (Appends output output'') (said_on c i e g y) (Appends-trans output output' output'' _ _ f a)

accepted : (s : List ℕ) → judged s ≡ Ok tt → answer_of s ≡ says_all power_up (full_of s)
unfolding answer_of
accepted s e = rw e

-- and of the last
pub answers :
    {s notes : List ℕ} {size : ℕ} {text : List ℕ} {b : Bench} {played : ℕ} (output output' output'' : Option (List ℕ))
    (c : Playing s notes size text b played) (i : List ℕ) (e : i ≡ cut_of s) (g : Gone) {notes' text' : List ℕ}
    (y : Goes b s i played notes text g notes' text') → Appends output output' (says_all power_up (take played (full_of s)))
    → (w : Bool) → (w ≡ true → Appends output' output'' (take g.played.made text'))
    → (w ≡ false) ⊎ ((w ≡ true) × (g.lines ≡ 0)) → w ≡ true → Appends output output'' (answer_of s)
answers {s} {played = played} output output' output'' c i e g y f w a h t =
    let n = all_played c i e g y w h t in
    subst (Appends output output'')
    (ap (says_all power_up) (take_all (played + g.lines) (full_of s) (omega (arith, n))) ∙ sym (accepted s c.accepted))
    (saying_on output output' output'' c i e g y f (a t))
