-- The statements of specs/Demands.antt, proved.
use mathlib.Core.Path.{◌≡◌, sym, ap, ◌∙◌}
use mathlib.Core.Logic.{inl, inr}
use mathlib.Core.List.{List, [], ◌++◌, append-nil, append_assoc}
use Prim.Native.Nat.{ℕ, ◌≤◌}
use native.Mathlib.Nat.{sub-zero}
use native.Mathlib.Decide.{dec_le}
use native.Mathlib.Omega.{arith}
use lib.ListN.{length, drop, length-append}
use lib.Seq.{drop-append_seam}
use Rattle.clocks.proofs.Lists.{same_halves}
use Rattle.lines.specs.Lines.{ended, open_line, file_of, Quiet, end_from}
use Rattle.lines.specs.Demands
use Rattle.lines.proofs.Lines.{ended_append, open_append, quiet_ended, quiet_open, ended_behind, open_behind, open_quiet, ended_quiet, file_ended, file_open, file_append, quiets_append}
use Rattle.lines.proofs.Lines as Lines
use Rattle.lines.proofs.Written as Written
use Rattle.lines.proofs.Places as Places
use Rattle.lines.proofs.Ends.{from_within, from_found, from_missing}

pub whole : Demands.Whole
whole s = Lines.whole [] s

pub lines_quiet : Demands.LinesQuiet
unfolding Quiet
lines_quiet s = (ended_quiet [] s tt, open_quiet [] s tt)

pub one_way : Demands.OneWay
one_way ls o q r =
    (file_ended ls o q ∙ rw (quiet_ended [] o r) (append-nil ls), file_open ls o q ∙ quiet_open [] o r)

pub cut_anywhere : Demands.CutAnywhere
unfolding Quiet
cut_anywhere a b =
    let q = open_quiet [] a tt in (
      ended_append [] a b ∙ rw (ended_behind (open_line [] a) b q),
      open_append [] a b ∙ rw (open_behind (open_line [] a) b q),
    )

pub lines_left : Demands.LinesLeft
lines_left s done left e =
    let q = lines_quiet s in
    let o = open_line [] s in
    let parts : s ≡ file_of done ++ (file_of left ++ o) =
    sym (whole s) ∙ ap (λ (ls : List (List ℕ)). file_of ls ++ o) e ∙ rw (file_append, append_assoc) in
    let d : drop (length (file_of done)) s ≡ file_of left ++ o =
    ap (drop (length (file_of done))) parts ∙ drop-append_seam (file_of done) (file_of left ++ o) in
    let r = one_way left o (quiets_append done left (rw e at q.0)).1 q.1 in
    (d, ap (ended []) d ∙ r.0, ap (open_line []) d ∙ r.1, omega (arith, simp length-append at (ap length parts)))

pub end_within : Demands.EndWithin
end_within = from_within

pub end_found : Demands.EndFound
end_found = from_found

pub end_missing : Demands.EndMissing
end_missing s from e = let q = from_missing s from e in (quiet_ended [] (drop from s) q, quiet_open [] (drop from s) q)

pub first_line : Demands.FirstLine
first_line s h = rw (sub-zero (end_from s 0)) at (from_found s 0 h)

pub cut_lines : Demands.CutLines
cut_lines = Places.cut_lines

pub cut_count : Demands.CutCount
cut_count = Places.cut_count

pub written_one : Demands.WrittenOne
written_one out x y t m k f g = Written.written_one f g

pub keeps_one : Demands.KeepsOne
keeps_one buf x y used n most k j f g = go (dec_le used n) (dec_le n (length buf))
  where
    none : (x ≡ buf) × (k ≡ 0) → (y ≡ buf) × (j ≡ 0) → (x ≡ y) × (k ≡ j)
    none p q = (p.0 ∙ sym q.0, p.1 ∙ sym q.1)

    go : Dec (used ≤ n) → Dec (n ≤ length buf) → (x ≡ y) × (k ≡ j)
    go (yes h) (yes l) =
        let p = f.moved h l in
        let q = g.moved h l in
        let e : k ≡ j = p.0 ∙ sym q.0 in
        (same_halves k j x y e (p.1 ∙ sym q.1) (p.2 ∙ ap (λ (n : ℕ). drop n buf) e ∙ sym q.2), e)
    go (no h) d = none (f.refused (inl (omega arith))) (g.refused (inl (omega arith)))
    go (yes h) (no l) = none (f.refused (inr (omega arith))) (g.refused (inr (omega arith)))
