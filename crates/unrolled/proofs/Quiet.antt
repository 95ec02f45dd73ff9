-- The lines of a written-out session are lines of its file, and so none has an LF in it.
use Rattle.std.specs.Prelude.{Option, None, Some, if◌then◌else◌}
use Rattle.std.specs.Option.{option_map_or}
use mathlib.Core.Path.{◌≡◌, ap, sym, ◌∙◌}
use mathlib.Core.Bool.{Bool, true, false}
use mathlib.Core.List.{List, [], ◌∷◌, ◌++◌, append-nil}
use Prim.Native.Nat.{ℕ, zero, suc, ◌+◌, ◌-◌}
use Rattle.lines.specs.Lines.{ended, open_line, last_line, lines_of, file_of, Quiet, Quiets}
use Rattle.lines.proofs.Demands.{lines_quiet, one_way}
use Rattle.marks.specs.Marks.{closes, turns_of}
use Rattle.blocks.specs.Blocks.{itself, times, first, others, line_before, repeated, blocks_of, written_out}

join : (xs ys : List (List ℕ)) → Quiets xs → Quiets ys → Quiets (xs ++ ys)
unfolding Quiets
join [] ys p q = q
join (x ∷ xs) ys p q = (p.0, join xs ys p.1 q)

often : (n : ℕ) (xs : List (List ℕ)) → Quiets xs → Quiets (times n xs)
unfolding times Quiets
often zero xs p = tt
often (suc n) xs p = join (times n xs) xs (often n xs p) p

-- so of every block
All : List (List (List ℕ)) → Type 0
All [] = Unit {0}
All (b ∷ bs) = Quiets b × All bs

of_first : (bs : List (List (List ℕ))) → All bs → Quiets (first bs)
unfolding All Quiets
of_first [] p = tt
of_first (b ∷ bs) p = p.0

of_others : (bs : List (List (List ℕ))) → All bs → All (others bs)
unfolding All
of_others [] p = tt
of_others (b ∷ bs) p = p.1

blocks_quiet : (k : ℕ) (ls : List (List ℕ)) → Quiets ls → All (blocks_of itself k ls)
unfolding blocks_of Quiets All
blocks_quiet k [] p = tt
blocks_quiet k (l ∷ ls) p =
    go (closes l) (turns_of k l) (blocks_quiet (k + 1) ls p.1) (blocks_quiet (k - 1) ls p.1) (blocks_quiet k ls p.1)
  where
    go :
        (a : Bool) (o : Option ℕ) → All (blocks_of itself (k + 1) ls) → All (blocks_of itself (k - 1) ls) → All (blocks_of itself k ls)
        → All
        (if a then [] ∷ blocks_of itself (k + 1) ls else
        option_map_or (λ n. repeated n (blocks_of itself (k - 1) ls)) o (line_before l (blocks_of itself k ls)))
    go true o x y z = (tt, x)
    go false (Some n) x y z =
        let o = of_others (blocks_of itself (k - 1) ls) y in (
          join (times n (first (blocks_of itself (k - 1) ls))) (first (others (blocks_of itself (k - 1) ls)))
              (often n (first (blocks_of itself (k - 1) ls)) (of_first (blocks_of itself (k - 1) ls) y))
              (of_first (others (blocks_of itself (k - 1) ls)) o),
          of_others (others (blocks_of itself (k - 1) ls)) o,
        )
    go false None x y z = ((p.0, of_first (blocks_of itself k ls) z), of_others (blocks_of itself k ls) z)

last_quiet : (l : List ℕ) → Quiet l → Quiets (last_line l)
unfolding Quiets
last_quiet [] p = tt
last_quiet (x ∷ l) p = (p, tt)

pub full_quiet : (s : List ℕ) → Quiets (written_out itself (lines_of s))
unfolding written_out
full_quiet s =
    let q = lines_quiet s in
    of_first (blocks_of itself 4 (lines_of s)) (blocks_quiet 4 (lines_of s) (join (ended [] s) (last_line (open_line [] s)) q.0 (last_quiet (open_line [] s) q.1)))

-- such lines are the lines of the file that they are
pub lines_of_file : (ls : List (List ℕ)) → Quiets ls → lines_of (file_of ls) ≡ ls
unfolding Quiet
lines_of_file ls q =
    let e = append-nil (file_of ls) in
    let w = one_way ls [] q tt in
    let a : ended [] (file_of ls) ≡ ls = ap (ended []) (sym e) ∙ w.0 in
    let b : open_line [] (file_of ls) ≡ [] = ap (open_line []) (sym e) ∙ w.1 in
    rw (a, b) (append-nil ls)
