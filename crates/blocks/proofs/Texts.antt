-- Lines given as places, and the same lines given as texts.
use Rattle.std.specs.Prelude.{if◌then◌else◌}
use mathlib.Core.Path.{◌≡◌, refl, ap, ap₂, sym, ◌∙◌}
use mathlib.Core.Bool.{Bool, true, false}
use mathlib.Core.List.{List, [], ◌∷◌, ◌++◌}
use Prim.Native.Nat.{ℕ, zero, suc, ◌+◌, ◌-◌}
use Rattle.std.specs.Prelude.{Option, None, Some}
use Rattle.std.specs.Option.{option_map_or}
use lib.ListN.{length}
use Rattle.lines.specs.Places.{line_at, lines_at}
use Rattle.lines.proofs.Places.{lines_length, lines_append}
use Rattle.marks.specs.Marks.{closes, turns_of}
use Rattle.marks.specs.Matches.{deeper, unmatched, match_of}
use Rattle.blocks.specs.Blocks.{itself, times, first, others, line_before, repeated, blocks_of, written_out}
use Rattle.blocks.specs.Judged.{refusal_of}

module _ (s : List ℕ) where
  -- the texts of some blocks
  each : List (List ℕ) → List (List (List ℕ))
  each [] = []
  each (b ∷ bs) = lines_at s b ∷ each bs

  each_first : (bs : List (List ℕ)) → first (each bs) ≡ lines_at s (first bs)
  unfolding each
  each_first [] = refl
  each_first (b ∷ bs) = refl

  each_others : (bs : List (List ℕ)) → others (each bs) ≡ each (others bs)
  unfolding each
  each_others [] = refl
  each_others (b ∷ bs) = refl

  lines_times : (n : ℕ) (ps : List ℕ) → lines_at s (times n ps) ≡ times n (lines_at s ps)
  unfolding times
  lines_times zero ps = refl
  lines_times (suc n) ps = lines_append s (times n ps) ps ∙ ap (λ (ls : List (List ℕ)). ls ++ lines_at s ps) (lines_times n ps)

  each_line : (p : ℕ) (bs : List (List ℕ)) → each (line_before p bs) ≡ line_before (line_at s p) (each bs)
  unfolding each
  each_line p bs = ap₂ (λ (l : List (List ℕ)) (r : List (List (List ℕ))). (line_at s p ∷ l) ∷ r) (sym (each_first bs)) (sym (each_others bs))

  each_repeated : (n : ℕ) (bs : List (List ℕ)) → each (repeated n bs) ≡ repeated n (each bs)
  unfolding each
  each_repeated n bs =
      let f : lines_at s (times n (first bs) ++ first (others bs)) ≡ times n (first (each bs)) ++ first (others (each bs)) =
      lines_append s (times n (first bs)) (first (others bs))
      ∙ ap₂ (λ (a b : List (List ℕ)). a ++ b) (lines_times n (first bs) ∙ ap (times n) (sym (each_first bs)))
      (sym (ap first (each_others bs) ∙ each_first (others bs))) in
      let o : each (others (others bs)) ≡ others (others (each bs)) = sym (ap others (each_others bs) ∙ each_others (others bs)) in
      ap₂ (λ (l : List (List ℕ)) (r : List (List (List ℕ))). l ∷ r) f o

  blocks_at : (k : ℕ) (ps : List ℕ) → each (blocks_of (line_at s) k ps) ≡ blocks_of itself k (lines_at s ps)
  unfolding blocks_of each
  blocks_at k [] = refl
  blocks_at k (p ∷ ps) = go (closes (line_at s p)) (turns_of k (line_at s p)) (blocks_at (k + 1) ps) (blocks_at (k - 1) ps) (blocks_at k ps)
    where
      go :
          (b : Bool) (o : Option ℕ) → each (blocks_of (line_at s) (k + 1) ps) ≡ blocks_of itself (k + 1) (lines_at s ps)
          → each (blocks_of (line_at s) (k - 1) ps) ≡ blocks_of itself (k - 1) (lines_at s ps)
          → each (blocks_of (line_at s) k ps) ≡ blocks_of itself k (lines_at s ps)
          → each (if b then [] ∷ blocks_of (line_at s) (k + 1) ps else option_map_or (λ n. repeated n (blocks_of (line_at s) (k - 1) ps)) o (line_before p (blocks_of (line_at s) k ps)))
          ≡ (if b then [] ∷ blocks_of itself (k + 1) (lines_at s ps) else option_map_or (λ n. repeated n (blocks_of itself (k - 1) (lines_at s ps))) o (line_before (line_at s p) (blocks_of itself k (lines_at s ps))))
      go true o e f g = ap (λ (bs : List (List (List ℕ))). [] ∷ bs) e
      go false (Some n) e f g = each_repeated n (blocks_of (line_at s) (k - 1) ps) ∙ ap (repeated n) f
      go false None e f g = each_line p (blocks_of (line_at s) k ps) ∙ ap (line_before (line_at s p)) g

  pub written_at : (ps : List ℕ) → lines_at s (written_out (line_at s) ps) ≡ written_out itself (lines_at s ps)
  unfolding written_out
  written_at ps = sym (each_first (blocks_of (line_at s) 4 ps)) ∙ ap first (blocks_at 4 ps)

  deeper_at : (d : ℕ) (ps : List ℕ) → deeper (line_at s) d ps ≡ deeper itself d (lines_at s ps)
  unfolding deeper
  deeper_at d [] = refl
  deeper_at d (p ∷ ps) = rw (deeper_at (d - 1) ps, deeper_at (d + 1) ps, deeper_at d ps)

  unmatched_at : (d : ℕ) (ps : List ℕ) → unmatched (line_at s) d ps ≡ unmatched itself d (lines_at s ps)
  unfolding unmatched
  unmatched_at d [] = refl
  unmatched_at d (p ∷ ps) = rw (unmatched_at (d - 1) ps, unmatched_at (d + 1) ps, unmatched_at d ps)

  match_at : (ps : List ℕ) → match_of (line_at s) ps ≡ match_of itself (lines_at s ps)
  unfolding match_of
  match_at ps = rw (deeper_at 0 ps, unmatched_at 0 ps)

  pub refusal_at : (n : ℕ) (ps : List ℕ) → refusal_of (line_at s) n ps ≡ refusal_of itself n (lines_at s ps)
  unfolding refusal_of
  refusal_at n ps =
      let e : length (written_out (line_at s) ps) ≡ length (written_out itself (lines_at s ps)) = sym (lines_length s (written_out (line_at s) ps)) ∙ ap length (written_at ps) in
      rw (match_at ps, e)
