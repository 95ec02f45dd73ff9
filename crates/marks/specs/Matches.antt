-- How deep repeats stand, and whether each is closed. Lines may be given as texts, or as the places where they stand: `line` says which
-- text each is.
use Rattle.std.specs.Prelude.{Bool, false, ◌||◌, List, [], ◌∷◌, ℕ, ◌+◌, ◌-◌, eqb, ltb, Result, Ok, Err, if◌then◌else◌}
use Rattle.marks.specs.declared.Refusal.{Refusal}
use Rattle.marks.specs.declared.Refusal.TheVariants.{TooDeep, Unmatched}
use Rattle.marks.specs.Marks.{closes, opens}

-- some line opens a repeat inside 4 others, d being open before these lines; a close with none open closes nothing
unfoldable pub deeper : {A : Type 0} → (A → List ℕ) → ℕ → List A → Bool
deeper line d [] = false
deeper line d (x ∷ xs) =
    if closes (line x) then deeper line (d - 1) xs else
    (if opens (line x) then ltb 4 (d + 1) || deeper line (d + 1) xs else
    deeper line d xs)

-- some line closes with none open, or a repeat is still open at the end
unfoldable pub unmatched : {A : Type 0} → (A → List ℕ) → ℕ → List A → Bool
unmatched line d [] = ltb 0 d
unmatched line d (x ∷ xs) =
    if closes (line x) then eqb d 0 || unmatched line (d - 1) xs else
    (if opens (line x) then unmatched line (d + 1) xs else
    unmatched line d xs)

-- too deep where repeats stand too deep, or else unmatched where one is
unfoldable pub match_of : {A : Type 0} → (A → List ℕ) → List A → Result (Unit {0}) Refusal
match_of line xs = if deeper line 0 xs then Err TooDeep else (if unmatched line 0 xs then Err Unmatched else Ok tt)
