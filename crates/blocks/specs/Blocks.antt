-- What a session with repeats comes to. Its lines may be given as texts, or as the places where they stand: `line` says which text
-- each is.
use Rattle.std.specs.Prelude.{List, [], ◌∷◌, ◌++◌, ℕ, zero, suc, ◌+◌, ◌-◌, if◌then◌else◌}
use Rattle.std.specs.Option.{option_map_or}
use Rattle.marks.specs.Marks.{closes, turns_of}

-- a line that is given as its text
abbrev pub itself : List ℕ → List ℕ
itself l = l

-- a list n times over
unfoldable pub times : {A : Type 0} → ℕ → List A → List A
times zero xs = []
times (suc n) xs = times n xs ++ xs

-- the first of some lists, and the others; nothing where there is none
abbrev pub first : {A : Type 0} → List (List A) → List A
first [] = []
first (b ∷ bs) = b

abbrev pub others : {A : Type 0} → List (List A) → List (List A)
others [] = []
others (b ∷ bs) = bs

-- a line at the front of the first block; and a whole block, which is run n times before the block around it goes on
abbrev pub line_before : {A : Type 0} → A → List (List A) → List (List A)
line_before x bs = (x ∷ first bs) ∷ others bs

abbrev pub repeated : {A : Type 0} → ℕ → List (List A) → List (List A)
repeated n bs = (times n (first bs) ++ first (others bs)) ∷ others (others bs)

-- what some lines write that stand in a block with k levels left below it: first what this block writes up to its close, then what
-- the block around it writes from there on, and so outwards. Inside a block that a line opens one level less is left; a line that
-- would open one with no level left is written like any other.
unfoldable pub blocks_of : {A : Type 0} → (A → List ℕ) → ℕ → List A → List (List A)
blocks_of line k [] = []
blocks_of line k (x ∷ xs) =
    if closes (line x) then [] ∷ blocks_of line (k + 1) xs else
    option_map_or (λ n. repeated n (blocks_of line (k - 1) xs)) (turns_of k (line x)) (line_before x (blocks_of line k xs))

-- all that a session writes: it begins with 4 levels
unfoldable pub written_out : {A : Type 0} → (A → List ℕ) → List A → List A
written_out line xs = first (blocks_of line 4 xs)

-- of a line before others, which closes nothing: what it writes itself, and what comes behind that
unfoldable pub line_out : {A : Type 0} → (A → List ℕ) → ℕ → A → List A → List A
line_out line k x xs = option_map_or (λ n. times n (first (blocks_of line (k - 1) xs))) (turns_of k (line x)) (x ∷ [])

unfoldable pub behind : {A : Type 0} → (A → List ℕ) → ℕ → A → List A → List (List A)
behind line k x xs = option_map_or (λ n. others (blocks_of line (k - 1) xs)) (turns_of k (line x)) (blocks_of line k xs)
