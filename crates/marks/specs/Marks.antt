-- Which lines open a repeat, and which close one.
use Rattle.std.specs.Prelude.{Bool, ◌&&◌, List, ℕ, eqb, ltb, length, get_or, Option, None, is_some, if◌then◌else◌}
use Rattle.digits.specs.Hex.{word_of}

-- the character at k; F is 70, 0 is 48, 1 is 49
abbrev pub char : ℕ → List ℕ → ℕ
char k l = get_or l k 0

-- F1 and nothing else closes
unfoldable pub closes : List ℕ → Bool
closes l = eqb (length l) 2 && (eqb (char 0 l) 70 && eqb (char 1 l) 49)

-- F0 and four digits open: how often the block is to run
unfoldable pub count_of : List ℕ → Option ℕ
count_of l =
    if eqb (length l) 6 && (eqb (char 0 l) 70 && eqb (char 1 l) 48)
    then word_of (char 2 l) (char 3 l) (char 4 l) (char 5 l)
    else None

abbrev pub opens : List ℕ → Bool
opens l = is_some (count_of l)

-- the same of a line with k levels left: with none it opens nothing
unfoldable pub turns_of : ℕ → List ℕ → Option ℕ
turns_of k l = if ltb 0 k then count_of l else None
