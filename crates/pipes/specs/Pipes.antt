-- What a read does to an input whose bytes are known.
use Rattle.std.specs.Prelude.{◌≡◌, List, ℕ, ◌<◌, length, take, Option, None, Some}
use Rattle.std.specs.Io.KnownBytes.{Keeps, Consumes, IsAtEnd}

-- a read that put some bytes into a space took as many off the input, and put them there; none only at the input's end, unless there
-- was no space. One that failed took nothing.
abbrev pub Took : Option (List ℕ) → Option (List ℕ) → Option ℕ → List ℕ → Type 0
Took input input' None space = Keeps input input'
Took input input' (Some n) space = Consumes input input' (take n space) × (n ≡ 0 → 0 < length space → IsAtEnd input')
