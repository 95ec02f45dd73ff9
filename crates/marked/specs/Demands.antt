-- What document 01 asks of its marked cases, and request 01 of the catalogue's. proofs/Demands.antt has a proof of each statement, under its name in small letters.
use Rattle.std.specs.Prelude.{◌≡◌, List, [], ◌∷◌, length}
use Rattle.marked.specs.Cases.{Holds}
use Rattle.marked.specs.Table.{table, catalogue}

-- P holds of every entry of a list
unfoldable pub Every : {A : Type 0} → (A → Type 0) → List A → Type 0
Every P [] = Unit {0}
Every P (x ∷ xs) = P x × Every P xs

-- there are twelve of them, and each holds
abbrev pub Marked : Type 0
Marked = (length table ≡ 12) × Every Holds table

-- there are three cases of the 6525, and each holds
abbrev pub Catalogued : Type 0
Catalogued = (length catalogue ≡ 3) × Every Holds catalogue
