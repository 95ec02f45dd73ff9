-- What the demands ask of replies. proofs/Demands.antt has a proof of each statement, under its name in small letters.
use Rattle.std.specs.Prelude.{◌≡◌, List, ℕ, ◌≤◌, length}
use Rattle.calls.specs.Refusals.{number_of}
use Rattle.calls.specs.declared.Refusal.{Refusal}
use Rattle.replies.specs.Replies.{render, refusal_line, Put}
use Rattle.replies.specs.declared.Reply.{Reply}
use Rattle.replies.specs.declared.Reply.TheVariants.{Refused, RefusedAs}

-- 13 bytes are room for any reply
abbrev pub RepliesFit : Type 0
RepliesFit = (r : Reply) → length (render r) ≤ 13

-- a refusal and its number are one line, and a number is the same line where `put_refusal` puts it
abbrev pub NumberSays : Type 0
NumberSays = ((r : Refusal) → render (Refused r) ≡ render (RefusedAs (number_of r))) × ((n : ℕ) → render (RefusedAs n) ≡ refusal_line n)

-- any two results that the promise of `put` allows coincide, all of the buffer among them
abbrev pub PutOne : Type 0
PutOne = (before x y : List ℕ) (at r q : ℕ) (t : List ℕ) → Put before x at r t → Put before y at q t → (x ≡ y) × (r ≡ q)
