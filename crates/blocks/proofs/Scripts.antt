-- Sessions as they are meant.
use Rattle.std.specs.Prelude.{if◌then◌else◌}
use mathlib.Core.Path.{◌≡◌, refl, ap, ap₂, sym, ◌∙◌}
use mathlib.Core.Bool.{Bool, true, false, ◌||◌}
use mathlib.Core.List.{List, [], ◌∷◌, ◌++◌, append_assoc, append-nil}
use Prim.Native.Nat.{ℕ, ◌+◌, ◌-◌, ◌<◌, ◌≤◌}
use native.Mathlib.Omega.{arith}
use Rattle.std.specs.Prelude.{Option, None, Some, Ok, unwrap_or}
use borrow.Author.Tests.{lt-ltb, le-ltb, ne_eqb}
use lib.Dec.{ltb}
use Rattle.marks.specs.Marks.{count_of, opens, turns_of}
use Rattle.marks.specs.Matches.{deeper, unmatched, match_of}
use Rattle.marks.proofs.Matches.{at_close, at_open, at_plain, no_deeper, still_open}
use Rattle.blocks.specs.Blocks.{itself, times, first, others, repeated, blocks_of, written_out}
use Rattle.blocks.specs.Demands.{Script, end, line, block, typed, run, depth, Formed, Plain}
use Rattle.blocks.proofs.Blocks.{closing, opening, plain, is_the, is_none}

-- a level more or less is none to a line that opens nothing, and with a level left its count is what it says
turns_none : (k : ℕ) (l : List ℕ) → opens l ≡ false → turns_of k l ≡ None
unfolding turns_of
turns_none k l h = go (ltb 0 k)
  where
    go : (b : Bool) → ◌≡◌ {A = Option ℕ} (if b then count_of l else None) None
    go true = is_none (count_of l) h
    go false = refl

turns_some : (k : ℕ) (l : List ℕ) → 0 < k → turns_of k l ≡ count_of l
unfolding turns_of
turns_some k l h = rw (lt-ltb 0 k h)

-- ---- written out

-- a script before other lines writes what is meant, and then what they write
written :
    (t : Script) (k : ℕ) (ls : List (List ℕ)) → Formed t → depth t ≤ k
    → (first (blocks_of itself k (typed t ++ ls)) ≡ run t ++ first (blocks_of itself k ls))
    × (others (blocks_of itself k (typed t ++ ls)) ≡ others (blocks_of itself k ls))
unfolding typed run depth Formed
written end k ls f d = (refl, refl)
written (line l t) k ls f d =
    let r = written t k ls f.2 d in
    let e = plain itself k l (typed t ++ ls) f.0 (turns_none k l f.1) in
    (ap first e ∙ ap {B = List (List ℕ)} (λ xs. l ∷ xs) r.0, ap others e ∙ r.1)
written (block o b c t) k ls f d =
    let zs = typed t ++ ls in
    let some : 0 < k = omega arith in
    let z : k - 1 + 1 ≡ k = omega arith in
    let m = unwrap_or (count_of o) 0 in
    let n : turns_of k o ≡ Some m = turns_some k o some ∙ is_the (count_of o) f.1 in
    let shut : blocks_of itself (k - 1) (c ∷ zs) ≡ [] ∷ blocks_of itself k zs = closing itself (k - 1) c zs f.3 ∙ ap (λ (j : ℕ). [] ∷ blocks_of itself j zs) z in
    let i = written b (k - 1) (c ∷ zs) f.2 (omega arith) in
    let r = written t k ls f.4 (omega arith) in
    let inner : first (blocks_of itself (k - 1) (typed b ++ c ∷ zs)) ≡ run b = i.0 ∙ ap (λ (bs : List (List (List ℕ))). run b ++ first bs) shut ∙ append-nil (run b) in
    let outer : others (blocks_of itself (k - 1) (typed b ++ c ∷ zs)) ≡ blocks_of itself k zs = i.1 ∙ ap others shut in
    let e : blocks_of itself k (o ∷ ((typed b ++ c ∷ typed t) ++ ls)) ≡ repeated m (blocks_of itself (k - 1) (typed b ++ c ∷ zs)) =
    ap (λ (xs : List (List ℕ)). blocks_of itself k (o ∷ xs)) (append_assoc (typed b) (c ∷ typed t) ls) ∙ opening itself k o (typed b ++ c ∷ zs) m f.0 n in (
      ap first e
          ∙ ap₂ (λ (xs ys : List (List ℕ)). xs ++ ys) (ap (times m) inner) (ap first outer ∙ r.0)
          ∙ sym (append_assoc (times m (run b)) (run t) (first (blocks_of itself k ls))),
      ap others e ∙ ap others outer ∙ r.1,
    )

pub written_as_meant : (t : Script) → Formed t → depth t ≤ 4 → written_out itself (typed t) ≡ run t
unfolding written_out blocks_of
written_as_meant t f d = ap (λ (ls : List (List ℕ)). first (blocks_of itself 4 ls)) (sym (append-nil (typed t))) ∙ (written t 4 [] f d).0 ∙ append-nil (run t)

-- ---- matched

matching :
    (t : Script) (d : ℕ) (ls : List (List ℕ)) → Formed t → d + depth t ≤ 4
    → (deeper itself d (typed t ++ ls) ≡ deeper itself d ls) × (unmatched itself d (typed t ++ ls) ≡ unmatched itself d ls)
unfolding typed depth Formed
matching end d ls f h = (refl, refl)
matching (line l t) d ls f h =
    let r = matching t d ls f.2 h in
    let p = at_plain itself d l (typed t ++ ls) f.0 f.1 in
    (p.0 ∙ r.0, p.1 ∙ r.1)
matching (block o b c t) d ls f h =
    let zs = typed t ++ ls in
    let a = append_assoc (typed b) (c ∷ typed t) ls in
    let p = at_open itself d o (typed b ++ c ∷ zs) f.0 f.1 in
    let i = matching b (d + 1) (c ∷ zs) f.2 (omega arith) in
    let q = at_close itself (d + 1) c zs f.3 in
    let r = matching t d ls f.4 (omega arith) in
    let z : d + 1 - 1 ≡ d = omega arith in
    let n : d + 1 ≡ 0 → ⊥ = λ e. omega arith in (
      ap (λ (xs : List (List ℕ)). deeper itself d (o ∷ xs)) a ∙ p.0
          ∙ ap (λ (x : Bool). x || deeper itself (d + 1) (typed b ++ c ∷ zs)) (le-ltb 4 (d + 1) (omega arith))
          ∙ i.0 ∙ q.0 ∙ ap (λ (j : ℕ). deeper itself j zs) z ∙ r.0,
      ap (λ (xs : List (List ℕ)). unmatched itself d (o ∷ xs)) a ∙ p.1 ∙ i.1 ∙ q.1
          ∙ ap (λ (x : Bool). x || unmatched itself (d + 1 - 1) zs) (ne_eqb (d + 1) 0 n)
          ∙ ap (λ (j : ℕ). unmatched itself j zs) z ∙ r.1,
    )

-- neither too deep nor unmatched
fine : (ls : List (List ℕ)) → deeper itself 0 ls ≡ false → unmatched itself 0 ls ≡ false → match_of itself ls ≡ Ok tt
unfolding match_of
fine ls d u = rw (d, u)

pub matches_as_meant : (t : Script) → Formed t → depth t ≤ 4 → match_of itself (typed t) ≡ Ok tt
matches_as_meant t f d =
    let m = matching t 0 [] f (omega arith) in
    let e = append-nil (typed t) in
    fine (typed t) (ap (deeper itself 0) (sym e) ∙ m.0 ∙ no_deeper itself 0) (ap (unmatched itself 0) (sym e) ∙ m.1 ∙ still_open itself 0)

-- ---- without repeats

-- such lines are a script of lines
script : List (List ℕ) → Script
script [] = end
script (l ∷ ls) = line l (script ls)

as_script : (ls : List (List ℕ)) → (typed (script ls) ≡ ls) × (run (script ls) ≡ ls) × (depth (script ls) ≡ 0)
unfolding script typed run depth
as_script [] = (refl, refl, refl)
as_script (l ∷ ls) =
    let r = as_script ls in (ap {B = List (List ℕ)} (λ xs. l ∷ xs) r.0, ap {B = List (List ℕ)} (λ xs. l ∷ xs) r.1, r.2)

formed : (ls : List (List ℕ)) → Plain ls → Formed (script ls)
unfolding script Formed Plain
formed [] p = tt
formed (l ∷ ls) p = (p.0, p.1, formed ls p.2)

pub plain_stays : (ls : List (List ℕ)) → Plain ls → (written_out itself ls ≡ ls) × (match_of itself ls ≡ Ok tt)
plain_stays ls p =
    let s = as_script ls in
    let f = formed ls p in
    let d : depth (script ls) ≤ 4 = omega (arith, s.2) in
    (ap (written_out itself) (sym s.0) ∙ written_as_meant (script ls) f d ∙ s.1, ap (match_of itself) (sym s.0) ∙ matches_as_meant (script ls) f d)
