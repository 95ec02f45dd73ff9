-- Every session that matches is a script.
use Rattle.std.specs.Prelude.{if◌then◌else◌}
use mathlib.Core.Path.{◌≡◌, refl, ap, sym, ◌∙◌}
use mathlib.Core.Bool.{Bool, true, false, ◌||◌, true≢false}
use mathlib.Core.List.{List, [], ◌∷◌, ◌++◌, append_assoc}
use Prim.Native.Nat.{ℕ, zero, suc, ◌+◌, ◌-◌, ◌≤◌}
use native.Mathlib.Omega.{arith}
use Rattle.std.specs.Prelude.{Result, Ok, Err, is_ok, unwrap_or}
use Rattle.marks.specs.declared.Refusal.{Refusal}
use Rattle.marks.specs.declared.Refusal.TheVariants.{TooDeep, Unmatched}
use borrow.Author.Tests.{lt-ltb, ltb-false}
use lib.Dec.{eqb, ltb}
use Rattle.marks.specs.Marks.{closes, count_of, opens}
use Rattle.marks.specs.Matches.{deeper, unmatched, match_of}
use Rattle.marks.proofs.Matches.{at_close, at_open, at_plain, still_open}
use Rattle.blocks.specs.Blocks.{itself, times, written_out}
use Rattle.blocks.specs.Demands.{Script, end, line, block, typed, run, depth, Formed, Plain, Meant}
use Rattle.blocks.proofs.Scripts.{written_as_meant}

-- lines that stand in d blocks: a script up to the close of the innermost, and so outwards
Parsed : ℕ → List (List ℕ) → Type 0
Parsed zero ls = Meant ls
Parsed (suc d) ls =
    (t : Script) × (c : List ℕ) × (rest : List (List ℕ))
    × Formed t × (suc d + depth t ≤ 4) × (closes c ≡ true) × Parsed d rest × (typed t ++ c ∷ rest ≡ ls)

-- a line in front of them
with_line : (d : ℕ) (x : List ℕ) (xs : List (List ℕ)) → closes x ≡ false → opens x ≡ false → Parsed d xs → Parsed d (x ∷ xs)
unfolding Parsed typed depth Formed
with_line zero x xs k o (t, f, h, e) = (line x t, (k, o, f), h, ap {B = List (List ℕ)} (λ ys. x ∷ ys) e)
with_line (suc d) x xs k o (t, c, rest, f, h, s, p, e) =
    (line x t, c, rest, (k, o, f), h, s, p, ap {B = List (List ℕ)} (λ ys. x ∷ ys) e)

-- a line that opens in front of them closes the innermost
with_open : (d : ℕ) (x : List ℕ) (xs : List (List ℕ)) → closes x ≡ false → opens x ≡ true → Parsed (suc d) xs → Parsed d (x ∷ xs)
unfolding Parsed typed depth Formed
with_open zero x xs k o (b, c, rest, f, h, s, (t, g, i, e), q) =
    (block x b c t, (k, o, f, s, g), omega arith, ap {B = List (List ℕ)} (λ ys. x ∷ ys) (ap (λ (ys : List (List ℕ)). typed b ++ c ∷ ys) e ∙ q))
with_open (suc d) x xs k o (b, c, rest, f, h, s, (t, c', rest', g, i, s', p, e), q) = (
  block x b c t,
  c',
  rest',
  (k, o, f, s, g),
  omega arith,
  s',
  p,
  ap {B = List (List ℕ)} (λ ys. x ∷ ys) (append_assoc (typed b) (c ∷ typed t) (c' ∷ rest') ∙ ap (λ (ys : List (List ℕ)). typed b ++ c ∷ ys) e ∙ q),
)

-- a line that closes in front of them begins another block
with_close : (d : ℕ) (x : List ℕ) (xs : List (List ℕ)) → suc d ≤ 4 → closes x ≡ true → Parsed d xs → Parsed (suc d) (x ∷ xs)
unfolding Parsed typed depth Formed
with_close d x xs h k p = (end, x, xs, tt, omega arith, k, p, refl)

nothing_left : (a b : Bool) → (a || b) ≡ false → (a ≡ false) × (b ≡ false)
nothing_left true b e = absurd (true≢false e)
nothing_left false b e = (refl, e)

module _ (x : List ℕ) (xs : List (List ℕ)) (rest : (d : ℕ) → d ≤ 4 → deeper itself d xs ≡ false → unmatched itself d xs ≡ false → Parsed d xs) where
  closed : (d : ℕ) → closes x ≡ true → d ≤ 4 → deeper itself d (x ∷ xs) ≡ false → unmatched itself d (x ∷ xs) ≡ false → Parsed d (x ∷ xs)
  closed zero k h a b = absurd (true≢false (sym (at_close itself 0 x xs k).1 ∙ b))
  closed (suc d) k h a b =
      let t = at_close itself (suc d) x xs k in
      let z : suc d - 1 ≡ d = omega arith in
      let u = nothing_left (eqb (suc d) 0) (unmatched itself (suc d - 1) xs) (sym t.1 ∙ b) in
      with_close d x xs h k
      (rest d (omega arith) (ap (λ (j : ℕ). deeper itself j xs) (sym z) ∙ sym t.0 ∙ a) (ap (λ (j : ℕ). unmatched itself j xs) (sym z) ∙ u.1))

  opened : (d : ℕ) → closes x ≡ false → opens x ≡ true → deeper itself d (x ∷ xs) ≡ false → unmatched itself d (x ∷ xs) ≡ false → Parsed d (x ∷ xs)
  opened d k o a b =
      let t = at_open itself d x xs k o in
      let u = nothing_left (ltb 4 (d + 1)) (deeper itself (d + 1) xs) (sym t.0 ∙ a) in
      let m : d + 1 ≤ 4 = ltb-false 4 (d + 1) u.0 in
      let z : suc d ≡ d + 1 = omega arith in
      with_open d x xs k o
      (rest (suc d) (omega arith) (ap (λ (j : ℕ). deeper itself j xs) z ∙ u.1) (ap (λ (j : ℕ). unmatched itself j xs) z ∙ sym t.1 ∙ b))

  passed : (d : ℕ) → d ≤ 4 → closes x ≡ false → opens x ≡ false → deeper itself d (x ∷ xs) ≡ false → unmatched itself d (x ∷ xs) ≡ false → Parsed d (x ∷ xs)
  passed d h k o a b =
      let t = at_plain itself d x xs k o in
      with_line d x xs k o (rest d h (sym t.0 ∙ a) (sym t.1 ∙ b))

  any : (d : ℕ) (p q : Bool) → closes x ≡ p → opens x ≡ q → d ≤ 4 → deeper itself d (x ∷ xs) ≡ false → unmatched itself d (x ∷ xs) ≡ false → Parsed d (x ∷ xs)
  any d true q k o h a b = closed d k h a b
  any d false true k o h a b = opened d k o a b
  any d false false k o h a b = passed d h k o a b

parsed : (ls : List (List ℕ)) (d : ℕ) → d ≤ 4 → deeper itself d ls ≡ false → unmatched itself d ls ≡ false → Parsed d ls
unfolding Parsed typed depth Formed
parsed [] zero h a b = (end, tt, omega arith, refl)
parsed [] (suc d) h a b = absurd (true≢false (sym (still_open itself (suc d) ∙ lt-ltb 0 (suc d) (omega arith)) ∙ b))
parsed (x ∷ xs) d h a b = any x xs (λ e. parsed xs e) d (closes x) (opens x) refl refl h a b

-- neither refusal is given
refused : (r : Refusal) → ◌≡◌ {A = Result (Unit {0}) Refusal} (Err r) (Ok tt) → ⊥
refused r e = true≢false (sym (ap is_ok e))

neither : (a b : Bool) → ◌≡◌ {A = Result (Unit {0}) Refusal} (if a then Err TooDeep else (if b then Err Unmatched else Ok tt)) (Ok tt) → (a ≡ false) × (b ≡ false)
neither true b e = absurd (refused TooDeep e)
neither false true e = absurd (refused Unmatched e)
neither false false e = (refl, refl)

pub is_meant : (ls : List (List ℕ)) → match_of itself ls ≡ Ok tt → Meant ls
unfolding match_of Parsed
is_meant ls e = let n = neither (deeper itself 0 ls) (unmatched itself 0 ls) e in parsed ls 0 (omega arith) n.0 n.1

-- ---- what is written has no marks

join : (xs ys : List (List ℕ)) → Plain xs → Plain ys → Plain (xs ++ ys)
unfolding Plain
join [] ys p q = q
join (x ∷ xs) ys p q = (p.0, p.1, join xs ys p.2 q)

often : (n : ℕ) (xs : List (List ℕ)) → Plain xs → Plain (times n xs)
unfolding times Plain
often zero xs p = tt
often (suc n) xs p = join (times n xs) xs (often n xs p) p

run_plain : (t : Script) → Formed t → Plain (run t)
unfolding run Formed Plain
run_plain end f = tt
run_plain (line l t) f = (f.0, f.1, run_plain t f.2)
run_plain (block o b c t) f = join (times (unwrap_or (count_of o) 0) (run b)) (run t) (often (unwrap_or (count_of o) 0) (run b) (run_plain b f.2)) (run_plain t f.4)

pub marks_gone : (ls : List (List ℕ)) → match_of itself ls ≡ Ok tt → Plain (written_out itself ls)
marks_gone ls e =
    let (t, f, d, q) = is_meant ls e in
    rw (← q, written_as_meant t f d) (run_plain t f)
