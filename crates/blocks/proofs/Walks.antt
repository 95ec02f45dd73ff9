-- Walks through blocks and lines.
use mathlib.Core.Path.{◌≡◌, refl, ap, sym, ◌∙◌}
use mathlib.Core.Bool.{Bool, true, false, ◌&&◌}
use mathlib.Core.List.{List, [], ◌∷◌}
use mathlib.Core.Logic.{◌⊎◌, inl, inr}
use Prim.Native.Nat.{ℕ, ◌+◌, ◌-◌, ◌<◌, ◌≤◌}
use native.Mathlib.Decide.{dec_lt}
use native.Mathlib.Omega.{arith}
use borrow.Author.Tests.{lt-ltb, ltb-true, ltb-false}
use lib.Dec.{ltb}
use lib.ListN.{length, take, drop, get_or, drop_of_length-le}
use Rattle.clocks.proofs.Tests.{both}
use Rattle.std.specs.Prelude.{None, Some}
use Rattle.lines.specs.Written.{Written}
use Rattle.marks.specs.Marks.{closes, turns_of}
use Rattle.marks.proofs.Matches.{from_here}
use Rattle.blocks.specs.Blocks.{times, first, others, blocks_of, written_out, line_out, behind}
use Rattle.blocks.specs.Windows.{Window, window, notes, Last}
use Rattle.blocks.specs.Walks.{Walks, ThroughBlock, ThroughLine}
use Rattle.blocks.specs.declared.Walked.{Walked}
use Rattle.blocks.proofs.Windows.{Shown, shows, empty, none, notes_append, stays, Came, came, lasts, never, once_more, more_often}
use Rattle.blocks.proofs.Blocks.{closing, by_line, opens_out, plain_out, opens_level, no_lines}

-- where a window has come to by some more
by_notes : (k u : ℕ) (l ps : List ℕ) (k' u' : ℕ) (l' : List ℕ) → window k' u' l' ≡ notes (window k u l) ps → Came (window k u l) (window k' u' l') ps
by_notes k u l ps k' u' l' e = rw e (came k u l ps)

-- a loop goes on while two tests hold, and stops where one fails
both_less : (a b c d : ℕ) → (ltb a b && ltb c d) ≡ true → (a < b) × (c < d)
both_less a b c d e = let t = both (ltb a b) (ltb c d) e in (ltb-true a b t.0, ltb-true c d t.1)

one_done : (a b c d : ℕ) → (ltb a b && ltb c d) ≡ false → (b ≤ a) ⊎ (d ≤ c)
one_done a b c d e = go (dec_lt a b)
  where
    go : Dec (a < b) → (b ≤ a) ⊎ (d ≤ c)
    go (yes h) = inr (ltb-false c d (sym (ap (λ (x : Bool). x && ltb c d) (lt-ltb a b h)) ∙ e))
    go (no h) = inl (omega arith)

-- a walk leaves the buffer as long as it was
pub walk_sized :
    {line : ℕ → List ℕ} {table : List ℕ} {from k u : ℕ} {l ps : List ℕ} {j : ℕ} {bs : List (List ℕ)} {r : Walked} {seen : List ℕ}
    → Walks line table from (window k u l) ps j bs r seen → length seen ≡ length l
walk_sized w = (by_notes _ _ _ _ _ _ _ w.noted).size

-- ---- through a block

-- as far as `here`: while there is room, what the block has written and what it has still to write come to all of it; a full window
-- holds all that it ever will
pub record Blocking (line : ℕ → List ℕ) (table : List ℕ) (at levels skip used : ℕ) (out₀ out : List ℕ) (here skips uses : ℕ) : Type 0 where
  pub begun : at ≤ here
  pub within : here ≤ length table
  pub sized : length out ≡ length out₀
  pub noted :
      uses < length out
      → notes (window skip used out₀) (first (blocks_of line levels (drop at table)))
      ≡ notes (window skips uses out) (first (blocks_of line levels (drop here table)))
  pub next : uses < length out → others (blocks_of line levels (drop at table)) ≡ others (blocks_of line levels (drop here table))
  pub full : length out ≤ uses → window skips uses out ≡ notes (window skip used out₀) (first (blocks_of line levels (drop at table)))

pub blocking_start :
    (line : ℕ → List ℕ) (table : List ℕ) (at levels skip used : ℕ) (out : List ℕ) → at ≤ length table → used < length out
    → Blocking line table at levels skip used out out at skip used
blocking_start line table at levels skip used out h g =
    record {
      begun = omega arith;
      within = h;
      sized = refl;
      noted = λ _. refl;
      next = λ _. refl;
      full = λ f. absurd (omega arith);
    }

module _
    {line : ℕ → List ℕ} {table : List ℕ} {at levels skip used : ℕ} {out₀ out : List ℕ} {here skips uses : ℕ}
    (c : Blocking line table at levels skip used out₀ out here skips uses)
  where
    pub blocking_close :
        here < length table → uses < length out → closes (line (get_or table here 0)) ≡ true
        → ThroughBlock line table at levels (window skip used out₀) (record { at = here + 1; skip = skips; used = uses }) out
    blocking_close h g k =
        let b = c.begun in
        let e = ap (blocks_of line levels) (from_here table here h) ∙ closing line levels _ _ k in
        record {
          begun = omega arith;
          within = omega arith;
          noted = sym (c.noted g ∙ ap (λ (bs : List (List ℕ)). notes (window skips uses out) (first bs)) e ∙ none (window skips uses out));
          next = λ _. sym (c.next g ∙ ap others e);
        }

    pub block_goes : (ltb here (length table) && ltb uses (length out)) ≡ true → (here < length table) × (uses < length out)
    block_goes = both_less here (length table) uses (length out)

    pub block_stops : (ltb here (length table) && ltb uses (length out)) ≡ false → (length table ≤ here) ⊎ (length out ≤ uses)
    block_stops = one_done here (length table) uses (length out)

    at_end : (length table ≤ here) ⊎ (length out ≤ uses) → uses < length out → (j : ℕ) → blocks_of line j (drop here table) ≡ []
    at_end s g j = ap (blocks_of line j) (drop_of_length-le table {i = here} (gone s)) ∙ no_lines line j
      where
        gone : (length table ≤ here) ⊎ (length out ≤ uses) → length table ≤ here
        gone (inl f) = f
        gone (inr f) = absurd (omega arith)

    pub blocking_end :
        (length table ≤ here) ⊎ (length out ≤ uses)
        → ThroughBlock line table at levels (window skip used out₀) (record { at = here; skip = skips; used = uses }) out
    blocking_end s =
        record {
          begun = c.begun;
          within = c.within;
          noted = go (dec_lt uses (length out));
          next = λ g. at_end s g (levels + 1) ∙ sym (c.next g ∙ ap others (at_end s g levels));
        }
      where
        go : Dec (uses < length out) → window skips uses out ≡ notes (window skip used out₀) (first (blocks_of line levels (drop at table)))
        go (yes g) =
            sym (c.noted g ∙ ap (λ (bs : List (List ℕ)). notes (window skips uses out) (first bs)) (at_end s g levels) ∙ none (window skips uses out))
        go (no g) = c.full (omega arith)

    -- a line that closes nothing, and what its walk has left
    module _
        (h : here < length table) (g : uses < length out) (k : closes (line (get_or table here 0)) ≡ false) {r : Walked} {out' : List ℕ}
        (l : ThroughLine line table here levels (window skips uses out) r out')
      where
        split_is :
            notes (window skip used out₀) (first (blocks_of line levels (drop at table)))
            ≡ notes (window r.skip r.used out') (first (behind line levels (get_or table here 0) (drop (here + 1) table)))
        split_is =
            let s = by_line line levels (get_or table here 0) (drop (here + 1) table) k in
            let w = window skips uses out in
            c.noted g ∙ ap (λ (ys : List ℕ). notes w (first (blocks_of line levels ys))) (from_here table here h) ∙ ap (notes w) s.0
            ∙ notes_append w _ _ ∙ ap (λ (v : Window). notes v (first (behind line levels (get_or table here 0) (drop (here + 1) table)))) (sym l.noted)

        others_is : others (blocks_of line levels (drop at table)) ≡ others (behind line levels (get_or table here 0) (drop (here + 1) table))
        others_is =
            let s = by_line line levels (get_or table here 0) (drop (here + 1) table) k in
            c.next g ∙ ap (λ (ys : List ℕ). others (blocks_of line levels ys)) (from_here table here h) ∙ s.1

        line_came : Came (window skips uses out) (window r.skip r.used out') (line_out line levels (get_or table here 0) (drop (here + 1) table))
        line_came = by_notes _ _ _ _ _ _ _ l.noted

        full_is : length out' ≤ r.used → window r.skip r.used out' ≡ notes (window skip used out₀) (first (blocks_of line levels (drop at table)))
        full_is f =
            let m = line_came.size in
            let z = line_came.order (omega arith) in
            sym (split_is ∙ stays (window r.skip r.used out') _ z f)

        pub blocking_line : Blocking line table at levels skip used out₀ out' r.at r.skip r.used
        blocking_line =
            let b = c.begun in
            let n = l.begun in
            record {
              begun = omega arith;
              within = l.within;
              sized = line_came.size ∙ c.sized;
              noted = λ q. split_is ∙ ap (λ (bs : List (List ℕ)). notes (window r.skip r.used out') (first bs)) (sym (l.next q));
              next = λ q. others_is ∙ ap others (sym (l.next q));
              full = full_is;
            }

-- ---- through a line

-- one that opens nothing
pub through_plain :
    (line : ℕ → List ℕ) (table : List ℕ) (at k : ℕ) (w : Window) (r : Walked) (out : List ℕ) → at < length table
    → turns_of k (line (get_or table at 0)) ≡ None → r.at ≡ at + 1 → window r.skip r.used out ≡ notes w (get_or table at 0 ∷ [])
    → ThroughLine line table at k w r out
through_plain line table at k w r out h g i e =
    let p = plain_out line k (get_or table at 0) (drop (at + 1) table) g in
    record {
      begun = omega arith;
      within = omega arith;
      noted = e ∙ ap (notes w) (sym p.0);
      next = λ _. ap (λ (j : ℕ). blocks_of line k (drop j table)) i ∙ sym p.1;
    }

-- one that opens a repeat of n turns, after some of them
pub record Turning (line : ℕ → List ℕ) (table : List ℕ) (from low skip used : ℕ) (out₀ out : List ℕ) (n turned after skips uses : ℕ) : Type 0 where
  pub begun : from ≤ after
  pub within : after ≤ length table
  pub level : turned ≤ n
  pub sized : length out ≡ length out₀
  pub noted : window skips uses out ≡ notes (window skip used out₀) (times turned (first (blocks_of line low (drop from table))))
  pub next : 0 < turned → uses < length out → blocks_of line (low + 1) (drop after table) ≡ others (blocks_of line low (drop from table))

pub turning_start :
    (line : ℕ → List ℕ) (table : List ℕ) (from low skip used : ℕ) (out : List ℕ) (n : ℕ) → from ≤ length table
    → Turning line table from low skip used out out n 0 from skip used
turning_start line table from low skip used out n h =
    record {
      begun = omega arith;
      within = h;
      level = omega arith;
      sized = refl;
      noted = sym (never (window skip used out) _);
      next = λ q. absurd (omega arith);
    }

module _
    {line : ℕ → List ℕ} {table : List ℕ} {from low skip used : ℕ} {out₀ out : List ℕ} {n turned after skips uses : ℕ}
    (c : Turning line table from low skip used out₀ out n turned after skips uses)
  where
    pub line_goes : (ltb turned n && ltb uses (length out)) ≡ true → (turned < n) × (uses < length out)
    line_goes = both_less turned n uses (length out)

    pub line_stops : (ltb turned n && ltb uses (length out)) ≡ false → (n ≤ turned) ⊎ (length out ≤ uses)
    line_stops = one_done turned n uses (length out)

-- what came by a walk came last
pub last_came :
    (k u : ℕ) (l o : List ℕ) (k' u' : ℕ) (l' : List ℕ) → window k' u' l' ≡ notes (window k u l) o → Last o (k - k') (u' - u) u' l'
last_came k u l o k' u' l' e = record { size = λ g. sym (all g); same = λ g z. go g z (dec_lt u u') }
  where
    c : Came (window k u l) (window k' u' l') o
    c = by_notes k u l o k' u' l' e

    all : u' < length l' → k - k' + (u' - u) ≡ length o
    all g = let s = c.size in c.all (omega arith)

    go : u' < length l' → k - k' ≡ 0 → Dec (u < u') → take (u' - u) (drop (u' - (u' - u)) l') ≡ o
    go g z (yes h) =
        let s = c.size in
        let f = c.fewer in
        let k'-is = c.order h in
        let k-is : k ≡ 0 = omega arith in
        let n : u' - u ≡ length o = omega (arith, all g) in
        let p : u' - (u' - u) ≡ u = omega arith in
        let i : window k' u' l' ≡ notes (window 0 u l) o = e ∙ ap (λ (m : ℕ). notes (window m u l) o) k-is in
        rw (p, n) (ap (λ (v : Window). take (length o) (drop u v.seen)) i ∙ lasts u l o (omega arith))
    go g z (no h) =
        let m = c.more in
        let n : u' - u ≡ 0 = omega arith in
        rw n (sym (empty o (omega (arith, all g))))

module _
    {line : ℕ → List ℕ} {table : List ℕ} {from low skip used : ℕ} {out₀ out : List ℕ} {n turned after skips uses : ℕ}
    (c : Turning line table from low skip used out₀ out n turned after skips uses) (h : turned < n) (room : uses < length out)
    {b : Walked} {out₁ : List ℕ} (w : ThroughBlock line table from low (window skips uses out) b out₁)
  where
    block_came : Came (window skips uses out) (window b.skip b.used out₁) (first (blocks_of line low (drop from table)))
    block_came = by_notes _ _ _ _ _ _ _ w.noted

    -- what `onward` asks for
    pub fewer_left : b.skip ≤ skips
    fewer_left = block_came.fewer

    pub more_noted : uses ≤ b.used
    more_noted = block_came.more

    pub onward_may :
        (b.skip ≤ skips) × (uses ≤ b.used) × (b.used ≤ length out₁) × (uses < b.used → b.skip ≡ 0)
    onward_may =
        let s = block_came.size in
        let i = block_came.within (omega arith) in
        (fewer_left, more_noted, omega arith, λ q. block_came.order q)

    -- and what comes of its repetitions
    module _
        {skips' uses' more : ℕ} {out₂ : List ℕ} (f : more ≤ n - turned - 1)
        (g :
        (o : List ℕ) → Last o (skips - b.skip) (b.used - uses) b.used out₁
        → window skips' uses' out₂ ≡ notes (window b.skip b.used out₁) (times more o))
      where
        onwards : window skips' uses' out₂ ≡ notes (window b.skip b.used out₁) (times more (first (blocks_of line low (drop from table))))
        onwards = g _ (last_came _ _ _ _ _ _ _ w.noted)

        on_came : Came (window b.skip b.used out₁) (window skips' uses' out₂) (times more (first (blocks_of line low (drop from table))))
        on_came = by_notes _ _ _ _ _ _ _ onwards

        all_noted :
            window skips' uses' out₂
            ≡ notes (window skip used out₀) (times (turned + 1 + more) (first (blocks_of line low (drop from table))))
        all_noted =
            let p = first (blocks_of line low (drop from table)) in
            let v = window skip used out₀ in
            onwards
            ∙ ap (λ (y : Window). notes y (times more p)) (w.noted ∙ ap (λ (y : Window). notes y p) c.noted ∙ sym (once_more v turned p))
            ∙ sym (more_often v (turned + 1) more p)

        pub turning_again : Turning line table from low skip used out₀ out₂ n (turned + 1 + more) b.at skips' uses'
        turning_again =
            let s = on_came.size in
            let m = on_came.more in
            record {
              begun = w.begun;
              within = w.within;
              level = omega arith;
              sized = on_came.size ∙ block_came.size ∙ c.sized;
              noted = all_noted;
              next = λ _ r. w.next (omega arith);
            }

-- ---- what a line that opens is through with

-- no turn at all, and all of them
pub no_turn : (w : Window) (n : ℕ) (o : List ℕ) → n ≡ 0 → w ≡ notes w (times n o)
no_turn w n o e = sym (ap (λ (m : ℕ). notes w (times m o)) e ∙ never w o)

module _
    {line : ℕ → List ℕ} {table : List ℕ} {from low skip used : ℕ} {out₀ out : List ℕ} {n turned after skips uses : ℕ}
    (c : Turning line table from low skip used out₀ out n turned after skips uses) (s : (n ≤ turned) ⊎ (length out ≤ uses))
  where
    turned_all : uses < length out → turned ≡ n
    turned_all g = go s
      where
        go : (n ≤ turned) ⊎ (length out ≤ uses) → turned ≡ n
        go (inl f) = let l = c.level in omega arith
        go (inr f) = absurd (omega arith)

    -- a full window holds all that the turns that are left could add
    pub all_turns_lem :
        used < length out₀ → window skips uses out ≡ notes (window skip used out₀) (times n (first (blocks_of line low (drop from table))))
    all_turns_lem q = go (dec_lt uses (length out))
      where
        go : Dec (uses < length out) → window skips uses out ≡ notes (window skip used out₀) (times n (first (blocks_of line low (drop from table))))
        go (yes g) = c.noted ∙ ap (λ (m : ℕ). notes (window skip used out₀) (times m (first (blocks_of line low (drop from table))))) (turned_all g)
        go (no g) =
            let p = first (blocks_of line low (drop from table)) in
            let v = window skip used out₀ in
            let y = by_notes skip used out₀ (times turned p) skips uses out c.noted in
            let i = y.size in
            let z = y.order (omega arith) in
            let l = c.level in
            let e : n ≡ turned + (n - turned) = omega arith in
            sym (ap (λ (m : ℕ). notes v (times m p)) e ∙ more_often v turned (n - turned) p
            ∙ ap (λ (u : Window). notes u (times (n - turned) p)) (sym c.noted) ∙ stays (window skips uses out) (times (n - turned) p) z (omega arith))

    pub then_next : 0 < n → uses < length out → blocks_of line (low + 1) (drop after table) ≡ others (blocks_of line low (drop from table))
    then_next h g = let e = turned_all g in c.next (omega arith) g

module _
    (line : ℕ → List ℕ) (table : List ℕ) (at k : ℕ) (w : Window) (r : Walked) (out : List ℕ) (n : ℕ)
    (h : turns_of k (line (get_or table at 0)) ≡ Some n)
  where
    pub through_turns :
        at + 1 ≤ r.at → r.at ≤ length table
        → window r.skip r.used out ≡ notes w (times n (first (blocks_of line (k - 1) (drop (at + 1) table))))
        → (r.used < length out → blocks_of line (k - 1 + 1) (drop r.at table) ≡ others (blocks_of line (k - 1) (drop (at + 1) table)))
        → ThroughLine line table at k w r out
    through_turns a b c d =
        let p = opens_out line k (get_or table at 0) (drop (at + 1) table) n h in
        let l = opens_level k (line (get_or table at 0)) n h in
        let z : k ≡ k - 1 + 1 = omega arith in
        record {
          begun = a;
          within = b;
          noted = c ∙ ap (notes w) (sym p.0);
          next = λ g. ap (λ (j : ℕ). blocks_of line j (drop r.at table)) z ∙ d g ∙ sym p.1;
        }

-- ---- from the first line on

-- what a walk of the whole session shows
pub shown_by :
    {line : ℕ → List ℕ} {table : List ℕ} {from : ℕ} {l : List ℕ} {r : Walked} {seen : List ℕ}
    → ThroughBlock line table 0 4 (window from 0 l) r seen → Written l seen r.used (take (length l) (drop from (written_out line table)))
unfolding written_out
shown_by {line} {table} {from} {l} {r} {seen} w =
    let s : Shown from l (first (blocks_of line 4 table)) (window r.skip r.used seen) = rw w.noted (shows from l (first (blocks_of line 4 table))) in
    record { size = s.used; text = s.front; rest = s.beyond }

-- nothing fits where there is no room
pub none_shown : (l ps : List ℕ) → length l ≡ 0 → Written l l 0 (take (length l) ps)
none_shown l ps e = rw e (record { size = refl; text = refl; rest = refl })
