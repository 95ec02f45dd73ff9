-- What the turns do to an input whose bytes are known, and to an output that is known to hold some.
use mathlib.Core.Path.{◌≡◌, refl, ap, sym, ◌∙◌, subst}
use mathlib.Core.Bool.{Bool, true, false≢true}
use mathlib.Core.List.{List, [], ◌∷◌, ◌++◌, append-nil, append_assoc}
use Prim.Native.Nat.{ℕ, ◌+◌, ◌<◌, ◌≤◌}
use native.Mathlib.Omega.{arith}
use lib.ListN.{length, take, length-append}
use lib.Seq.{length-take-le}
use borrow.Rule.Slice.PartMut.{put_mid}
use Rattle.std.proofs.KnownBytes.{Consumes-nil, Appends-nil, Consumes-trans, Consumes-whole, Appends-trans}
use Rattle.std.specs.Prelude.{Option, None, Some, IfSome}
use Rattle.std.specs.Io.KnownBytes.{Appends, Consumes}
use Rattle.pipes.proofs.Behind.{behind}
use Rattle.pipes.specs.Pipes.{Took}
use Rattle.lines.specs.Lines.{joined, last_line}
use Rattle.session.specs.Steps.{power_up}
use Rattle.session.specs.declared.Bench.{Bench}
use Rattle.session.specs.Pieces.{Held, at_start, held, wrote, written_for}
use Rattle.session.specs.Sessions.{says_all, session}
use Rattle.session.proofs.Demands.{any_cut}
use Rattle.turns.specs.Turns.{Came, outcome, holding, brought, Shows, held_after}
use Rattle.turns.specs.declared.Went.{Went}
use Rattle.turns.proofs.Demands.{held_more}
use Rattle.bench.specs.Streams.{Brought, Streams}
use Rattle.bench.specs.declared.Turn.{Turn}

-- ---- one read

none : (n : ℕ) (ys : List ℕ) → n ≤ length ys → take n ys ≡ [] → n ≡ 0
none n ys h e = omega (arith, length-take-le n ys h, ap length e)

module _ (kept n : ℕ) (xs ys : List ℕ) (h : kept ≤ length xs) (some : 0 < length ys) (input input' : Option (List ℕ)) where
  pub brings :
      (read : Option ℕ) → IfSome read (λ k. k ≤ length ys) → Took input input' read ys
      → Brought input input' (brought read kept (put_mid kept n xs ys))
      × (read ≡ Some 0 → brought read kept (put_mid kept n xs ys) ≡ Some [])
  unfolding brought
  brings None w t = (t, λ q. cc)
  brings (Some k) w t =
      rw (behind kept n k xs ys h w) ((t.0, λ q. t.1 (none k ys w q) some), λ q. let z : k ≡ 0 = cc in rw z refl)

pub streams :
    (h : Held) (c : Came) {b out : List ℕ} {w : Went} {buf' out' : List ℕ} → Shows (outcome h c) b out w buf' out'
    → {input input' output output' : Option (List ℕ)} (read : Option ℕ) (written : Bool)
    → Brought input input' c × (read ≡ Some 0 → c ≡ Some []) → (written ≡ true → Appends output output' (take w.made out'))
    → Streams h input input' output output' (record { read = read; went = w; written = written }) buf'
streams h c s {input} {input'} {output} {output'} read written b a =
    record {
      came = c;
      brought = b.0;
      holds = s.holds;
      more = s.more;
      ended = b.1;
      answers = λ q. subst (Appends output output') s.answers.text (a q);
    }

-- ---- read after read

joined_more : (ps : List (List ℕ)) (p : List ℕ) → joined (ps ++ p ∷ []) ≡ joined ps ++ p
joined_more [] p = append-nil p
joined_more (q ∷ ps) p = ap (λ (u : List ℕ). q ++ u) (joined_more ps p) ∙ sym (append_assoc q (joined ps) p)

-- what is written before the input ends
abbrev pub so_far : Held → List (List ℕ) → List ℕ
so_far h [] = []
so_far h (p ∷ ps) = wrote h p ++ so_far (held h p) ps

so_far_more : (h : Held) (ps : List (List ℕ)) (p : List ℕ) → so_far h (ps ++ p ∷ []) ≡ so_far h ps ++ wrote (held_after h ps) p
so_far_more h [] p = append-nil (wrote h p)
so_far_more h (q ∷ ps) p =
    ap (λ (u : List ℕ). wrote h q ++ u) (so_far_more (held h q) ps p)
    ∙ sym (append_assoc (wrote h q) (so_far (held h q) ps) (wrote (held_after (held h q) ps) p))

abbrev pub at_last : Held → List ℕ
at_last h = says_all h.bench (last_line h.kept)

so_far_all : (h : Held) (ps : List (List ℕ)) → so_far h ps ++ at_last (held_after h ps) ≡ written_for h ps
so_far_all h [] = refl
so_far_all h (p ∷ ps) =
    append_assoc (wrote h p) (so_far (held h p) ps) (at_last (held_after (held h p) ps))
    ∙ ap (λ (u : List ℕ). wrote h p ++ u) (so_far_all (held h p) ps)

-- ---- turn after turn

-- what has come off the input, a byte at least for each turn, and the answers that the output has grown by
pub record Open (input input' output output' : Option (List ℕ)) (h : Held) (turns : ℕ) : Type 0 where
  pub pieces : List (List ℕ)
  pub reached : h ≡ held_after at_start pieces
  pub came : Consumes input input' (joined pieces)
  pub said : Appends output output' (so_far at_start pieces)
  pub filled : turns ≤ length (joined pieces)

after_piece :
    (h : Held) (c : Came) → (outcome h c).more ≡ true
    → (p : List ℕ) × (c ≡ Some p) × ((outcome h c).holds ≡ held h p) × ((outcome h c).text ≡ wrote h p) × (0 < length p)
unfolding outcome
after_piece h None e = absurd (false≢true e)
after_piece h (Some []) e = absurd (false≢true e)
after_piece h (Some (x ∷ p)) e = (x ∷ p, refl, refl, refl, omega arith)

last_text : (h : Held) → (outcome h (Some [])).text ≡ at_last h
unfolding outcome
last_text h = refl

module _ {input input' input'' output output' output'' : Option (List ℕ)} {h : Held} {n : ℕ} (o : Open input input' output output' h n) where
  module _ (t : Turn) {buf' : List ℕ} (s : Streams h input' input'' output' output'' t buf') where
    pub on :
        t.went.more ≡ true → t.written ≡ true
        → Open input input'' output output'' (holding t.went.bench (take t.went.kept buf')) (n + 1)
    on m w =
        let q = after_piece h s.came (sym s.more ∙ m) in
        let p = q.0 in
        let b : Brought input' input'' (Some p) = subst (Brought input' input'') q.1 s.brought in
        let a : Appends output' output'' (wrote (held_after at_start o.pieces) p) =
        subst (Appends output' output'') (q.3 ∙ ap (λ (x : Held). wrote x p) o.reached) (s.answers w) in
        record {
          pieces = o.pieces ++ p ∷ [];
          reached = s.holds ∙ q.2 ∙ ap (λ (x : Held). held x p) o.reached ∙ sym (held_more at_start o.pieces p);
          came = subst (Consumes input input'') (sym (joined_more o.pieces p)) (Consumes-trans input input' input'' (joined o.pieces) p o.came b.0);
          said = subst (Appends output output'') (sym (so_far_more at_start o.pieces p)) (Appends-trans output output' output'' _ _ o.said a);
          filled = rw (joined_more o.pieces p, length-append (joined o.pieces) p) (omega (arith, o.filled, q.4));
        }

    pub done : t.read ≡ Some 0 → t.written ≡ true → IfSome input (λ s. Appends output output'' (session s))
    done r w =
        let c = s.ended r in
        let b : Brought input' input'' (Some []) = subst (Brought input' input'') c s.brought in
        let came : Consumes input input'' (joined o.pieces) =
        subst (Consumes input input'') (append-nil (joined o.pieces)) (Consumes-trans input input' input'' (joined o.pieces) [] o.came b.0) in
        let e : (outcome h s.came).text ≡ at_last (held_after at_start o.pieces) =
        ap (λ (x : Came). (outcome h x).text) c ∙ last_text h ∙ ap at_last o.reached in
        let a : Appends output output'' (so_far at_start o.pieces ++ at_last (held_after at_start o.pieces)) =
        Appends-trans output output' output'' _ _ o.said (subst (Appends output' output'') e (s.answers w)) in
        Consumes-whole input input'' (joined o.pieces) (λ s. Appends output output'' (session s)) came (b.1 refl)
        (subst (Appends output output'') (so_far_all at_start o.pieces ∙ any_cut o.pieces) a)

-- the input had a byte at least for each turn
pub long_enough :
    (input input' : Option (List ℕ)) {output output' : Option (List ℕ)} {h : Held} {turns : ℕ} → Open input input' output output' h turns
    → IfSome input (λ s. turns ≤ length s)
long_enough None input' o = tt
long_enough (Some s) None o = absurd o.came
long_enough (Some s) (Some ys) o = omega (arith, o.filled, ap length o.came, length-append (joined o.pieces) ys)

pub open_start :
    (input output : Option (List ℕ)) (b : Bench) → b ≡ power_up → Open input input output output (holding b []) 0
open_start input output b e =
    record {
      pieces = [];
      reached = ap (λ (b : Bench). holding b []) e;
      came = Consumes-nil input;
      said = Appends-nil output;
      filled = omega arith;
    }
