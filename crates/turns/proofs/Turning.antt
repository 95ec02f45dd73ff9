-- What the end of the input, a piece, and a read that brings nothing come to.
use mathlib.Core.Path.{◌≡◌, refl, ap, ◌∙◌}
use mathlib.Core.Bool.{true, false}
use mathlib.Core.List.{List, [], ◌∷◌}
use Prim.Native.Nat.{ℕ, ◌+◌, ◌-◌, ◌<◌}
use native.Mathlib.Omega.{arith}
use lib.ListN.{length, take, drop, length-drop}
use lib.Seq.{length-take-le}
use Rattle.std.specs.Prelude.{Option, None, Some}
use Rattle.clocks.proofs.Lists.{drop_take}
use Rattle.lines.specs.Lines.{ended}
use Rattle.lines.specs.Keeps.{Keeps}
use Rattle.session.specs.Pieces.{Held, held, wrote, Feeds, Finishes}
use Rattle.session.specs.declared.Bench.{Bench}
use Rattle.session.specs.declared.Fed.{Fed}
use Rattle.session.proofs.Demands.{feed_and_keep}
use Rattle.turns.specs.Turns.{outcome, holding, brought, Fits, Takes}

-- nothing came, or the buffers do not fit
pub stays :
    (b : Bench) (kept : ℕ) (read : Option ℕ) (buf out : List ℕ) → (Fits kept read buf out → read ≡ None)
    → Takes b kept read buf out (record { bench = b; kept = kept; made = 0; more = false }) buf out
unfolding outcome brought
stays b kept read buf out n =
    record {
      fits = λ f.
          rw (n f)
          (record {
            holds = refl;
            within = omega (arith, f.0);
            beyond = refl;
            answers = record { size = refl; text = refl; rest = refl };
            more = refl;
          });
      misfits = λ m. (refl, refl, refl);
    }

-- the end
pub ends :
    (b : Bench) (buf out out' : List ℕ) (kept made : ℕ) → Fits kept (Some 0) buf out → Finishes b (take kept buf) out out' made
    → Takes b kept (Some 0) buf out (record { bench = b; kept = kept; made = made; more = false }) buf out'
unfolding outcome brought
ends b buf out out' kept made f g =
    record {
      fits = λ q.
          record {
            holds = refl;
            within = omega (arith, f.0);
            beyond = refl;
            answers = g.answered (omega (arith, f.1));
            more = refl;
          };
      misfits = λ n. absurd (n f);
    }

-- a piece
goes_on : (h : Held) (p : List ℕ) → 0 < length p → outcome h (Some p) ≡ record { holds = held h p; text = wrote h p; more = true }
unfolding outcome
goes_on h [] n = absurd (omega arith)
goes_on h (x ∷ p) n = refl

pub pieces :
    (b : Bench) (buf buf' out out' : List ℕ) (kept more k : ℕ) (fed : Fed) → 0 < more → Fits kept (Some more) buf out
    → Feeds b (ended [] (take (kept + more) buf)) out out' fed → Keeps buf buf' fed.used (kept + more) 33 k
    → Takes b kept (Some more) buf out (record { bench = fed.bench; kept = k; made = fed.made; more = true }) buf' out'
unfolding brought
pieces b buf buf' out out' kept more k fed some f g h =
    let p = feed_and_keep b buf buf' out out' kept (kept + more) k fed (omega arith) f.0 f.1 g h in
    let m : kept + more - kept ≡ more = omega arith in
    let e : drop kept (take (kept + more) buf) ≡ take more (drop kept buf) =
    drop_take kept (kept + more) buf ∙ ap (λ (n : ℕ). take n (drop kept buf)) m in
    let size : length (take more (drop kept buf)) ≡ more =
    length-take-le more (drop kept buf) (rw (length-drop kept buf) (omega (arith, f.0))) in
    record {
      fits = λ q.
          rw (goes_on (holding b (take kept buf)) (take more (drop kept buf)) (omega (arith, size)))
          (record {
            holds = rw (← e) p.next;
            within = p.within;
            beyond = p.beyond;
            answers = rw (← e) p.answers;
            more = refl;
          });
      misfits = λ n. absurd (n f);
    }
