-- Feeding a buffer whose front is what is held, and keeping its rest, is one piece of a file.
use mathlib.Core.Path.{◌≡◌, ap, ◌∙◌}
use mathlib.Core.List.{List, [], ◌++◌}
use Prim.Native.Nat.{ℕ, ◌+◌, ◌*◌, ◌≤◌}
use native.Mathlib.Omega.{arith}
use lib.ListN.{length, take, drop, length-take, length-drop, take-append-drop}
use lib.Seq.{take-take, length-take-le}
use Rattle.lines.specs.Lines.{ended, open_line}
use Rattle.lines.specs.Keeps.{Keeps}
use Rattle.session.specs.Sessions.{next_all, says_all}
use Rattle.session.specs.Pieces.{takes, Feeds, Piece}
use Rattle.session.specs.declared.Bench.{Bench}
use Rattle.session.specs.declared.Fed.{Fed}
use Rattle.session.proofs.Taking.{room_for_all, used_within}
use Rattle.session.specs.Demands

module _ (b : Bench) (buf buf' out out' : List ℕ) (kept n k : ℕ) (fed : Fed)
    (h : kept ≤ n) (l : n ≤ length buf) (room : 3 * length buf + 13 ≤ length out)
    (f : Feeds b (ended [] (take n buf)) out out' fed) (g : Keeps buf buf' fed.used n 33 k) where
  size : length (take n buf) ≡ n
  size = length-take-le n buf l

  all : ((takes (length out) b (ended [] (take n buf))).text ≡ says_all b (ended [] (take n buf)))
      × ((takes (length out) b (ended [] (take n buf))).bench ≡ next_all b (ended [] (take n buf)))
      × (drop (takes (length out) b (ended [] (take n buf))).used (take n buf) ≡ open_line [] (take n buf))
  all = room_for_all (length out) b (take n buf) (omega (arith, size))

  within : fed.used ≤ n
  within = omega (arith, f.used, size, used_within (length out) b (take n buf))

  pieced : Piece b buf buf' out out' kept n k fed
  pieced =
      let m = g.moved within l in
      let j : take kept buf ++ drop kept (take n buf) ≡ take n buf =
      rw (← take-take kept n buf h) (take-append-drop kept (take n buf)) in
      let o : take k buf' ≡ take 33 (open_line [] (take n buf)) =
      m.1 ∙ ap (λ (u : ℕ). take 33 (drop u (take n buf))) f.used ∙ ap (take 33) all.2 in
      let left = length-drop fed.used (take n buf) in
      let kept-size : length (take k buf') ≡ k =
      ap length m.1 ∙ length-take 33 (drop fed.used (take n buf)) ∙ omega (arith, m.0, left, size) in
      record {
        next = rw j (λ i. record { bench = (f.bench ∙ all.1) i; kept = o i });
        within = omega (arith, kept-size, length-take k buf');
        beyond = m.2;
        answers = rw (j, ← all.0) f.out;
      }

pub feed_and_keep : Demands.FeedAndKeep
feed_and_keep b buf buf' out out' kept n k fed h l room f g = pieced b buf buf' out out' kept n k fed h l room f g
