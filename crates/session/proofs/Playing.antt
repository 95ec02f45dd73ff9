-- The loop over the lines at some places: the one over the lines of an input, with room for every answer.
use mathlib.Core.Path.{◌≡◌, refl, ap, ◌∙◌}
use mathlib.Core.List.{List, ◌∷◌}
use Prim.Native.Nat.{ℕ, ◌+◌, ◌*◌, ◌/◌, ◌<◌, ◌≤◌}
use native.Mathlib.Numerals.{add-one}
use native.Mathlib.Omega.{arith}
use lib.ListN.{length, get_or, drop, drop_of_length-le}
use lib.Seq.{drop-cons}
use Rattle.lines.specs.Places.{line_at, lines_at}
use Rattle.lines.proofs.Places.{lines_length}
use Rattle.frames.specs.Frames.{frame_of}
use Rattle.replies.specs.Replies.{render, Put}
use Rattle.replies.specs.declared.Reply.{Reply}
use Rattle.replies.proofs.Demands.{replies_fit}
use Rattle.session.specs.Steps.{step_of}
use Rattle.session.specs.Pieces.{Taken, Feeds, Plays}
use Rattle.session.specs.declared.Bench.{Bench}
use Rattle.session.specs.declared.Fed.{Fed}
use Rattle.session.specs.declared.Stepped.{Stepped}
use Rattle.session.proofs.Feeding.{Going, going_start, going_line, going_end}
use Rattle.session.proofs.Taking.{takes_each}

-- as that loop goes, with room for the answers of all lines that are left; how many bytes the others were does not matter
pub record Playing (b₀ : Bench) (ls : List (List ℕ)) (out₀ out : List ℕ) (b : Bench) (made : ℕ) (left : List (List ℕ)) : Type 0 where
  pub used : ℕ
  pub going : Going b₀ ls out₀ out b used made left
  pub room : made + 13 * length left ≤ length out

module _ (s ps : List ℕ) where
  pub playing_none : (b : Bench) (out : List ℕ) → length out / 13 < length ps → Plays b (lines_at s ps) out out (record { bench = b; made = 0 })
  playing_none b out h =
      let n = lines_length s ps in
      record { fits = λ k. absurd (omega arith); short = λ k. (refl, refl, refl) }

  pub playing_start : (b : Bench) (out : List ℕ) → length ps ≤ length out / 13 → Playing b (lines_at s ps) out out b 0 (lines_at s ps)
  playing_start b out h =
      let n = lines_length s ps in
      record { used = 0; going = going_start b (lines_at s ps) out; room = omega arith }

  module _ {b₀ : Bench} {out₀ out : List ℕ} {b : Bench} {i made : ℕ} (g : Playing b₀ (lines_at s ps) out₀ out b made (lines_at s (drop i ps))) where
    pub playing_line :
        {b' : Bench} {y : Reply} {out' : List ℕ} {made' : ℕ} → i < length ps
        → ◌≡◌ {A = Stepped} (record { bench = b'; reply = y }) (step_of b (frame_of (line_at s (get_or ps i 0))))
        → length out' ≡ length out → Put out out' made made' (render y)
        → Playing b₀ (lines_at s ps) out₀ out' b' made' (lines_at s (drop (i + 1) ps))
    playing_line {b'} {y} {out'} {made'} h e z put =
        let l = line_at s (get_or ps i 0) in
        let more = lines_at s (drop (i + 1) ps) in
        let parts : lines_at s (drop i ps) ≡ l ∷ more = rw (add-one i, drop-cons ps i 0 h) in
        let room : made + 13 * length (l ∷ more) ≤ length out = rw (ap length parts) at g.room in
        record {
          used = g.used + (length l + 1);
          going = going_line g.going l more (record { bench = b'; reply = y }) out' _ made' parts refl (omega arith) e z put;
          room = omega (arith, z, (put.fits (omega arith)).place, replies_fit y);
        }

    pub playing_end : length ps ≤ i → Feeds b₀ (lines_at s ps) out₀ out (record { bench = b; used = g.used; made = made })
    playing_end h = going_end g.going (ap (lines_at s) (drop_of_length-le ps h))

  -- where there is room for every answer, what is taken is all
  pub played :
      {b : Bench} {out out' : List ℕ} {r : Fed} → length ps ≤ length out / 13 → Feeds b (lines_at s ps) out out' r
      → Plays b (lines_at s ps) out out' (record { bench = r.bench; made = r.made })
  played {b} {out} h f =
      let n = lines_length s ps in
      let e = takes_each (lines_at s ps) (length out) b (omega arith) in
      record {
        fits = λ k. (f.bench ∙ ap (λ (t : Taken). t.bench) e, rw (ap (λ (t : Taken). t.text) e) at f.out);
        short = λ k. absurd (omega arith);
      }
