use mathlib.Core.Path.{◌≡◌, refl, ◌∙◌}
use Prim.Native.Nat.{ℕ, ◌-◌}
use native.Mathlib.Omega.{arith}
use lib.ListN.{length}
use borrow.Rule.Slice.PartMut.{same_len_mid, put_mid}
use Rattle.pipes.proofs.Behind.{front}
use Rattle.bench.proofs.Turning.{part, fits, shown, turned}
use Rattle.bench.proofs.Streaming.{brings, streams}
use Rattle.bench.proofs.one_turn.Goals as goal

pub returns : goal.returns
returns g c =
    let a = c.args in
    let n = length a.buf.now - a.kept in
    let r = c.read-read in
    let b = put_mid a.kept n a.buf.now r.new.space in
    let e = front a.kept n a.buf.now r.new.space c.requires.0 in
    let l = same_len_mid {X = ℕ} a.kept n a.buf.now r.new.space r.auto.space in
    let y : length r.new.space ≡ n = r.auto.space ∙ part a.kept n a.buf.now refl in
    let f = fits r.result a.kept r.new.space b a.out.now r.ensures.within (omega (arith, l, y, c.requires.0)) (omega (arith, l, c.requires.1)) in
    let i : c.write-written.new.self.input ≡ r.new.self.input = cc in
    let o : r.new.self.output ≡ a.pipes.now.output = cc in
    record {
      turned = turned _ _ _ r.result _ _ _ _ c.taken-went.result c.write-written.result e f c.taken-went.ensures;
      streams = λ some. rw (i, ← o)
          (streams _ _ (shown _ _ _ r.result _ _ _ _ c.taken-went.result e f c.taken-went.ensures) r.result c.write-written.result
          (brings a.kept n a.buf.now r.new.space c.requires.0 (omega arith) _ _ r.result r.ensures.within r.ensures.bytes)
          c.write-written.ensures.bytes);
    }
