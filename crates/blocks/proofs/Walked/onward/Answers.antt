use mathlib.Core.Path.{sym, ◌∙◌}
use native.Mathlib.Omega.{arith}
use borrow.Author.Rules.{rules}
use Rattle.blocks.proofs.Windows.{never}
use Rattle.blocks.proofs.Copies.{copies_on, passes_on, least_fits}
use Rattle.blocks.proofs.Walked.onward.Goals as goal

pub returns-then-out-self : goal.returns-then-out-self
returns-then-out-self c = record { few = omega arith; place = search rules; noted = λ o h. sym (never _ o) }

pub returns-then-passed-eq0 : goal.returns-then-passed-eq0
returns-then-passed-eq0 c =
    let copy = c.again-used in
    let free = c.if-out-self.false in
    let zero = c.if-passed-eq0.true in
    let p = c.requires in
    record {
      few = omega arith;
      place = search rules;
      noted = λ o h. copies_on _ _ _ _ _ _ _ o (λ q. p.3 (omega arith)) (h.size free ∙ omega arith) (h.same free zero) copy.ensures;
    }

pub returns-then-noted-gt0 : goal.returns-then-noted-gt0
returns-then-noted-gt0 c = record { few = omega arith; place = search rules; noted = λ o h. sym (never _ o) }

pub overflow_mul-skip : goal.overflow_mul-skip
overflow_mul-skip c = let f = least_fits _ _ _ _ c.min-q.ensures in search (rules, f.1)

pub overflow_sub-skip : goal.overflow_sub-skip
overflow_sub-skip c = (least_fits _ _ _ _ c.min-q.ensures).1

pub returns : goal.returns
returns c =
    let f = least_fits _ _ _ _ c.min-q.ensures in
    let free = c.if-out-self.false in
    record {
      few = omega (arith, f.0, c.from.ensures);
      place = search rules;
      noted = λ o h. passes_on _ _ _ _ _ o (h.size free ∙ omega arith) f.1;
    }
