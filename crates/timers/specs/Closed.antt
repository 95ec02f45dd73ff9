-- What the code computes in place of single clocks. No promise of a public function rests on it: proofs/ shows that the clocks lead there.
use Rattle.std.specs.Prelude.{ℕ, suc, ◌+◌, true, not, ◌&&◌, ◌||◌, ◌==◌, if◌then◌else◌}
use Rattle.clocks.specs.Clocks.{after}
use Rattle.timers.specs.First.{at}
use Rattle.timers.specs.declared.T1.{T1}

-- how many counts T1 is above zero; a reload to come is one more than the latch
abbrev pub top_of : T1 → ℕ
top_of t = if t.mark then t.latch + 1 else t.counter

-- the clocks from one passing of zero to the next: the reload, as many counts as the latch says, the passing
abbrev pub period_of : T1 → ℕ
period_of t = t.latch + 2

-- T1 after a passing of zero and q more
abbrev pub turned : ℕ → T1 → T1
turned q t =
    record {
      counter = 65535;
      latch = t.latch;
      armed = t.free && t.armed;
      mark = true;
      level = if t.free then after (suc q) not t.level else t.armed || t.level;
      flag = t.free || t.armed || t.flag;
      free = t.free;
    }

-- T1 at k counts above zero, no passing between
abbrev pub fallen : ℕ → T1 → T1
fallen k t = if k == top_of t then t else at k t
