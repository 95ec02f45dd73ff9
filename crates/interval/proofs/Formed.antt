-- What the test of a well-formed timer says.
use Rattle.std.proofs.Common.{◌≡◌, ℕ, ◌≤◌, Bool, true, arith}
use Rattle.std.proofs.lemmas.Bool.Decides.{nat_tests}
use Rattle.interval.specs.Timer.{is_divider, well_timed}
use Rattle.interval.specs.declared.Timer.{Timer}

-- of the divider d, the prescaler p and the expired mark e
pub record Formed (d p : ℕ) (e : Bool) : Type 0 where
  pub divider : is_divider d ≡ true
  pub most : d ≤ 1024
  pub low : 1 ≤ p
  pub high : p ≤ d
  pub last : e ≡ true → p ≡ 1

pub formed : (t : Timer) → well_timed t ≡ true → Formed t.divider t.prescaler t.expired
formed t w =
    record {
      divider = grind (arith, nat_tests);
      most = grind (arith, nat_tests);
      low = grind (arith, nat_tests);
      high = grind (arith, nat_tests);
      last = λ e. grind (arith, nat_tests);
    }
