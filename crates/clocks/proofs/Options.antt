-- What there is and what there is not, told apart.
use Rattle.std.specs.Prelude.{Option, None, Some, is_some, unwrap_or}
use mathlib.Core.Path.{◌≡◌, sym, ap}
use mathlib.Core.Bool.{true≢false}

pub none_some : {A : Type 0} (x : A) → None ≡ Some x → ⊥
none_some x e = true≢false (sym (ap is_some e))

pub same_some : {A : Type 0} (x y : A) → Some x ≡ Some y → x ≡ y
same_some x y e = ap (λ o. unwrap_or o x) e
