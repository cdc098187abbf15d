-- The number that is found for one reading is that of an equal one.
use Rattle.script_read.proofs.Common.{◌≡◌, ℤ, Option, Some, None, option_and_then, sym, ap, ◌∙◌, IfSome, Num, as_i64}

pub same_number : {a b : Option Num} (found : Option ℤ) → a ≡ b → IfSome found (λ n. option_and_then as_i64 a ≡ Some n) → IfSome found (λ n. option_and_then as_i64 b ≡ Some n)
same_number None e is = tt
same_number (Some n) e is = ap (option_and_then as_i64) (sym e) ∙ is
