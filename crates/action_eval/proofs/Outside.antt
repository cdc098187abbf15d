-- A whole number is outside 64 bits exactly where it does not fit them.
use Rattle.std.proofs.{Common.{◌≡◌, ◌^◌, ◌<◌, true, false, ℤ, pos, negsuc, FitsSigned, w64, arith, ⊎_elim}, lemmas.{Int.{ints}, Bool.{cases_Bool}}}
use Rattle.{std.proofs.lemmas.Bool.Decides.{nat_tests}, rule_model.specs.Numbers.{is_outside}}

pub inside : (n : ℤ) → FitsSigned w64 n → is_outside n ≡ false
unfolding is_outside
inside (pos n) fits = let low : n < 2 ^ 63 = omega (arith, ints) in grind (arith, nat_tests)
inside (negsuc n) fits = let low : n < 2 ^ 63 = omega (arith, ints) in grind (arith, nat_tests)

fits : (n : ℤ) → is_outside n ≡ false → FitsSigned w64 n
unfolding is_outside
fits (pos n) h = let low : n < 2 ^ 63 = grind (arith, nat_tests) in omega (arith, ints)
fits (negsuc n) h = let low : n < 2 ^ 63 = grind (arith, nat_tests) in omega (arith, ints)

pub outside : (n : ℤ) → (FitsSigned w64 n → ⊥) → is_outside n ≡ true
outside n misfits = ⊎_elim (λ (h : is_outside n ≡ true). h) (λ (h : is_outside n ≡ false). absurd (misfits (fits n h))) (cases_Bool (is_outside n))
