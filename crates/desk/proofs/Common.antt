-- Files of which one byte more than they may have is read.
use Rattle.std.{proofs.{Common.{◌≡◌, ◌+◌, ◌≤◌, ℕ, true, false, List, length, take, arith}, lemmas.Bool.Decides.{nat_tests}}, specs.Prelude.{nat_lt}}
use Rattle.std.proofs.lemmas.List.{length-take}
pub use Rattle.std.proofs.lemmas.List.{take_all}

pub short_file : (n m : ℕ) → nat_lt n m ≡ false → m ≤ n + 1
short_file n m e = grind (arith, nat_tests)

pub long_taken : (n : ℕ) (file : List ℕ) → nat_lt n (length file) ≡ true → nat_lt n (length (take (n + 1) file)) ≡ true
long_taken n file e = rw (length-take (n + 1) file) (grind (arith, nat_tests))
