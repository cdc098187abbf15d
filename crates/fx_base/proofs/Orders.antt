-- Lemmas on numbers, their tests and their orders that the standard library lacks.
use Rattle.std.proofs.Common.{◌≡◌, ℕ, ◌+◌, ◌<◌, ◌==◌, ◌⊎◌, ℤ, ◌≤ℤ◌, ◌<ℤ◌, int_lt, int_le, Bool, true, false, cond, ◌&&◌, nat_eq, refl, arith}
use Rattle.std.{proofs.lemmas.{Bool.{eq-eqb, Decides.{nat_tests}}, Int.{ints}}, specs.{Cmp.{eq_by_cmp_equiv, nat_cmp_total}, Ordering.{nat_cmp, int_eq}}}
use Rattle.std.specs.{Ordering.{eq_by_cmp, ordering_then, is_eq}, declared.cmp.Ordering.{Ordering, TheVariants.{Less, Equal, Greater}}}

pub ≤ℤ_trans : (a b c : ℤ) → a ≤ℤ b → b ≤ℤ c → a ≤ℤ c
≤ℤ_trans a b c h k = omega (arith, ints)

pub ≤ℤ_antisym : (a b : ℤ) → a ≤ℤ b → b ≤ℤ a → a ≡ b
≤ℤ_antisym a b h k = omega (arith, ints)

pub ≤ℤ_same : (a b : ℤ) → b ≡ a → a ≤ℤ b
≤ℤ_same a b e = grind (arith, ints)

pub int_le-true : (a b : ℤ) → int_le a b ≡ true → a ≤ℤ b
int_le-true a b e = grind (arith, ints)

pub le-int_le : (a b : ℤ) → a ≤ℤ b → int_le a b ≡ true
le-int_le a b h = grind (arith, ints)

pub int_lt-true : (a b : ℤ) → int_lt a b ≡ true → a <ℤ b
int_lt-true a b h = grind (arith, ints)

pub lt-int_lt : (a b : ℤ) → a <ℤ b → int_lt a b ≡ true
lt-int_lt a b h = grind (arith, ints)

pub int_lt-false : (a b : ℤ) → int_lt a b ≡ false → b ≤ℤ a
int_lt-false a b e = grind (arith, ints)

pub int_lt-flip : (a b : ℤ) → int_lt a b ≡ true → int_lt b a ≡ false
int_lt-flip a b e = grind (arith, ints)

pub int_lt-le : (a b c : ℤ) → int_lt a b ≡ false → c ≤ℤ b → int_lt a c ≡ false
int_lt-le a b c e h = grind (arith, ints)

pub int_eq-true : (a b : ℤ) → int_eq a b ≡ true → a ≡ b
int_eq-true a b e = grind (arith, ints)

pub int_eq-self : (v : ℤ) → int_eq v v ≡ true
int_eq-self v = grind (arith, ints)

pub zero_add : (k : ℕ) → 0 + k ≡ k
zero_add k = omega arith

pub below_or_last : (k i : ℕ) → k < i + 1 → (k < i) ⊎ (k ≡ i)
below_or_last k i h = grind arith

pub eqb-self : (n : ℕ) → nat_eq n n ≡ true
eqb-self n = eq-eqb n n refl

pub eqb-flip : (a b : ℕ) → (a == b) ≡ (b == a)
eqb-flip a b = grind (arith, nat_tests)

pub nat_cmp-Less : (m n : ℕ) → nat_cmp m n ≡ Less → m < n
nat_cmp-Less m n e = grind (arith, nat_tests)

pub lt-nat_cmp : (m n : ℕ) → m < n → nat_cmp m n ≡ Less
lt-nat_cmp m n h = grind arith

pub eq_by_nat_cmp : (a b : ℕ) → eq_by_cmp nat_cmp a b ≡ (a == b)
eq_by_nat_cmp a b = grind (arith, nat_tests)

pub eq_by_nat_cmp-turned : (a b : ℕ) → eq_by_cmp nat_cmp a b ≡ (b == a)
eq_by_nat_cmp-turned a b = grind (arith, nat_tests)

pub eq_by_nat_cmp-flip : (a b : ℕ) → eq_by_cmp nat_cmp a b ≡ eq_by_cmp nat_cmp b a
eq_by_nat_cmp-flip a b = grind (arith, nat_tests)

pub eq_by_nat_cmp-self : (a : ℕ) → eq_by_cmp nat_cmp a a ≡ true
eq_by_nat_cmp-self = (eq_by_cmp_equiv nat_cmp_total).refl

pub eq_by_nat_cmp-true : (a b : ℕ) → eq_by_cmp nat_cmp a b ≡ true → a ≡ b
eq_by_nat_cmp-true a b e = grind (arith, nat_tests)

pub is_eq-true : (o : Ordering) → is_eq o ≡ true → o ≡ Equal
is_eq-true Less e = cc
is_eq-true Equal e = refl
is_eq-true Greater e = cc

pub is_eq-then : (o p : Ordering) → is_eq (ordering_then o p) ≡ (is_eq o && is_eq p)
is_eq-then Less p = refl
is_eq-then Equal p = refl
is_eq-then Greater p = refl

-- what an entry under a pair of keys says, when one by the second key is put in
pub then-put : (first second : Ordering) (held : Bool) → (second ≡ Equal → held ≡ false)
    → cond (is_eq (ordering_then first second)) true held ≡ cond (is_eq second) (is_eq first) held
then-put Less Less held none = refl
then-put Less Equal held none = none refl
then-put Less Greater held none = refl
then-put Equal Less held none = refl
then-put Equal Equal held none = refl
then-put Equal Greater held none = refl
then-put Greater Less held none = refl
then-put Greater Equal held none = none refl
then-put Greater Greater held none = refl

-- and when it is taken out
pub then-taken : (first second : Ordering) (held : Bool) → (second ≡ Equal → held ≡ is_eq first)
    → cond (is_eq (ordering_then first second)) false held ≡ cond (is_eq second) false held
then-taken Less Less held one = refl
then-taken Less Equal held one = one refl
then-taken Less Greater held one = refl
then-taken Equal Less held one = refl
then-taken Equal Equal held one = refl
then-taken Equal Greater held one = refl
then-taken Greater Less held one = refl
then-taken Greater Equal held one = one refl
then-taken Greater Greater held one = refl
