-- A list of numbers up to its order: how often each number stands in it, and the same numbers in rising order.
use Rattle.std.specs.{Prelude.{ℕ, ℤ, int_lt, count_by, List, [], ◌∷◌, if◌then◌else◌}, Ordering.{int_eq}}

-- how often a number stands in a list
unfoldable pub times : ℤ → List ℤ → ℕ
times v xs = count_by (int_eq v) xs

-- one more number, in front of the first that is not below it
abbrev pub insert_rising : ℤ → List ℤ → List ℤ
insert_rising v [] = v ∷ []
insert_rising v (x ∷ xs) = if int_lt x v then x ∷ insert_rising v xs else (v ∷ (x ∷ xs))

-- the numbers of a list in rising order, each as often as the list has it
abbrev pub in_rising_order : List ℤ → List ℤ
in_rising_order [] = []
in_rising_order (x ∷ xs) = insert_rising x (in_rising_order xs)
