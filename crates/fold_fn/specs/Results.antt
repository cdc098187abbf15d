-- What each accumulate function gives of a list of numbers.
use Rattle.std.specs.{Prelude.{ℕ, ◌/◌, ◌^◌, ◌==◌, ℤ, pos, negsuc, ◌+ℤ◌, nat_lt, List, [], ◌∷◌, length, Option, Some, None, if◌then◌else◌}, Int.{int_min}}
use Rattle.std.specs.Int.{int_max}
use Rattle.fold_fn.specs.declared.kind.FoldKind.{FoldKind, TheVariants.{Count, Sum, Least, Greatest, Average}}

-- the sum, without a limit of size
abbrev pub total : List ℤ → ℤ
total [] = pos 0
total (x ∷ xs) = x +ℤ total xs

-- a number that fits 64 bits with sign, and else nothing
abbrev pub in_64_bits : ℤ → Option ℤ
in_64_bits (pos n) = if nat_lt n (2 ^ 63) then Some (pos n) else None
in_64_bits (negsuc n) = if nat_lt n (2 ^ 63) then Some (negsuc n) else None

-- the least of a number and of what may be another
abbrev pub least_of : ℤ → Option ℤ → ℤ
least_of x None = x
least_of x (Some y) = int_min x y

abbrev pub greatest_of : ℤ → Option ℤ → ℤ
greatest_of x None = x
greatest_of x (Some y) = int_max x y

-- the least and the greatest number of a list
abbrev pub least : List ℤ → Option ℤ
least [] = None
least (x ∷ xs) = Some (least_of x (least xs))

abbrev pub greatest : List ℤ → Option ℤ
greatest [] = None
greatest (x ∷ xs) = Some (greatest_of x (greatest xs))

-- the exact quotient, rounded down: -3 / 2 gives -2
abbrev pub floor_quotient : ℤ → ℕ → ℤ
floor_quotient (pos a) n = pos (a / n)
floor_quotient (negsuc a) n = negsuc (a / n)

abbrev pub average : List ℤ → Option ℤ
average xs = if length xs == 0 then None else Some (floor_quotient (total xs) (length xs))

abbrev pub fold_result : FoldKind → List ℤ → Option ℤ
fold_result Count xs = Some (pos (length xs))
fold_result Sum xs = in_64_bits (total xs)
fold_result Least xs = least xs
fold_result Greatest xs = greatest xs
fold_result Average xs = average xs
