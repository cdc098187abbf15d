-- The results do not depend on the order of the values.
use Rattle.fold_fn.proofs.Common.{◌≡◌, ◌+◌, ℤ, ◌+ℤ◌, List, [], ◌∷◌, length, Option, Some, None, refl, sym, ap, ◌∙◌, arith, ints, clamps, insert_rising}
use Rattle.fold_fn.proofs.Common.{in_rising_order, total, least_of, greatest_of, least, greatest, fold_result, HaveSame}
use Rattle.fold_fn.{specs.declared.kind.FoldKind.{FoldKind, TheVariants.{Count, Sum, Least, Greatest, Average}}, proofs.Rising.{rising_same}}

sum_swap : (a b c : ℤ) → a +ℤ (b +ℤ c) ≡ b +ℤ (a +ℤ c)
sum_swap a b c = omega (arith, ints)

pub total-insert : (v : ℤ) (xs : List ℤ) → total (insert_rising v xs) ≡ v +ℤ total xs
total-insert v [] = refl
total-insert v (x ∷ xs) = grind (arith, sum_swap, total-insert v xs)

pub total-rising : (xs : List ℤ) → total (in_rising_order xs) ≡ total xs
total-rising [] = refl
total-rising (x ∷ xs) = grind (arith, total-insert, total-rising xs)

pub length-insert : (v : ℤ) (xs : List ℤ) → length (insert_rising v xs) ≡ length xs + 1
length-insert v [] = refl
length-insert v (x ∷ xs) = grind (arith, length-insert v xs)

pub length-rising : (xs : List ℤ) → length (in_rising_order xs) ≡ length xs
length-rising [] = refl
length-rising (x ∷ xs) = grind (arith, length-insert, length-rising xs)

least_swap : (v x : ℤ) (o : Option ℤ) → least_of v (Some (least_of x o)) ≡ least_of x (Some (least_of v o))
least_swap v x None = omega (arith, ints, clamps)
least_swap v x (Some y) = omega (arith, ints, clamps)

pub least-insert : (v : ℤ) (xs : List ℤ) → least (insert_rising v xs) ≡ least (v ∷ xs)
least-insert v [] = refl
least-insert v (x ∷ xs) = grind (arith, least_swap, least-insert v xs)

pub least-rising : (xs : List ℤ) → least (in_rising_order xs) ≡ least xs
least-rising [] = refl
least-rising (x ∷ xs) = grind (arith, least-insert, least-rising xs)

greatest_swap : (v x : ℤ) (o : Option ℤ) → greatest_of v (Some (greatest_of x o)) ≡ greatest_of x (Some (greatest_of v o))
greatest_swap v x None = omega (arith, ints, clamps)
greatest_swap v x (Some y) = omega (arith, ints, clamps)

pub greatest-insert : (v : ℤ) (xs : List ℤ) → greatest (insert_rising v xs) ≡ greatest (v ∷ xs)
greatest-insert v [] = refl
greatest-insert v (x ∷ xs) = grind (arith, greatest_swap, greatest-insert v xs)

pub greatest-rising : (xs : List ℤ) → greatest (in_rising_order xs) ≡ greatest xs
greatest-rising [] = refl
greatest-rising (x ∷ xs) = grind (arith, greatest-insert, greatest-rising xs)

pub result-rising : (kind : FoldKind) (xs : List ℤ) → fold_result kind (in_rising_order xs) ≡ fold_result kind xs
result-rising Count xs = rw (length-rising xs)
result-rising Sum xs = rw (total-rising xs)
result-rising Least xs = least-rising xs
result-rising Greatest xs = greatest-rising xs
result-rising Average xs = rw (total-rising xs, length-rising xs)

pub result_same : (kind : FoldKind) (xs ys : List ℤ) → HaveSame xs ys → fold_result kind xs ≡ fold_result kind ys
result_same kind xs ys h = sym (result-rising kind xs) ∙ (ap (fold_result kind) (rising_same xs ys h) ∙ result-rising kind ys)
