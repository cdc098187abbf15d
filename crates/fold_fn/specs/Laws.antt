-- What holds of the results of all lists.
use Rattle.std.specs.{Prelude.{◌≡◌, ℕ, ◌<◌, ℤ, pos, ◌+ℤ◌, ◌*ℤ◌, ◌≤ℤ◌, ◌<ℤ◌, List, Some, All, Contains, IsSorted}, Ordering.{int_cmp}}
use Rattle.fold_fn.specs.{declared.kind.FoldKind.{FoldKind}, Order.{times, insert_rising, in_rising_order}, Results.{least, greatest, floor_quotient}}
use Rattle.fold_fn.specs.Results.{fold_result}

-- two lists have each number equally often: one is the other in another order
abbrev pub HaveSame : List ℤ → List ℤ → Type 0
HaveSame xs ys = (v : ℤ) → times v xs ≡ times v ys

-- the rising order keeps the numbers, rises, and is the same for each order of the list
abbrev pub RisingKeeps : Type 0
RisingKeeps = (xs : List ℤ) → HaveSame (in_rising_order xs) xs

abbrev pub RisingRises : Type 0
RisingRises = (xs : List ℤ) → IsSorted int_cmp (in_rising_order xs)

abbrev pub RisingForgetsOrder : Type 0
RisingForgetsOrder = (xs ys : List ℤ) → HaveSame xs ys → in_rising_order xs ≡ in_rising_order ys

-- a result does not depend on the order of the values
abbrev pub ResultForgetsOrder : Type 0
ResultForgetsOrder = (kind : FoldKind) (xs ys : List ℤ) → HaveSame xs ys → fold_result kind xs ≡ fold_result kind ys

-- a value that is added and taken back leaves what was there
abbrev pub TakeBackUndoesAdd : Type 0
TakeBackUndoesAdd = (v : ℤ) (before after : List ℤ) → insert_rising v before ≡ insert_rising v after → after ≡ before

-- the least number stands in the list, and none is below it
abbrev pub LeastIsLeast : Type 0
LeastIsLeast = (xs : List ℤ) (x : ℤ) → least xs ≡ Some x → Contains xs x × All (λ y. x ≤ℤ y) xs

abbrev pub GreatestIsGreatest : Type 0
GreatestIsGreatest = (xs : List ℤ) (x : ℤ) → greatest xs ≡ Some x → Contains xs x × All (λ y. y ≤ℤ x) xs

-- the quotient is the greatest whole number whose product with the divisor is not above the dividend
abbrev pub QuotientIsFloor : Type 0
QuotientIsFloor = (sum : ℤ) (n : ℕ) → 0 < n
    → ((floor_quotient sum n *ℤ pos n) ≤ℤ sum) × (sum <ℤ ((floor_quotient sum n +ℤ pos 1) *ℤ pos n))
