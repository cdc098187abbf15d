-- What single tests tell: orders, ids, values that rise, and kinds.
use Rattle.image_fitting.proofs.Common.{◌≡◌, ◌↔◌, ◌∙◌, ◌&&◌, ◌==◌, not, ℕ, suc, ◌+◌, ◌<◌, ◌≤◌, ℤ, pos, Bool, true, false, cond, List, [], ◌∷◌, map, length}
use Rattle.image_fitting.proofs.Common.{get_or, drop, Some, IsTrue, refl, sym, ap, subst, arith, inl, inr, Less, Equal, AllAdjacentBelow, nat_cmp, ints, In}
use Rattle.image_fitting.proofs.Common.{Fact, Value, HaveDistinctIds, int_lt, Greater, AllByRecursion, IsAllAdjacentAnswer, IsPermutation, IsSorted, int_cmp}
use Rattle.image_fitting.proofs.Common.{is_le, is_lt, is_some_and, eq_by_cmp, ordering_index, drop_more, drop_all, get_or_default, in_map, of_map, has_kind}
use Rattle.std.{proofs.{lemmas.Bool.{ne_eqb}, Math.Bool.{and-false}}, specs.{declared.cmp.Ordering.{Ordering}, Cmp.{IsTotalOrder}, List.{IsDistinct}}}
use Rattle.std.{specs.List.Sorted.{IsStrictlySortedBy}, proofs.lemmas.List.Sorted.{IsPermutation-sym, IsNonDecreasingBy-from_sort}}
use Rattle.std.proofs.lemmas.Map.Keys.{IsDistinct-from_sorted, IsDistinct-IsPermutation, IsStrictlyIncreasing-from_distinct, Less-from_sorted}
use Rattle.{std.proofs.lemmas.Map.Keys.{sorted_from_all_adjacent, sorted_from_strictly_increasing}, fx_base.specs.declared.ids.FactId.{FactId}}
use Rattle.{fx_base.{specs.declared.kind.Kind.{Kind}, proofs.Orders.{eq_by_nat_cmp-flip, eq_by_nat_cmp-self, eqb-flip}}, rule_world.specs.Kinds.{have_kinds}}

pub always : {P : Type 0} → P → IsTrue true ↔ P
always x = (λ e. x, λ y. refl)

pub never : {P : Type 0} → (P → ⊥) → IsTrue false ↔ P
never h = (λ e. absurd (let n : false ≡ true = e in cc), λ x. absurd (h x))

-- ---- lists in a strict order

module _ {A : Type 0} (c : A → A → Ordering) (total : IsTotalOrder c) where
  pub in_order : (xs : List A) (n : ℕ) → length xs ≤ n → AllAdjacentBelow (λ x y. c x y ≡ Less) xs n → IsStrictlySortedBy c xs
  unfolding IsStrictlySortedBy
  in_order [] n over h = tt
  in_order (x ∷ xs) n over h = sorted_from_all_adjacent total (x ∷ xs) x (λ k less. h k x (omega arith))

-- one that does not stand before the next
pub not_in_order : {A : Type 0} (c : A → A → Ordering) (xs : List A) (k n : ℕ) (x y : A) (o : Ordering) → k < n → n < length xs → x ≡ get_or xs k x → y ≡ get_or xs n y → o ≡ c x y → (o ≡ Less → ⊥)
    → IsStrictlySortedBy c xs → ⊥
not_in_order c xs k n x y o less inside is_x is_y is differ s =
    differ (is ∙ ap (λ z. c z y) (is_x ∙ get_or_default xs k x y (omega arith)) ∙ ap (c (get_or xs k y)) is_y ∙ Less-from_sorted c xs k n y s less inside)

-- ---- values that rise

less_not : (x y : ℤ) → int_lt x y ≡ true → int_lt y x ≡ true → ⊥
less_not x y a b = grind (arith, ints)

not_falling : (x y : ℤ) → is_le (int_cmp x y) ≡ true → is_lt (int_cmp y x) ≡ false
not_falling x y h = by (int_lt x y) (int_lt y x) refl refl h
  where
    by : (a b : Bool) → int_lt x y ≡ a → int_lt y x ≡ b → is_le (cond a Less (cond b Greater Equal)) ≡ true → is_lt (cond b Less (cond a Greater Equal)) ≡ false
    by true true e f h = absurd (less_not x y e f)
    by true false e f h = refl
    by false true e f h = absurd (let n : false ≡ true = h in cc)
    by false false e f h = refl

falling : (x y : ℤ) → is_le (int_cmp x y) ≡ false → is_lt (int_cmp y x) ≡ true
falling x y h = by (int_lt x y) (int_lt y x) h
  where
    by : (a b : Bool) → is_le (cond a Less (cond b Greater Equal)) ≡ false → is_lt (cond b Less (cond a Greater Equal)) ≡ true
    by true b h = absurd (let n : true ≡ false = h in cc)
    by false true h = refl
    by false false h = absurd (let n : true ≡ false = h in cc)

pub rising_is : (xs : List ℤ) (r : Bool) → IsAllAdjacentAnswer (λ x y b. is_some_and is_le (Some (int_cmp x y)) ≡ b) xs r → IsTrue r ↔ IsSorted int_cmp xs
rising_is xs true h = always (λ k d low less. not_falling (get_or xs k d) (get_or xs (k + 1) d) (h k d less))
rising_is xs false h = never (λ s.
    let down = falling (get_or xs h.0 (pos 0)) (get_or xs (h.0 + 1) (pos 0)) (h.2 (pos 0)) in
    let up : is_lt (int_cmp (get_or xs (h.0 + 1) (pos 0)) (get_or xs h.0 (pos 0))) ≡ false = s h.0 (pos 0) (omega arith) h.1 in
    absurd (let n : true ≡ false = sym down ∙ up in cc))

-- ---- distinct ids

all_of : {A : Type 0} (P : A → Type 0) (xs : List A) (x : A) → AllByRecursion P xs → In x xs → P x
all_of P [] x h i = absurd i
all_of P (y ∷ xs) x h (inl e) = subst P (sym e) h.0
all_of P (y ∷ xs) x h (inr i) = all_of P xs x h.1 i

of_all : {A : Type 0} (P : A → Type 0) (xs : List A) → ((x : A) → In x xs → P x) → AllByRecursion P xs
of_all P [] h = tt
of_all P (x ∷ xs) h = (h x (inl refl), of_all P xs (λ y i. h y (inr i)))

abbrev number : Fact → ℕ
number f = f.id.0

abbrev numbered : ℕ → FactId
numbered n = record { 0 = n }

once_by_number : (facts : List Fact) → IsDistinct (eq_by_cmp nat_cmp) (map number facts) → HaveDistinctIds facts
unfolding IsDistinct
once_by_number [] d = tt
once_by_number (f ∷ facts) d = (
  λ i.
      let g = of_map (λ (g : Fact). g.id) f.id facts i in
      let apart = all_of (λ n. eq_by_cmp nat_cmp f.id.0 n ≡ false) (map number facts) g.0.id.0 d.0 (in_map number g.0 facts g.1) in
      let same : eq_by_cmp nat_cmp f.id.0 g.0.id.0 ≡ true = ap (λ (id : FactId). eq_by_cmp nat_cmp f.id.0 id.0) g.2 ∙ eq_by_nat_cmp-self f.id.0 in
      absurd (let n : true ≡ false = sym same ∙ apart in cc),
  once_by_number facts d.1,
)

number_once : (facts : List Fact) → HaveDistinctIds facts → IsDistinct ◌==◌ (map number facts)
unfolding IsDistinct
number_once [] d = tt
number_once (f ∷ facts) d = (
  of_all (λ n. (f.id.0 == n) ≡ false) (map number facts) (λ n i.
      let g = of_map number n facts i in
      ne_eqb f.id.0 n (λ e. d.0 (subst (λ (id : FactId). In id (map (λ (h : Fact). h.id) facts)) (ap numbered (g.2 ∙ sym e)) (in_map (λ (h : Fact). h.id) g.0 facts g.1)))),
  number_once facts d.1,
)

pub distinct_is : (facts : List Fact) (ids sorted : List ℕ) (r : Bool) → ids ≡ map number facts → IsPermutation ids sorted → IsSorted nat_cmp sorted → IsTrue r ↔ IsStrictlySortedBy nat_cmp sorted → IsTrue r ↔ HaveDistinctIds facts
distinct_is facts ids sorted r are permuted rising is = (
  λ e. once_by_number facts (subst (IsDistinct (eq_by_cmp nat_cmp)) are
      (IsDistinct-IsPermutation (eq_by_cmp nat_cmp) eq_by_nat_cmp-flip sorted ids (IsPermutation-sym ids sorted permuted) (IsDistinct-from_sorted nat_cmp sorted (is.0 e)))),
  λ d. is.1 (sorted_from_strictly_increasing sorted (IsStrictlyIncreasing-from_distinct sorted (IsNonDecreasingBy-from_sort (λ n. n) sorted rising)
      (IsDistinct-IsPermutation ◌==◌ eqb-flip ids sorted permuted (subst (IsDistinct ◌==◌) (sym are) (number_once facts d))))),
)

-- ---- kinds

pub unlike_kinds : (fields : List (List ℕ × Kind)) (vs : List Value) → (length fields ≡ length vs → ⊥) → have_kinds fields vs ≡ false
unfolding have_kinds
unlike_kinds [] [] h = absurd (h refl)
unlike_kinds [] (v ∷ vs) h = refl
unlike_kinds (field ∷ fields) [] h = refl
unlike_kinds (field ∷ fields) (v ∷ vs) h = ap (λ b. has_kind field.1 v && b) (unlike_kinds fields vs (λ e. h (ap suc e))) ∙ and-false (has_kind field.1 v)

pub kinds_at : (fields : List (List ℕ × Kind)) (vs : List Value) (k : ℕ) (field : List ℕ × Kind) (v : Value) → k < length fields → k < length vs → field ≡ get_or fields k field → v ≡ get_or vs k v
    → have_kinds (drop k fields) (drop k vs) ≡ (has_kind field.1 v && have_kinds (drop (k + 1) fields) (drop (k + 1) vs))
unfolding have_kinds
kinds_at fields vs k field v inside also is_field is_v =
    ap (λ fs. have_kinds fs (drop k vs)) (drop_more fields k field inside ∙ ap (λ f. f ∷ drop (k + 1) fields) (sym is_field))
    ∙ ap (λ ws. have_kinds (field ∷ drop (k + 1) fields) ws) (drop_more vs k v also ∙ ap (λ w. w ∷ drop (k + 1) vs) (sym is_v))

-- a field that has not its kind, in the middle
pub kinds_end : (fields : List (List ℕ × Kind)) (vs : List Value) (k : ℕ) (field : List ℕ × Kind) (v : Value) (r : Bool) → k < length fields → k < length vs → field ≡ get_or fields k field → v ≡ get_or vs k v
    → r ≡ has_kind (get_or fields k field).1 v → r ≡ false → have_kinds (drop k fields) (drop k vs) ≡ have_kinds fields vs → false ≡ have_kinds fields vs
kinds_end fields vs k field v r inside also is_field is_v told fails so_far =
    ap (λ b. b && have_kinds (drop (k + 1) fields) (drop (k + 1) vs)) (sym fails ∙ told ∙ sym (ap (λ (f : List ℕ × Kind). has_kind f.1 v) is_field)) ∙ sym (kinds_at fields vs k field v inside also is_field is_v) ∙ so_far

-- one that has it
pub kinds_on : (fields : List (List ℕ × Kind)) (vs : List Value) (k : ℕ) (field : List ℕ × Kind) (v : Value) (r : Bool) → k < length fields → k < length vs → field ≡ get_or fields k field → v ≡ get_or vs k v
    → r ≡ has_kind (get_or fields k field).1 v → r ≡ true → have_kinds (drop k fields) (drop k vs) ≡ have_kinds fields vs → have_kinds (drop (k + 1) fields) (drop (k + 1) vs) ≡ have_kinds fields vs
kinds_on fields vs k field v r inside also is_field is_v told holds so_far =
    ap (λ b. b && have_kinds (drop (k + 1) fields) (drop (k + 1) vs)) (sym holds ∙ told ∙ sym (ap (λ (f : List ℕ × Kind). has_kind f.1 v) is_field)) ∙ sym (kinds_at fields vs k field v inside also is_field is_v) ∙ so_far

pub kinds_over : (fields : List (List ℕ × Kind)) (vs : List Value) (k : ℕ) → length fields ≤ k → length vs ≤ k → have_kinds (drop k fields) (drop k vs) ≡ have_kinds fields vs → true ≡ have_kinds fields vs
unfolding have_kinds
kinds_over fields vs k over also so_far = sym (ap (λ fs. have_kinds fs (drop k vs)) (drop_all k fields over) ∙ ap (have_kinds []) (drop_all k vs also)) ∙ so_far

pub not_less : (o : Ordering) → not (ordering_index o == 0) ≡ true → o ≡ Less → ⊥
not_less Less e h = absurd (let n : false ≡ true = e in cc)
not_less Equal e h = absurd (let n : Equal ≡ Less = h in cc)
not_less Greater e h = absurd (let n : Greater ≡ Less = h in cc)
