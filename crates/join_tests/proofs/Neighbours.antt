-- What lies between the first and the last moment of a range lies in the slot of one of the two.
use Rattle.join_tests.proofs.Common.{◌≡◌, ◌∙◌, sym, ap, refl, subst, arith, ℕ, suc, ◌+◌, ◌*◌, ◌<◌, ◌≤◌, ℤ, pos, negsuc, ◌+ℤ◌, ◌≤ℤ◌, ◌⊎◌, inl, inr, Bool, true}
use Rattle.join_tests.proofs.Common.{false, cond, ◌||◌, List, [], ◌∷◌, Option, Some, None, ints, Value, same_value, equal_values, TimeKey, given_or_true}
use Rattle.join_tests.proofs.Common.{as_one, with_slot, kept_under, sought_under, is_value_among, by_lt_z, int_div_euclid, same_itself, number_given, slot_of}
use Rattle.{join_tests.proofs.Common.{in_64_bits}, std.proofs.{lemmas.Bool.{or_left}, Math.{Bool.{or-true}, Nat.{lt_of_mul-lt-mul_right}}}}
use borrow.Author.Differences.{up, down}

-- q is a divided by k, rounded down
abbrev IsQuotient : ℕ → ℤ → ℤ → Type 0
IsQuotient k a q = (up q * k + down a ≤ down q * k + up a) × (down q * k + up a < up q * k + down a + k)

quotient : (k : ℕ) (a : ℤ) → 0 < k → IsQuotient k a (int_div_euclid a (pos k))
quotient k (pos a) h = omega arith
quotient k (negsuc a) h = omega arith

module _ (k : ℕ) (a b q r : ℤ) (of_a : IsQuotient k a q) (of_b : IsQuotient k b r) where
  rises : a ≤ℤ b → q ≤ℤ r
  rises h =
      let under : (up q + down r) * k < (down q + up r + 1) * k = omega (arith, ints) in
      let below : up q + down r < down q + up r + 1 = lt_of_mul-lt-mul_right k under in
      omega (arith, ints)

  is_next : (span : ℕ) → k ≡ suc span → a ≡ (b +ℤ pos span) → q ≤ℤ (r +ℤ pos 1)
  is_next span width h =
      let under : (up q + down r) * k < (down q + up r + 2) * k = omega (arith, ints) in
      let below : up q + down r < down q + up r + 2 = lt_of_mul-lt-mul_right k under in
      omega (arith, ints)

one_of_two : (first z last : ℤ) → first ≤ℤ z → z ≤ℤ last → last ≤ℤ (first +ℤ pos 1) → (z ≡ first) ⊎ (z ≡ last)
one_of_two first z last low high next =
    by_lt_z first z (λ h. inr (omega (arith, ints))) (λ h. inl (omega (arith, ints)))

pub neighbours : (span : ℕ) (first z last : ℤ) → first ≤ℤ z → z ≤ℤ last → last ≡ (first +ℤ pos span) → (slot_of span z ≡ slot_of span first) ⊎ (slot_of span z ≡ slot_of span last)
neighbours span first z last low high is =
    let k = suc span in
    let of_first = quotient k first (omega arith) in
    let of_z = quotient k z (omega arith) in
    let of_last = quotient k last (omega arith) in
    one_of_two (slot_of span first) (slot_of span z) (slot_of span last)
    (rises k first z (slot_of span first) (slot_of span z) of_first of_z low)
    (rises k z last (slot_of span z) (slot_of span last) of_z of_last high)
    (is_next k last first (slot_of span last) (slot_of span first) of_last of_first span refl is)

-- ---- what is kept under a value is among what is sought

same_as : (v a : Value) → v ≡ a → same_value v a ≡ true
same_as v a e = subst (λ w. same_value v w ≡ true) e (same_itself v)

alone : (v a : Value) → v ≡ a → is_value_among (a ∷ []) v ≡ true
alone v a e = or_left (same_value v a) false (same_as v a e)

first_among : (v a b : Value) → v ≡ a → (same : Bool) → is_value_among (cond same (a ∷ []) (a ∷ b ∷ [])) v ≡ true
first_among v a b e true = alone v a e
first_among v a b e false = or_left (same_value v a) _ (same_as v a e)

last_among : (v a b : Value) → v ≡ b → (same : Bool) → same_value a b ≡ same → is_value_among (cond same (a ∷ []) (a ∷ b ∷ [])) v ≡ true
last_among v a b e true is = alone v a (e ∙ sym (equal_values a b is))
last_among v a b e false is = ap (λ x. same_value v a || x) (alone v b e) ∙ or-true (same_value v a)

abbrev slot_as_value : ℤ → Value
slot_as_value slot = given_or_true (number_given (in_64_bits slot))

-- the moment of what is kept lies between the first and the last that are sought
abbrev pub LiesBetween : (TimeKey → ℤ) → (TimeKey → ℤ) → (TimeKey → ℤ) → TimeKey → Type 0
LiesBetween first last moment key = (first key ≤ℤ moment key) × (moment key ≤ℤ last key) × (last key ≡ (first key +ℤ pos key.span))

slotted_among : (values : List Value) (first last moment : TimeKey → ℤ) (key : TimeKey) → (slot_of key.span (moment key) ≡ slot_of key.span (first key)) ⊎ (slot_of key.span (moment key) ≡ slot_of key.span (last key))
    → is_value_among (sought_under values (Some key) first last) (kept_under values (Some key) moment) ≡ true
slotted_among values first last moment key (inl e) = first_among _ _ _ (ap (λ slot. with_slot values (slot_as_value slot)) e) _
slotted_among values first last moment key (inr e) = last_among _ _ _ (ap (λ slot. with_slot values (slot_as_value slot)) e) _ refl

kept_among : (values : List Value) (first last moment : TimeKey → ℤ) (time : Option TimeKey) → ((key : TimeKey) → time ≡ Some key → LiesBetween first last moment key)
    → is_value_among (sought_under values time first last) (kept_under values time moment) ≡ true
kept_among values first last moment None h = alone (as_one values) (as_one values) refl
kept_among values first last moment (Some key) h =
    let lies = h key refl in
    slotted_among values first last moment key (neighbours key.span (first key) (moment key) (last key) lies.0 lies.1 lies.2)

pub found_among : (kept sought : List Value) (first last moment : TimeKey → ℤ) (time : Option TimeKey) → kept ≡ sought → ((key : TimeKey) → time ≡ Some key → LiesBetween first last moment key)
    → is_value_among (sought_under sought time first last) (kept_under kept time moment) ≡ true
found_among kept sought first last moment time same h =
    ap (λ values. is_value_among (sought_under sought time first last) (kept_under values time moment)) same ∙ kept_among sought first last moment time h
