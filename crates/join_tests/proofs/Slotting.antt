-- What is kept and sought where a pattern has no range of time, and where it has one.
use Rattle.join_tests.proofs.Common.{◌≡◌, ◌∙◌, sym, ap, ℤ, List, [], ◌∷◌, Option, Some, None, Value, TimeKey, as_one, slot_value, with_slot, kept_under, once}
use Rattle.join_tests.proofs.Common.{sought_under}

module _ (values : List Value) (time : Option TimeKey) where
  pub kept_timeless : (moment : TimeKey → ℤ) → time ≡ None → as_one values ≡ kept_under values time moment
  kept_timeless moment is = ap (λ t. kept_under values t moment) (sym is)

  pub sought_timeless : (first last : TimeKey → ℤ) → time ≡ None → as_one values ∷ [] ≡ sought_under values time first last
  sought_timeless first last is = ap (λ t. sought_under values t first last) (sym is)

  module _ (key : TimeKey) (is : time ≡ Some key) where
    pub kept_slotted : (moment : TimeKey → ℤ) (slot : Value) → slot ≡ slot_value key.span (moment key) → with_slot values slot ≡ kept_under values time moment
    kept_slotted moment slot e = ap (with_slot values) e ∙ ap (λ t. kept_under values t moment) (sym is)

    pub sought_slotted : (first last : TimeKey → ℤ) (a b : Value) → a ≡ slot_value key.span (first key) → b ≡ slot_value key.span (last key)
        → once (with_slot values a) (with_slot values b) ≡ sought_under values time first last
    sought_slotted first last a b e f =
        ap (λ v. once (with_slot values v) (with_slot values b)) e
        ∙ ap (λ v. once (with_slot values (slot_value key.span (first key))) (with_slot values v)) f
        ∙ ap (λ t. sought_under values t first last) (sym is)
