use Rattle.fan_join.proofs.Common.{◌≡◌, ℕ, true, is_some, Value, same_value, at, Named, name_cmp, is_member_under}
use Rattle.fan_join.proofs.reach.take_values.Given as goal

abbrev pub invariant-loop-who : goal.invariant-loop-who
invariant-loop-who g l = (value : Value) (k : ℕ) → (k ≡ l.place → (who : Named) × (is_some (at same_value name_cmp l.member.names value who) ≡ true))
    → is_member_under l.initial.reached value k ≡ true → is_member_under l.reached value k ≡ true
