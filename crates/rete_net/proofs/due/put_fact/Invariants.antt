use Rattle.rete_net.proofs.Common.{FitsSigned, w64, ◌≡◌, ℕ, ℤ, Some, true, take, slice_get, pattern_of, is_meant, condition_of, is_in, is_listed, has_place}
use Rattle.rete_net.{proofs.Common.{NetNode, Value, Int, is_found, FieldRanges}, specs.Selectors.{list_slot_of}}
use Rattle.rete_net.proofs.due.put_fact.Given as goal

abbrev pub invariant-loop-at : goal.invariant-loop-at
invariant-loop-at l = record {
  kept : (k : ℕ) → has_place l.initial.due.keys k ≡ true → has_place l.due.keys k ≡ true;
  put : (k at : ℕ) (n : NetNode) (of : FieldRanges) (number : ℤ) → is_in (take l.at-index l.at-items) at ≡ true → slice_get l.nodes k ≡ Some n → slice_get l.alpha.ranges.fields.items at ≡ Some of
      → slice_get l.fact.fields of.field ≡ Some (Int number) → (FitsSigned w64 number → is_found number of.ranges k ≡ true) → is_meant (pattern_of (condition_of n.node)) l.fact ≡ true → has_place l.due.keys k ≡ true;
}

abbrev pub invariant-loop-field : goal.invariant-loop-field
invariant-loop-field l = record {
  kept : (k : ℕ) → has_place l.initial.due.keys k ≡ true → has_place l.due.keys k ≡ true;
  put : (k field : ℕ) (n : NetNode) (value : Value) → is_in (take l.field-index l.field-items) field ≡ true → slice_get l.nodes k ≡ Some n → slice_get l.fact.fields field ≡ Some value
      → is_listed l.alpha.constants (list_slot_of l.alpha.mask l.fact.ty.0 field value) k ≡ true → is_meant (pattern_of (condition_of n.node)) l.fact ≡ true → has_place l.due.keys k ≡ true;
}
