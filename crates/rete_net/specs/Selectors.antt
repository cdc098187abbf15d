-- By which constants the nodes of a type are told apart.
use Rattle.std.specs.Prelude.{◌≡◌, ℕ, Bool, true, List, Some, fold, slice_get, bit_and}
use Rattle.std.specs.Hash as fed
use Rattle.std.specs.Hash.FoldHasher as hasher
use Rattle.std.specs.List.{list_any}
use Rattle.fx_base.specs.declared.{fact.Fact.{Fact}, value.Value.{Value}}
use Rattle.rule_model.specs.{declared.test.Compare.{Compare}, Tests.{compares_hold}, Tuples.{unbound}}
use Rattle.join_tests.specs.Keys.{writes}

-- a fact that passes this test has this value in the field
abbrev pub TellsValue : (Fact → Bool) → ℕ → Value → Type 0
TellsValue passes field value = (f : Fact) → passes f ≡ true → slice_get f.fields field ≡ Some value

-- all comparisons of one of the choices hold of a fact alone
abbrev pub choices_hold : Fact → List (List Compare) → Bool
choices_hold f choices = list_any (compares_hold unbound f) choices

-- the hash of a value in a field of a type
unfoldable pub value_hash : ℕ → ℕ → Value → ℕ
value_hash ty field value = hasher.finish (fold hasher.write (fold hasher.write (fold hasher.write hasher.initial (fed.u16 ty)) (fed.u64 field)) (writes value))

-- the number of the list for it, of those that the bits of a mask tell apart
abbrev pub list_slot_of : ℕ → ℕ → ℕ → Value → ℕ
list_slot_of mask ty field value = bit_and (value_hash ty field value) mask
