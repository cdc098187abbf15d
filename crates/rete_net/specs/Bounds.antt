-- By which ranges of whole numbers the nodes of a type are told apart.
use Rattle.std.specs.{Prelude.{◌≡◌, ◌≤ℤ◌, Bool, true, Option, Some, None, slice_get, FitsSigned}, Int.{w64}}
use Rattle.fx_base.specs.declared.{fact.Fact.{Fact}, value.Value.{Value, TheVariants.{Int, Bool as Flag, Text}}}
use Rattle.rete_net.specs.declared.bounds.FieldRange.{FieldRange}

-- a whole number which, as one of 64 bits, is within the range
abbrev pub HasValue : FieldRange → Option Value → Type 0
HasValue range None = ⊥
HasValue range (Some (Int number)) = FitsSigned w64 number → (range.least ≤ℤ number) × (number ≤ℤ range.most)
HasValue range (Some (Flag flag)) = ⊥
HasValue range (Some (Text text)) = ⊥

-- the fact has such a number in the field
abbrev pub IsWithin : FieldRange → Fact → Type 0
IsWithin range f = HasValue range (slice_get f.fields range.field)

-- where there is a range, each fact that passes is within it
abbrev pub AreWithin : Option FieldRange → (Fact → Bool) → Type 0
AreWithin None passes = Unit {0}
AreWithin (Some range) passes = (f : Fact) → passes f ≡ true → IsWithin range f
