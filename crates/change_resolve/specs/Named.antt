-- The fields that members name.
use Rattle.std.specs.Prelude.{ℕ, List, Option, Some, None, map}
use Rattle.fx_base.specs.declared.kind.Kind.{Kind}
use Rattle.script_read.specs.declared.given.Given.{Given}
use Rattle.change_resolve.specs.Fields.{field_named}

-- a field, unless an earlier one is there
abbrev pub earlier_of : Option (ℕ × Kind) → ℕ × Kind → Option (ℕ × Kind)
earlier_of None field = Some field
earlier_of (Some earlier) field = Some earlier

-- the field of each member, by its place and its kind
abbrev pub fields_of : List (List ℕ × Kind) → List (List ℕ × Given) → List (Option (ℕ × Kind))
fields_of fields members = map (λ (member : List ℕ × Given). field_named member.0 fields 0) members
