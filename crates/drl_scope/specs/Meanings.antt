-- What a variable or a field that is named has: a field, a kind.
use Rattle.std.specs.{Prelude.{ℕ, Bool, false, not, List, Option, Some, None}, Option.{option_and_then}}
use Rattle.fx_base.specs.declared.kind.Kind.{Kind}
use Rattle.fx_base.specs.declared.kind.Kind.TheVariants as kind
use Rattle.drl_grammar.specs.declared.file.TypeTree.{TypeTree}
use Rattle.drl_scope.specs.{Names.{place_of_name}, Declarations.{field_names, kind_at}, Sight.{Meaning, of_fact, of_field, of_result}}
use Rattle.drl_expr.specs.Words.{is_among}

-- a type has no field of this name
abbrev pub lacks : TypeTree → List ℕ → Bool
lacks t f = not (is_among (field_names t) f)

-- a variable is a fact whose type has no field of this name
abbrev pub lacks_for : Option Meaning → List ℕ → Bool
lacks_for (Some (of_fact fact t)) f = lacks t f
lacks_for (Some (of_field fact field k)) f = false
lacks_for (Some (of_result result)) f = false
lacks_for None f = false

-- the kind of a field of a type, by its name
abbrev pub field_kind : TypeTree → List ℕ → Option Kind
field_kind t f = option_and_then (kind_at t) (place_of_name (field_names t) f)

-- the kind of a variable that is a value; a result is a whole number
abbrev pub variable_kind : Option Meaning → Option (Option Kind)
variable_kind (Some (of_field fact field k)) = Some k
variable_kind (Some (of_result result)) = Some (Some kind.Int)
variable_kind (Some (of_fact fact t)) = None
variable_kind None = None

-- the kind of a field of a variable that is a fact
abbrev pub variable_field_kind : Option Meaning → List ℕ → Option (Option Kind)
variable_field_kind (Some (of_fact fact t)) f = Some (field_kind t f)
variable_field_kind (Some (of_field fact field k)) f = None
variable_field_kind (Some (of_result result)) f = None
variable_field_kind None f = None
