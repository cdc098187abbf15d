-- What an annotation and an action do with events.
use Rattle.std.specs.{Prelude.{ℕ, ◌&&◌, Bool, true, false, not, List, Option, Some, None}, List.{list_any}}
use Rattle.drl_grammar.specs.declared.action.ActTree.{ActTree}
use Rattle.drl_grammar.specs.declared.action.ActTree.TheVariants as action
use Rattle.drl_grammar.specs.declared.file.Meta.{Meta}
use Rattle.drl_grammar.specs.declared.file.Meta.TheVariants as meta
use Rattle.drl_grammar.specs.declared.file.TypeTree.{TypeTree}
use Rattle.drl_scope.specs.{Annotations.{is_tree_of_events, reference_of}, Declarations.{type_tree_named}, Meanings.{lacks, field_kind}, Sight.{Sight, Meaning}}
use Rattle.drl_scope.specs.Sight.{of_fact, of_field, of_result, meaning_of}
use Rattle.drl_typing.specs.Kinds.{is_int}

-- ---- annotations

-- the field of a timestamp or a duration is not there
abbrev pub meta_lacks : TypeTree → Meta → Bool
meta_lacks t (meta.Timestamp field) = lacks t field
meta_lacks t (meta.Duration field) = lacks t field
meta_lacks t (meta.Role event) = false
meta_lacks t (meta.Expires offset) = false
meta_lacks t meta.Reference = false

abbrev pub annotation_lacks : TypeTree → Bool
annotation_lacks t = list_any (meta_lacks t) t.metas

-- it speaks of the times of events
abbrev pub is_of_events : Meta → Bool
is_of_events (meta.Role event) = false
is_of_events (meta.Timestamp field) = true
is_of_events (meta.Duration field) = true
is_of_events (meta.Expires offset) = true
is_of_events meta.Reference = false

-- a plain type has an annotation that speaks of the times of events
abbrev pub is_no_event : TypeTree → Bool
is_no_event t = not (is_tree_of_events t) && list_any is_of_events t.metas

-- the field of a timestamp or a duration holds no whole numbers
abbrev pub meta_misfits : TypeTree → Meta → Bool
meta_misfits t (meta.Timestamp field) = not (is_int (field_kind t field))
meta_misfits t (meta.Duration field) = not (is_int (field_kind t field))
meta_misfits t (meta.Role event) = false
meta_misfits t (meta.Expires offset) = false
meta_misfits t meta.Reference = false

abbrev pub has_bad_timestamp : TypeTree → Bool
has_bad_timestamp t = list_any (meta_misfits t) t.metas

-- an event type is marked as a reference type
abbrev pub marks_event : TypeTree → Bool
marks_event t = is_tree_of_events t && reference_of t.metas

-- ---- actions

abbrev pub is_event_meant : Option Meaning → Bool
is_event_meant None = false
is_event_meant (Some (of_fact fact t)) = is_tree_of_events t
is_event_meant (Some (of_field fact field k)) = false
is_event_meant (Some (of_result result)) = false

-- an event is modified
abbrev pub modifies_event : Sight → ActTree → Bool
modifies_event sight (action.Modify v sets) = is_event_meant (meaning_of sight v)
modifies_event sight (action.Insert ty args) = false
modifies_event sight (action.Retract v) = false

-- a variable is a fact of a type that is observed
abbrev pub is_observed_meant : (TypeTree → Bool) → Option Meaning → Bool
is_observed_meant observed None = false
is_observed_meant observed (Some (of_fact fact t)) = observed t
is_observed_meant observed (Some (of_field fact field k)) = false
is_observed_meant observed (Some (of_result result)) = false

-- an event of an observed type is retracted
abbrev pub retracts_observed : (TypeTree → Bool) → Sight → ActTree → Bool
retracts_observed observed sight (action.Retract v) = is_observed_meant observed (meaning_of sight v)
retracts_observed observed sight (action.Insert ty args) = false
retracts_observed observed sight (action.Modify v sets) = false

-- a type that may be declared is a reference type
abbrev pub is_reference_declared : Option TypeTree → Bool
is_reference_declared None = false
is_reference_declared (Some t) = reference_of t.metas

abbrev pub is_reference_named : List TypeTree → List ℕ → Bool
is_reference_named types ty = is_reference_declared (type_tree_named types ty)

-- a variable is a fact of a reference type
abbrev pub is_reference_meant : Option Meaning → Bool
is_reference_meant None = false
is_reference_meant (Some (of_fact fact t)) = reference_of t.metas
is_reference_meant (Some (of_field fact field k)) = false
is_reference_meant (Some (of_result result)) = false

-- a fact of a reference type is inserted, modified or retracted
abbrev pub fixes_reference : List TypeTree → Sight → ActTree → Bool
fixes_reference types sight (action.Insert ty args) = is_reference_named types ty
fixes_reference types sight (action.Modify v sets) = is_reference_meant (meaning_of sight v)
fixes_reference types sight (action.Retract v) = is_reference_meant (meaning_of sight v)
