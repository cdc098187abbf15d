-- What a program says of a type or of an entry point, by its place. What is no type of the program is a plain one of points that never
-- expires, and what is no entry point of it has no lateness.
use Rattle.std.specs.Prelude.{ℕ, ◌+◌, ℤ, pos, Bool, true, false, List, [], ◌∷◌, Option, Some, None, slice_get, if◌then◌else◌}
use Rattle.fx_base.specs.declared.ids.TypeId.{TypeId}
use Rattle.rule_model.specs.declared.program.{EntryInfo.{EntryInfo}, Program.{Program}, TypeInfo.{TypeInfo}}

abbrev pub is_event_type : Option TypeInfo → Bool
is_event_type None = false
is_event_type (Some ty) = ty.event

abbrev pub is_reference_type : Option TypeInfo → Bool
is_reference_type None = false
is_reference_type (Some ty) = ty.reference

-- a type without a duration is one of points
abbrev pub is_point_type : Option TypeInfo → Bool
is_point_type None = true
is_point_type (Some ty) = without_duration ty.duration
  where
    without_duration : Option ℕ → Bool
    without_duration None = true
    without_duration (Some place) = false

abbrev pub is_observed_type : Option TypeInfo → Bool
is_observed_type None = false
is_observed_type (Some ty) = ty.observed

abbrev pub expiry_in : Option TypeInfo → Option ℤ
expiry_in None = None
expiry_in (Some ty) = ty.expires

abbrev pub lateness_in : Option EntryInfo → ℤ
lateness_in None = pos 0
lateness_in (Some entry) = entry.lateness

-- whether the facts of a type are events
unfoldable pub is_event : Program → ℕ → Bool
is_event p ty = is_event_type (slice_get p.types ty)

-- whether the facts of a type are there before any event, and stay as they are
unfoldable pub is_reference : Program → ℕ → Bool
is_reference p ty = is_reference_type (slice_get p.types ty)

-- whether the events of a type end where they start
unfoldable pub is_point : Program → ℕ → Bool
is_point p ty = is_point_type (slice_get p.types ty)

-- whether the events of a type are not retracted, since some rule has a `not`, an `exists`, an `accumulate` or a window of length over them
unfoldable pub is_observed : Program → ℕ → Bool
is_observed p ty = is_observed_type (slice_get p.types ty)

-- how long behind its start an event of a type is present, in milliseconds; nothing where the type has no explicit expiry
unfoldable pub expiry_of : Program → ℕ → Option ℤ
expiry_of p ty = expiry_in (slice_get p.types ty)

-- how far behind the clock an event may start in an entry point, in milliseconds
unfoldable pub lateness_of : Program → ℕ → ℤ
lateness_of p entry = lateness_in (slice_get p.entries entry)

-- ---- the types of events

-- those of these types whose facts are events, by their places, of which this is the first
abbrev pub event_types : List TypeInfo → ℕ → List TypeId
event_types [] place = []
event_types (ty ∷ types) place = if ty.event then (record { 0 = place }) ∷ event_types types (place + 1) else event_types types (place + 1)
