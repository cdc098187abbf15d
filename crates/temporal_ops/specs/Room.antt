-- The room that edges leave for the start and the end of an event.
use Rattle.std.specs.{Prelude.{◌≡◌, ◌↔◌, ℤ, ◌≤ℤ◌, Bool, true, false, Option, Some, None}, Int.Signed.{lt_z}}
use Rattle.fx_base.specs.declared.times.Times.{Times}
use Rattle.temporal_ops.specs.{declared.room.{Limits.{Limits}, Room.{Room}}, Possible.{IsEvent}}

abbrev pub IsAboveLimit : Option ℤ → ℤ → Type 0
IsAboveLimit None z = Unit {0}
IsAboveLimit (Some least) z = least ≤ℤ z

abbrev pub IsBelow : Option ℤ → ℤ → Type 0
IsBelow None z = Unit {0}
IsBelow (Some greatest) z = z ≤ℤ greatest

-- whether nothing lies between these limits
abbrev pub is_empty : Option ℤ → Option ℤ → Bool
is_empty (Some least) (Some greatest) = lt_z greatest least
is_empty (Some least) None = false
is_empty None greatest = false

-- z lies between the limits
pub record LiesBetweenLimits (limits : Limits) (z : ℤ) : Type 0 where
  pub above : IsAboveLimit limits.least z
  pub below : IsBelow limits.greatest z

-- the start and the end lie between their limits
pub record FitsRoom (room : Room) (y : Times) : Type 0 where
  pub start : LiesBetweenLimits room.start y.start
  pub end : LiesBetweenLimits room.end y.end

-- an event that fits
pub record FitsEvent (room : Room) (point : Bool) (y : Times) : Type 0 where
  pub event : IsEvent point y
  pub fits : FitsRoom room y

-- the limits of the start of an event that fits: it is no later than the end may be, and of a point type no
-- earlier
pub record AreStartLimits (room : Room) (point : Bool) (starts : Limits) : Type 0 where
  pub above : (z : ℤ) → IsAboveLimit starts.least z ↔ (IsAboveLimit room.start.least z × (point ≡ true → IsAboveLimit room.end.least z))
  pub below : (z : ℤ) → IsBelow starts.greatest z ↔ (IsBelow room.start.greatest z × IsBelow room.end.greatest z)
