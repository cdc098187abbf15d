-- What is left of a room when some of it is taken.
use Rattle.std.specs.Prelude.{ℕ, ◌-◌, nat_le, Option, Some, None, if◌then◌else◌}

-- nothing where less is there than is taken
abbrev pub left_of : ℕ → ℕ → Option ℕ
left_of room taken = if nat_le taken room then Some (room - taken) else None
