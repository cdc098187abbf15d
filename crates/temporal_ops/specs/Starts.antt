-- The starts of possible events as a function of the edges, for definitions that have to compute.
use Rattle.std.specs.{Prelude.{ℤ, ◌+ℤ◌, ◌-ℤ◌, Bool, true, false, cond, ◌||◌, List, [], ◌∷◌, Option, Some, None}, Int.{int_max, int_min}}
use Rattle.fx_base.specs.declared.times.Times.{Times}
use Rattle.temporal_ops.specs.declared.{edge.{Corner.{Corner, TheVariants.{AStart, AEnd, BStart, BEnd}}, OpEdge.{OpEdge}}, room.{Limits.{Limits}, Room.{Room}}}
use Rattle.temporal_ops.specs.{declared.window.Window.{Window, TheVariants.{Never, UpTo, Unbounded}}, Room.{is_empty}}

-- the greater of two lower limits
abbrev pub higher : Option ℤ → Option ℤ → Option ℤ
higher None limit = limit
higher (Some a) None = Some a
higher (Some a) (Some b) = Some (int_max a b)

-- the lesser of two upper limits
abbrev pub lower : Option ℤ → Option ℤ → Option ℤ
lower None limit = limit
lower (Some a) None = Some a
lower (Some a) (Some b) = Some (int_min a b)

abbrev pub begun : Limits → ℤ → Limits
begun limits least = record { least = higher limits.least (Some least); greatest = limits.greatest }

abbrev pub ended : Limits → ℤ → Limits
ended limits greatest = record { least = limits.least; greatest = lower limits.greatest (Some greatest) }

-- what an edge of these corners leaves of a room, where it joins the event with the bound event b
abbrev pub edge_room : Corner → Corner → ℤ → Times → Room → Room
edge_room AStart BStart most b room = record { start = ended room.start (b.start +ℤ most); end = room.end }
edge_room AStart BEnd most b room = record { start = ended room.start (b.end +ℤ most); end = room.end }
edge_room AEnd BStart most b room = record { start = room.start; end = ended room.end (b.start +ℤ most) }
edge_room AEnd BEnd most b room = record { start = room.start; end = ended room.end (b.end +ℤ most) }
edge_room BStart AStart most b room = record { start = begun room.start (b.start -ℤ most); end = room.end }
edge_room BEnd AStart most b room = record { start = begun room.start (b.end -ℤ most); end = room.end }
edge_room BStart AEnd most b room = record { start = room.start; end = begun room.end (b.start -ℤ most) }
edge_room BEnd AEnd most b room = record { start = room.start; end = begun room.end (b.end -ℤ most) }
edge_room _ _ most b room = room

abbrev pub edges_room : List OpEdge → Times → Room → Room
edges_room [] b room = room
edges_room (edge ∷ edges) b room = edge_room edge.x edge.y edge.most b (edges_room edges b room)

-- what all operators leave
abbrev pub room_of : List (List OpEdge × Times) → Room
room_of [] = record { start = record { least = None; greatest = None }; end = record { least = None; greatest = None } }
room_of (bound ∷ bounds) = edges_room bound.0 bound.1 (room_of bounds)

abbrev pub starts_of : Room → Bool → Limits
starts_of room point = record {
  least = cond point (higher room.start.least room.end.least) room.start.least;
  greatest = lower room.start.greatest room.end.greatest;
}

-- the window where there is no room, or where there is some below this limit
abbrev pub window_by : Bool → Option ℤ → Window
window_by true greatest = Never
window_by false None = Unbounded
window_by false (Some latest) = UpTo latest

abbrev pub window_in : Room → Limits → Window
window_in room starts = window_by (is_empty starts.least starts.greatest || is_empty room.end.least room.end.greatest) starts.greatest

-- the starts of the possible events, where each edge joins the two events
unfoldable pub starts_window : List (List OpEdge × Times) → Bool → Window
starts_window bounds point = window_in (room_of bounds) (starts_of (room_of bounds) point)
