-- The function of the edges gives the starts of the possible events.
use Rattle.temporal_ops.proofs.Common.{◌≡◌, ◌↔◌, ℤ, ◌≤ℤ◌, Bool, true, false, not, ◌||◌, List, [], ◌∷◌, Option, Some, None, refl, arith, list_all, ints, clamps}
use Rattle.temporal_ops.proofs.Common.{Times, Corner, AStart, AEnd, BStart, BEnd, OpEdge, Limits, Room, is_tested, edge_holds, all_hold, AreStarts}
use Rattle.temporal_ops.proofs.Common.{ArePossibleTimes, is_empty, IsAboveLimit, IsBelow, LiesBetweenLimits, FitsRoom, FitsEvent, AreStartLimits, All, All-head}
use Rattle.temporal_ops.{proofs.Common.{All-tail, Joins, WindowIsOfEdges}, specs.{Edges.{edges_hold}, Starts.{higher, lower, begun, ended, edge_room}}}
use Rattle.temporal_ops.{specs.Starts.{edges_room, room_of, starts_of, window_by, window_in, starts_window}, proofs.Rooms.{start_end_by, end_end_by}}
use Rattle.temporal_ops.proofs.{Rooms.{start_begin_at, end_begin_at, event_starts, endless_starts, latest_start}, Windows.{starts_too}}
use Rattle.std.proofs.lemmas.Bool.{and_from, and_parts}

above_higher : (a b : Option ℤ) (z : ℤ) → IsAboveLimit (higher a b) z ↔ (IsAboveLimit a z × IsAboveLimit b z)
above_higher None b z = (λ h. (tt, h), λ h. h.1)
above_higher (Some a) None z = (λ h. (h, tt), λ h. h.0)
above_higher (Some a) (Some b) z = (λ h. (omega (arith, ints, clamps), omega (arith, ints, clamps)), λ h. omega (arith, ints, clamps))

below_lower : (a b : Option ℤ) (z : ℤ) → IsBelow (lower a b) z ↔ (IsBelow a z × IsBelow b z)
below_lower None b z = (λ h. (tt, h), λ h. h.1)
below_lower (Some a) None z = (λ h. (h, tt), λ h. h.0)
below_lower (Some a) (Some b) z = (λ h. (omega (arith, ints, clamps), omega (arith, ints, clamps)), λ h. omega (arith, ints, clamps))

begun_is : (limits : Limits) (least z : ℤ) → LiesBetweenLimits (begun limits least) z ↔ (LiesBetweenLimits limits z × (least ≤ℤ z))
begun_is limits least z =
    let e = above_higher limits.least (Some least) z in (
      λ h. let k = e.0 h.above in (record { above = k.0; below = h.below }, k.1),
      λ h. record { above = e.1 (h.0.above, h.1); below = h.0.below },
    )

ended_is : (limits : Limits) (greatest z : ℤ) → LiesBetweenLimits (ended limits greatest) z ↔ (LiesBetweenLimits limits z × (z ≤ℤ greatest))
ended_is limits greatest z =
    let e = below_lower limits.greatest (Some greatest) z in (
      λ h. let k = e.0 h.below in (record { above = h.above; below = k.0 }, k.1),
      λ h. record { above = h.0.above; below = e.1 (h.0.below, h.1) },
    )

edge_leaves : (x y : Corner) (most : ℤ) (b : Times) (room : Room) → is_tested x ≡ not (is_tested y) → (t : Times)
    → FitsRoom (edge_room x y most b room) t ↔ (FitsRoom room t × (edge_holds t b (record { x = x; y = y; most = most }) ≡ true))
edge_leaves AStart BStart most b room j t = start_end_by room _ b _ BStart _ refl refl (λ s. refl) (ended_is room.start _) t
edge_leaves AStart BEnd most b room j t = start_end_by room _ b _ BEnd _ refl refl (λ s. refl) (ended_is room.start _) t
edge_leaves AEnd BStart most b room j t = end_end_by room _ b _ BStart _ refl refl (λ s. refl) (ended_is room.end _) t
edge_leaves AEnd BEnd most b room j t = end_end_by room _ b _ BEnd _ refl refl (λ s. refl) (ended_is room.end _) t
edge_leaves BStart AStart most b room j t = start_begin_at room _ b _ BStart _ refl refl (λ s. refl) (begun_is room.start _) t
edge_leaves BEnd AStart most b room j t = start_begin_at room _ b _ BEnd _ refl refl (λ s. refl) (begun_is room.start _) t
edge_leaves BStart AEnd most b room j t = end_begin_at room _ b _ BStart _ refl refl (λ s. refl) (begun_is room.end _) t
edge_leaves BEnd AEnd most b room j t = end_begin_at room _ b _ BEnd _ refl refl (λ s. refl) (begun_is room.end _) t
edge_leaves x y most b room j t = absurd cc

edges_leave : (edges : List OpEdge) (b : Times) (room : Room) → All Joins edges → (t : Times)
    → FitsRoom (edges_room edges b room) t ↔ (FitsRoom room t × (edges_hold edges t b ≡ true))
unfolding edges_hold
edges_leave [] b room j t = (λ h. (h, refl), λ h. h.0)
edges_leave (edge ∷ edges) b room j t =
    let e = edge_leaves edge.x edge.y edge.most b (edges_room edges b room) (All-head Joins edge edges j) t in
    let r = edges_leave edges b room (All-tail Joins edge edges j) t in (
      λ h.
          let k = e.0 h in
          let l = r.0 k.0 in
          (l.0, and_from (edge_holds t b edge) (list_all (edge_holds t b) edges) k.1 l.1),
      λ h.
          let k = and_parts (edge_holds t b edge) (list_all (edge_holds t b) edges) h.1 in
          e.1 (r.1 (h.0, k.1), k.0),
    )

-- each edge of each operator joins the two events
abbrev AllJoin : List (List OpEdge × Times) → Type 0
AllJoin bounds = All (λ bound. All Joins bound.0) bounds

all_leave : (bounds : List (List OpEdge × Times)) → AllJoin bounds → (t : Times) → FitsRoom (room_of bounds) t ↔ (all_hold bounds t ≡ true)
all_leave [] j t = (λ h. refl, λ h. record { start = record { above = tt; below = tt }; end = record { above = tt; below = tt } })
all_leave (bound ∷ bounds) j t =
    let e = edges_leave bound.0 bound.1 (room_of bounds) (All-head (λ c. All Joins c.0) bound bounds j) t in
    let r = all_leave bounds (All-tail (λ c. All Joins c.0) bound bounds j) t in (
      λ h. let k = e.0 h in and_from (edges_hold bound.0 t bound.1) (all_hold bounds t) k.1 (r.0 k.0),
      λ h.
          let k = and_parts (edges_hold bound.0 t bound.1) (all_hold bounds t) h in
          e.1 (r.1 k.1, k.0),
    )

starts_are : (room : Room) (point : Bool) → AreStartLimits room point (starts_of room point)
starts_are room true = record {
  above = λ z.
      let e = above_higher room.start.least room.end.least z in
      (λ h. let k = e.0 h in (k.0, λ is. k.1), λ h. e.1 (h.0, h.1 refl));
  below = λ z. below_lower room.start.greatest room.end.greatest z;
}
starts_are room false = record {
  above = λ z. (λ h. (h, λ is. absurd cc), λ h. h.0);
  below = λ z. below_lower room.start.greatest room.end.greatest z;
}

nothing_between : (least greatest : Option ℤ) (z : ℤ) → is_empty least greatest ≡ true → IsAboveLimit least z → IsBelow greatest z → ⊥
nothing_between None greatest z e h k = absurd cc
nothing_between (Some least) None z e h k = absurd cc
nothing_between (Some least) (Some greatest) z e h k = grind (arith, ints)

module _ (room : Room) (point : Bool) (starts : Limits) (limits : AreStartLimits room point starts) where
  starts_by : (none closed : Bool) (greatest : Option ℤ) → is_empty starts.least starts.greatest ≡ none
      → is_empty room.end.least room.end.greatest ≡ closed → starts.greatest ≡ greatest
      → AreStarts (FitsEvent room point) (window_by (none || closed) greatest)
  starts_by true closed greatest e d g = λ y h.
      let k = event_starts room point starts limits y h in
      nothing_between starts.least starts.greatest y.start e k.above k.below
  starts_by false true greatest e d g = λ y h.
      nothing_between room.end.least room.end.greatest y.end d h.fits.end.above h.fits.end.below
  starts_by false false None e d g = endless_starts room point starts limits g d
  starts_by false false (Some u) e d g = latest_start room point starts limits u g e d

possible_is : (bounds : List (List OpEdge × Times)) (point : Bool) → AllJoin bounds → (y : Times)
    → FitsEvent (room_of bounds) point y ↔ ArePossibleTimes bounds point y
possible_is bounds point j y = (
  λ h. record { event = h.event; holds = (all_leave bounds j y).0 h.fits },
  λ h. record { event = h.event; fits = (all_leave bounds j y).1 h.holds },
)

pub window_is_of_edges : WindowIsOfEdges
unfolding starts_window
window_is_of_edges bounds point j =
    starts_too _ _ (possible_is bounds point j) (window_in (room_of bounds) (starts_of (room_of bounds) point))
    (starts_by (room_of bounds) point (starts_of (room_of bounds) point) (starts_are (room_of bounds) point) _ _ _ refl refl refl)
