-- What an edge takes out of the room, and what the room says of starts.
use Rattle.temporal_ops.proofs.Common.{◌≡◌, ◌↔◌, ℕ, ℤ, ◌+◌, ◌<◌, ◌≤◌, ◌+ℤ◌, ◌-ℤ◌, ◌≤ℤ◌, Bool, true, false, ◌&&◌, List, length, take, get_or, Option, Some, None}
use Rattle.temporal_ops.proofs.Common.{refl, sym, ap, ◌∙◌, arith, int_max, list_all, ints, clamps, take_all, Times, Corner, AStart, AEnd, OpEdge, Limits, Room}
use Rattle.temporal_ops.proofs.Common.{corner, edge_holds, all_hold, IsLatest, ArePossibleTimes, AreStartsUnbounded, is_empty, IsAboveLimit, IsBelow}
use Rattle.{temporal_ops.proofs.{Common.{LiesBetweenLimits, FitsRoom, FitsEvent, AreStartLimits}, Rows.{edge_bounds}}, std.proofs.lemmas.Bool.{and_from}}
use Rattle.std.proofs.lemmas.{Bool.{and_parts}, List.Folds.{list_all_more}}

-- one test more of a list
pub one_more : {X : Type 0} (p : X → Bool) (xs : List X) (i : ℕ) (x d : X) → i < length xs → x ≡ get_or xs i d
    → (A B C : Type 0) → (B ↔ (A × (list_all p (take i xs) ≡ true))) → (C ↔ (B × (p x ≡ true)))
    → C ↔ (A × (list_all p (take (i + 1) xs) ≡ true))
one_more {X} p xs i x d below is A B C old new =
    let e : list_all p (take (i + 1) xs) ≡ (list_all p (take i xs) && p x) = list_all_more p xs i d below ∙ ap (λ (z : X). list_all p (take i xs) && p z) (sym is) in (
      λ c.
          let n = new.0 c in
          let o = old.0 n.0 in
          (o.0, e ∙ and_from (list_all p (take i xs)) (p x) o.1 n.1),
      λ h.
          let q = and_parts (list_all p (take i xs)) (p x) (sym e ∙ h.1) in
          new.1 (old.1 (h.0, q.0), q.1),
    )

-- an edge as a bound on the points that it joins
edge_at : (t b : Times) (edge : OpEdge) (x y : Corner) → edge.x ≡ x → edge.y ≡ y
    → (edge_holds t b edge ≡ true) ↔ ((corner x t b -ℤ corner y t b) ≤ℤ edge.most)
edge_at t b edge x y is-x is-y =
    let h = edge_bounds t b edge in
    (λ k. rw (← is-x, ← is-y) (h.0 k), λ k. h.1 (rw (is-x, is-y) k))

-- an edge that joins a point of the event with the point z of the bound event b
module _ (room : Room) (new : Limits) (b : Times) (edge : OpEdge) (z : Corner) (limit : ℤ) where
  -- as an upper limit of the start
  pub start_end_by : edge.x ≡ AStart → edge.y ≡ z → ((t : Times) → limit ≡ corner z t b +ℤ edge.most)
      → ((p : ℤ) → LiesBetweenLimits new p ↔ (LiesBetweenLimits room.start p × (p ≤ℤ limit)))
      → (t : Times) → FitsRoom (record { start = new; end = room.end }) t ↔ (FitsRoom room t × (edge_holds t b edge ≡ true))
  start_end_by is-x is-y is new-is t =
      let e = edge_at t b edge AStart z is-x is-y in
      let l = is t in (
        λ h.
            let n = (new-is t.start).0 h.start in
            let within = n.1 in
            (record { start = n.0; end = h.end }, e.1 (omega (arith, ints))),
        λ h.
            let within = e.0 h.1 in
            record { start = (new-is t.start).1 (h.0.start, omega (arith, ints)); end = h.0.end },
      )

  -- as an upper limit of the end
  pub end_end_by : edge.x ≡ AEnd → edge.y ≡ z → ((t : Times) → limit ≡ corner z t b +ℤ edge.most)
      → ((p : ℤ) → LiesBetweenLimits new p ↔ (LiesBetweenLimits room.end p × (p ≤ℤ limit)))
      → (t : Times) → FitsRoom (record { start = room.start; end = new }) t ↔ (FitsRoom room t × (edge_holds t b edge ≡ true))
  end_end_by is-x is-y is new-is t =
      let e = edge_at t b edge AEnd z is-x is-y in
      let l = is t in (
        λ h.
            let n = (new-is t.end).0 h.end in
            let within = n.1 in
            (record { start = h.start; end = n.0 }, e.1 (omega (arith, ints))),
        λ h.
            let within = e.0 h.1 in
            record { start = h.0.start; end = (new-is t.end).1 (h.0.end, omega (arith, ints)) },
      )

  -- as a lower limit of the start
  pub start_begin_at : edge.x ≡ z → edge.y ≡ AStart → ((t : Times) → limit ≡ corner z t b -ℤ edge.most)
      → ((p : ℤ) → LiesBetweenLimits new p ↔ (LiesBetweenLimits room.start p × (limit ≤ℤ p)))
      → (t : Times) → FitsRoom (record { start = new; end = room.end }) t ↔ (FitsRoom room t × (edge_holds t b edge ≡ true))
  start_begin_at is-x is-y is new-is t =
      let e = edge_at t b edge z AStart is-x is-y in
      let l = is t in (
        λ h.
            let n = (new-is t.start).0 h.start in
            let within = n.1 in
            (record { start = n.0; end = h.end }, e.1 (omega (arith, ints))),
        λ h.
            let within = e.0 h.1 in
            record { start = (new-is t.start).1 (h.0.start, omega (arith, ints)); end = h.0.end },
      )

  -- as a lower limit of the end
  pub end_begin_at : edge.x ≡ z → edge.y ≡ AEnd → ((t : Times) → limit ≡ corner z t b -ℤ edge.most)
      → ((p : ℤ) → LiesBetweenLimits new p ↔ (LiesBetweenLimits room.end p × (limit ≤ℤ p)))
      → (t : Times) → FitsRoom (record { start = room.start; end = new }) t ↔ (FitsRoom room t × (edge_holds t b edge ≡ true))
  end_begin_at is-x is-y is new-is t =
      let e = edge_at t b edge z AEnd is-x is-y in
      let l = is t in (
        λ h.
            let n = (new-is t.end).0 h.end in
            let within = n.1 in
            (record { start = h.start; end = n.0 }, e.1 (omega (arith, ints))),
        λ h.
            let within = e.0 h.1 in
            record { start = h.0.start; end = (new-is t.end).1 (h.0.end, omega (arith, ints)) },
      )

-- s, or the least number between the limits where that is greater
abbrev raised : Option ℤ → ℤ → ℤ
raised None s = s
raised (Some least) s = int_max s least

raised_above : (least : Option ℤ) (s : ℤ) → IsAboveLimit least (raised least s)
raised_above None s = tt
raised_above (Some least) s = omega (arith, ints, clamps)

raised_more : (least : Option ℤ) (s : ℤ) → s ≤ℤ raised least s
raised_more None s = omega (arith, ints)
raised_more (Some least) s = omega (arith, ints, clamps)

raised_same : (least : Option ℤ) (s : ℤ) → IsAboveLimit least s → raised least s ≡ s
raised_same None s h = refl
raised_same (Some least) s h = omega (arith, ints, clamps)

raised_below : (least greatest : Option ℤ) (s : ℤ) → is_empty least greatest ≡ false → IsBelow greatest s
    → IsBelow greatest (raised least s)
raised_below None greatest s room h = h
raised_below (Some least) None s room h = tt
raised_below (Some least) (Some greatest) s room h =
    let k : least ≤ℤ greatest = grind (arith, ints) in omega (arith, ints, clamps)

above_at : (least : Option ℤ) (greatest : ℤ) → is_empty least (Some greatest) ≡ false → IsAboveLimit least greatest
above_at None greatest room = tt
above_at (Some least) greatest room = grind (arith, ints)

below_less : (greatest : Option ℤ) (s e : ℤ) → s ≤ℤ e → IsBelow greatest e → IsBelow greatest s
below_less None s e h k = tt
below_less (Some greatest) s e h k = omega (arith, ints)

-- the limits of the starts are met exactly by the starts of the events that fit
module _ (room : Room) (point : Bool) (starts : Limits) (limits : AreStartLimits room point starts) where
  pub event_starts : (y : Times) → FitsEvent room point y → LiesBetweenLimits starts y.start
  event_starts y h = record {
    above = (limits.above y.start).1 (
      h.fits.start.above,
      λ e.
          let same = h.event.ends e in rw (← same) h.fits.end.above,
    );
    below = (limits.below y.start).1 (h.fits.start.below, below_less room.end.greatest y.start y.end h.event.ordered h.fits.end.below);
  }

  start_event : is_empty room.end.least room.end.greatest ≡ false → (s : ℤ) → LiesBetweenLimits starts s
      → (y : Times) × FitsEvent room point y × (y.start ≡ s)
  start_event space s h =
      let above = (limits.above s).0 h.above in
      let below = (limits.below s).0 h.below in
      let e : ℤ = raised room.end.least s in (
        record { start = s; end = e },
        record {
          event = record { ordered = raised_more room.end.least s; ends = λ is. raised_same room.end.least s (above.1 is) };
          fits = record {
            start = record { above = above.0; below = below.0 };
            end = record {
              above = raised_above room.end.least s;
              below = raised_below room.end.least room.end.greatest s space below.1;
            };
          };
        },
        refl,
      )

  -- without an upper limit there is a start beyond every number
  pub endless_starts : starts.greatest ≡ None → is_empty room.end.least room.end.greatest ≡ false
      → AreStartsUnbounded (FitsEvent room point)
  endless_starts none space n =
      let s : ℤ = raised starts.least n in
      let between : LiesBetweenLimits starts s = record { above = raised_above starts.least n; below = rw none tt } in
      let found = start_event space s between in
      (found.0, found.1, rw found.2 (raised_more starts.least n))

  -- the upper limit is the latest start
  pub latest_start : (u : ℤ) → starts.greatest ≡ Some u → is_empty starts.least starts.greatest ≡ false
      → is_empty room.end.least room.end.greatest ≡ false → IsLatest (FitsEvent room point) u
  latest_start u is some space =
      let same : u ≤ℤ u = omega (arith, ints) in
      let between : LiesBetweenLimits starts u = record { above = above_at starts.least u (rw is at some); below = rw is same } in
      let found = start_event space u between in
      record {
        event = found.0;
        possible = found.1;
        starts = found.2;
        latest = λ y h. let k = (event_starts y h).below in rw is at k;
      }

-- where the room is what all operators leave, the events that fit are the possible events
pub fitting_is_possible : (bounds : List (List OpEdge × Times)) (point : Bool) (all room : Room) (i : ℕ)
    → ((y : Times) → FitsRoom all y) → length bounds ≤ i
    → ((y : Times) → FitsRoom room y ↔ (FitsRoom all y × (all_hold (take i bounds) y ≡ true)))
    → (y : Times) → FitsEvent room point y ↔ ArePossibleTimes bounds point y
fitting_is_possible bounds point all room i whole past left y =
    let e : all_hold (take i bounds) y ≡ all_hold bounds y = ap (λ (b : List (List OpEdge × Times)). all_hold b y) (take_all i bounds past) in (
      λ h. record { event = h.event; holds = sym e ∙ ((left y).0 h.fits).1 },
      λ h. record { event = h.event; fits = (left y).1 (whole y, e ∙ h.holds) },
    )
