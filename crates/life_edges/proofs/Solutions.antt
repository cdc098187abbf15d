-- The solutions of the edges between numbered points are those of the network of occurrences.
use Rattle.life_edges.proofs.Common.{◌≡◌, ◌++◌, ◌<◌, ℕ, ℤ, pos, ◌-ℤ◌, ◌≤ℤ◌, Bool, true, false, List, [], ◌∷◌, map, Some, refl, sym, ◌∙◌, ap, subst, arith}
use Rattle.life_edges.proofs.Common.{slice_get, All, list_all, flat_map, ints, All-nil, All-cons, All-head, All-tail, All-append, Times, Corner, AStart, AEnd}
use Rattle.life_edges.proofs.Common.{BStart, BEnd, OpEdge, NetEdge, Condition, Plain, Pattern, Program, TimeTest, is_point, Occurrence, bound, bindings}
use Rattle.life_edges.proofs.Common.{occurrence, MeetsTests, start_point_of, end_of, point_of, place_of, net_edge, test_edges, event_edges, pattern_edges}
use Rattle.{life_edges.proofs.{Common.{corner, is_test_met}, Places.{false_is, binder}}, std.proofs.lemmas.Bool.{and_from, and_parts}}
use Rattle.{std.specs.Int.Signed.{le_z}, temporal_ops.specs.{Edges.{edge_holds, edges_hold}, Possible.{IsEvent}}}

abbrev pub Holds : (ℕ → ℤ) → NetEdge → Type 0
Holds v e = (v e.x -ℤ v e.y) ≤ℤ e.most

-- the times of an event that starts and ends at the points of this place
abbrev pub times_at : (ℕ → ℤ) → ℕ → Times
times_at v place = record { start = v (start_point_of place); end = v (end_of place) }

-- the numbers of the points are the times of the events of the conditions
abbrev pub Agree : List Condition → (ℕ → ℤ) → (Occurrence → Times) → Type 0
Agree conditions v times = (place : ℕ) (c : Condition) → slice_get conditions place ≡ Some c → times (occurrence conditions place c) ≡ times_at v place

-- ---- lists

pub all_first : {X : Type 0} (P : X → Type 0) (xs ys : List X) → All P (xs ++ ys) → All P xs
all_first P [] ys h = All-nil P
all_first P (x ∷ xs) ys h = All-cons P x xs (All-head P x (xs ++ ys) h) (all_first P xs ys (All-tail P x (xs ++ ys) h))

pub all_second : {X : Type 0} (P : X → Type 0) (xs ys : List X) → All P (xs ++ ys) → All P ys
all_second P [] ys h = h
all_second P (x ∷ xs) ys h = all_second P xs ys (All-tail P x (xs ++ ys) h)

-- ---- tests

corner_is : (v : ℕ → ℤ) (k m : ℕ) (x : Corner) → corner x (times_at v k) (times_at v m) ≡ v (point_of k m x)
corner_is v k m AStart = refl
corner_is v k m AEnd = refl
corner_is v k m BStart = refl
corner_is v k m BEnd = refl

less : (a b c : ℤ) → le_z (a -ℤ b) c ≡ true → (a -ℤ b) ≤ℤ c
less a b c h = grind (arith, ints)

not_more : (a b c : ℤ) → (a -ℤ b) ≤ℤ c → le_z (a -ℤ b) c ≡ true
not_more a b c h = grind (arith, ints)

edge_is : (v : ℕ → ℤ) (k m : ℕ) (e : OpEdge) → edge_holds (times_at v k) (times_at v m) e ≡ le_z (v (point_of k m e.x) -ℤ v (point_of k m e.y)) e.most
unfolding edge_holds
edge_is v k m e = ap (λ (z : ℤ). le_z (z -ℤ corner e.y (times_at v k) (times_at v m)) e.most) (corner_is v k m e.x)
    ∙ ap (λ (z : ℤ). le_z (v (point_of k m e.x) -ℤ z) e.most) (corner_is v k m e.y)

edges_from : (v : ℕ → ℤ) (k m : ℕ) (edges : List OpEdge) → list_all (edge_holds (times_at v k) (times_at v m)) edges ≡ true → All (Holds v) (map (net_edge k m) edges)
edges_from v k m [] h = All-nil (Holds v)
edges_from v k m (e ∷ edges) h =
    let b = and_parts (edge_holds (times_at v k) (times_at v m) e) (list_all (edge_holds (times_at v k) (times_at v m)) edges) h in
    All-cons (Holds v) (net_edge k m e) (map (net_edge k m) edges) (less (v (point_of k m e.x)) (v (point_of k m e.y)) e.most (sym (edge_is v k m e) ∙ b.0)) (edges_from v k m edges b.1)

edges_to : (v : ℕ → ℤ) (k m : ℕ) (edges : List OpEdge) → All (Holds v) (map (net_edge k m) edges) → list_all (edge_holds (times_at v k) (times_at v m)) edges ≡ true
edges_to v k m [] h = refl
edges_to v k m (e ∷ edges) h = and_from (edge_holds (times_at v k) (times_at v m) e) (list_all (edge_holds (times_at v k) (times_at v m)) edges)
    (edge_is v k m e ∙ not_more (v (point_of k m e.x)) (v (point_of k m e.y)) e.most (All-head (Holds v) (net_edge k m e) (map (net_edge k m) edges) h))
    (edges_to v k m edges (All-tail (Holds v) (net_edge k m e) (map (net_edge k m) edges) h))

-- the event that a test names has the times of its condition's place
named_at : (conditions : List Condition) (v : ℕ → ℤ) (times : Occurrence → Times) (number : ℕ) → Agree conditions v times → number < bindings conditions
    → times (bound number) ≡ times_at v (place_of conditions number)
named_at conditions v times number agree h =
    let b = binder conditions number h in
    sym (ap (λ (n : ℕ). times (bound n)) b.2) ∙ agree (place_of conditions number) (Plain b.0) b.1

test_from : (conditions : List Condition) (v : ℕ → ℤ) (times : Occurrence → Times) (k : ℕ) (test : TimeTest) → Agree conditions v times → test.fact < bindings conditions
    → is_test_met times (times_at v k) test ≡ true → All (Holds v) (test_edges conditions k test)
unfolding edges_hold
test_from conditions v times k test agree h met =
    edges_from v k (place_of conditions test.fact) test.op (subst (λ (y : Times). list_all (edge_holds (times_at v k) y) test.op ≡ true) (named_at conditions v times test.fact agree h) met)

test_to : (conditions : List Condition) (v : ℕ → ℤ) (times : Occurrence → Times) (k : ℕ) (test : TimeTest) → Agree conditions v times → test.fact < bindings conditions
    → All (Holds v) (test_edges conditions k test) → is_test_met times (times_at v k) test ≡ true
unfolding edges_hold
test_to conditions v times k test agree h all =
    subst (λ (y : Times). list_all (edge_holds (times_at v k) y) test.op ≡ true) (sym (named_at conditions v times test.fact agree h)) (edges_to v k (place_of conditions test.fact) test.op all)

abbrev pub Named : List Condition → TimeTest → Type 0
Named conditions test = test.fact < bindings conditions

tests_from : (conditions : List Condition) (v : ℕ → ℤ) (times : Occurrence → Times) (k : ℕ) (tests : List TimeTest) → Agree conditions v times → All (Named conditions) tests
    → list_all (is_test_met times (times_at v k)) tests ≡ true → All (Holds v) (flat_map (test_edges conditions k) tests)
tests_from conditions v times k [] agree named h = All-nil (Holds v)
tests_from conditions v times k (test ∷ tests) agree named h =
    let b = and_parts (is_test_met times (times_at v k) test) (list_all (is_test_met times (times_at v k)) tests) h in
    All-append (Holds v) (test_edges conditions k test) (flat_map (test_edges conditions k) tests)
    (test_from conditions v times k test agree (All-head (Named conditions) test tests named) b.0)
    (tests_from conditions v times k tests agree (All-tail (Named conditions) test tests named) b.1)

tests_to : (conditions : List Condition) (v : ℕ → ℤ) (times : Occurrence → Times) (k : ℕ) (tests : List TimeTest) → Agree conditions v times → All (Named conditions) tests
    → All (Holds v) (flat_map (test_edges conditions k) tests) → list_all (is_test_met times (times_at v k)) tests ≡ true
tests_to conditions v times k [] agree named h = refl
tests_to conditions v times k (test ∷ tests) agree named h = and_from (is_test_met times (times_at v k) test) (list_all (is_test_met times (times_at v k)) tests)
    (test_to conditions v times k test agree (All-head (Named conditions) test tests named) (all_first (Holds v) (test_edges conditions k test) (flat_map (test_edges conditions k) tests) h))
    (tests_to conditions v times k tests agree (All-tail (Named conditions) test tests named) (all_second (Holds v) (test_edges conditions k test) (flat_map (test_edges conditions k) tests) h))

-- ---- events

event_from : (v : ℕ → ℤ) (k : ℕ) (point : Bool) → IsEvent point (times_at v k) → All (Holds v) (event_edges point k)
event_from v k false e = All-cons (Holds v) (record { x = start_point_of k; y = end_of k; most = pos 0 }) [] (below e.ordered) (All-nil (Holds v))
  where
    below : {a b : ℤ} → a ≤ℤ b → (a -ℤ b) ≤ℤ pos 0
    below h = omega (arith, ints)
event_from v k true e = All-cons (Holds v) (record { x = start_point_of k; y = end_of k; most = pos 0 }) (record { x = end_of k; y = start_point_of k; most = pos 0 } ∷ []) (below e.ordered)
    (All-cons (Holds v) (record { x = end_of k; y = start_point_of k; most = pos 0 }) [] (equal (e.ends refl)) (All-nil (Holds v)))
  where
    below : {a b : ℤ} → a ≤ℤ b → (a -ℤ b) ≤ℤ pos 0
    below h = omega (arith, ints)

    equal : {a b : ℤ} → a ≡ b → (a -ℤ b) ≤ℤ pos 0
    equal h = omega (arith, ints)

in_order : (a b : ℤ) → (a -ℤ b) ≤ℤ pos 0 → a ≤ℤ b
in_order a b h = omega (arith, ints)

equals : (a b : ℤ) → (a -ℤ b) ≤ℤ pos 0 → (b -ℤ a) ≤ℤ pos 0 → b ≡ a
equals a b h k = omega (arith, ints)

event_to : (v : ℕ → ℤ) (k : ℕ) (point : Bool) → All (Holds v) (event_edges point k) → IsEvent point (times_at v k)
event_to v k false h = record {
  ordered = in_order (v (start_point_of k)) (v (end_of k)) (All-head (Holds v) (record { x = start_point_of k; y = end_of k; most = pos 0 }) [] h);
  ends = λ e. absurd (false_is e);
}
event_to v k true h =
    let first = All-head (Holds v) (record { x = start_point_of k; y = end_of k; most = pos 0 }) (record { x = end_of k; y = start_point_of k; most = pos 0 } ∷ []) h in
    let rest = All-tail (Holds v) (record { x = start_point_of k; y = end_of k; most = pos 0 }) (record { x = end_of k; y = start_point_of k; most = pos 0 } ∷ []) h in
    let second = All-head (Holds v) (record { x = end_of k; y = start_point_of k; most = pos 0 }) [] rest in record {
      ordered = in_order (v (start_point_of k)) (v (end_of k)) first;
      ends = λ e. equals (v (start_point_of k)) (v (end_of k)) first second;
    }

-- ---- conditions

pub pattern_from : (p : Program) (conditions : List Condition) (v : ℕ → ℤ) (times : Occurrence → Times) (k : ℕ) (pattern : Pattern) → Agree conditions v times
    → All (Named conditions) pattern.times → MeetsTests p pattern times (times_at v k) → All (Holds v) (pattern_edges p conditions k pattern)
pattern_from p conditions v times k pattern agree named m = All-append (Holds v) (event_edges (is_point p pattern.ty.0) k) (flat_map (test_edges conditions k) pattern.times)
    (event_from v k (is_point p pattern.ty.0) m.event) (tests_from conditions v times k pattern.times agree named m.tests)

pub pattern_to : (p : Program) (conditions : List Condition) (v : ℕ → ℤ) (times : Occurrence → Times) (k : ℕ) (pattern : Pattern) → Agree conditions v times
    → All (Named conditions) pattern.times → All (Holds v) (pattern_edges p conditions k pattern) → MeetsTests p pattern times (times_at v k)
pattern_to p conditions v times k pattern agree named h = record {
  event = event_to v k (is_point p pattern.ty.0) (all_first (Holds v) (event_edges (is_point p pattern.ty.0) k) (flat_map (test_edges conditions k) pattern.times) h);
  tests = tests_to conditions v times k pattern.times agree named (all_second (Holds v) (event_edges (is_point p pattern.ty.0) k) (flat_map (test_edges conditions k) pattern.times) h);
}
