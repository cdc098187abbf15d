-- The edges of a network are such as a network of 16 points takes.
use Rattle.life_edges.proofs.Common.{◌≡◌, ◌+◌, ◌^◌, ◌<◌, ◌≤◌, ℕ, zero, suc, ℤ, pos, negsuc, ◌≤ℤ◌, Bool, true, false, List, [], ◌∷◌, length, Some, subst, arith}
use Rattle.life_edges.proofs.Common.{slice_get, All, flat_map, ints, All-nil, All-cons, All-head, All-tail, All-append, All-weaker, Corner, AStart, AEnd}
use Rattle.life_edges.proofs.Common.{BStart, BEnd, OpEdge, NetEdge, Condition, Program, TimeTest, pattern_of, HaveOperators, is_point, NameEarlier}
use Rattle.life_edges.proofs.Common.{start_point_of, end_of, point_of, place_of, net_edge, test_edges, event_edges, pattern_edges, stands_in_network}
use Rattle.life_edges.proofs.{Common.{edges_of_conditions, All-map, slice_get_within, IsOpEdge, IsWithin}, Places.{the_same, place_below, named_here}}
use Rattle.{life_edges.proofs.{Solutions.{Named}, Solved.{held, each_from}}, temporal_net.specs.Networks.{HasItsPoints, IsSmallEdge}}
use Rattle.rule_model.specs.Maturity.{AreOperators}

record Fits (e : NetEdge) : Type 0 where
  among : HasItsPoints 16 e
  small : IsSmallEdge e

point_below : (k m : ℕ) → k < 8 → m < 8 → (x : Corner) → point_of k m x < 16
point_below k m h j AStart = omega arith
point_below k m h j AEnd = omega arith
point_below k m h j BStart = omega arith
point_below k m h j BEnd = omega arith

sized : (z : ℤ) → IsWithin (2 ^ 53 + 1) z → (negsuc 9007199254740992 ≤ℤ z) × (z ≤ℤ pos 9007199254740993)
sized z h = h

edge_fits : (k m : ℕ) → k < 8 → m < 8 → (e : OpEdge) → IsOpEdge e → Fits (net_edge k m e)
edge_fits k m h j e op = record { among = (point_below k m h j e.x, point_below k m h j e.y); small = sized e.most op.sized }

tests_fit : (conditions : List Condition) (k : ℕ) (tests : List TimeTest) → length conditions ≤ 8 → k < 8 → AreOperators tests → All (Named conditions) tests
    → All Fits (flat_map (test_edges conditions k) tests)
tests_fit conditions k [] few h ops named = All-nil Fits
tests_fit conditions k (test ∷ tests) few h ops named =
    let below = place_below conditions test.fact (All-head (Named conditions) test tests named) in
    let m : place_of conditions test.fact < 8 = omega arith in
    All-append Fits (test_edges conditions k test) (flat_map (test_edges conditions k) tests)
    (All-map Fits (net_edge k (place_of conditions test.fact)) test.op (All-weaker IsOpEdge (λ (e : OpEdge). Fits (net_edge k (place_of conditions test.fact) e)) (edge_fits k (place_of conditions test.fact) h m) test.op ops.0.each))
    (tests_fit conditions k tests few h ops.1 (All-tail (Named conditions) test tests named))

no_length : (x y : ℕ) → x < 16 → y < 16 → Fits (record { x = x; y = y; most = pos 0 })
no_length x y h j = record { among = (h, j); small = (omega (arith, ints), omega (arith, ints)) }

event_fits : (k : ℕ) (point : Bool) → k < 8 → All Fits (event_edges point k)
event_fits k false h =
    let start : start_point_of k < 16 = omega arith in
    let end : end_of k < 16 = omega arith in
    All-cons Fits (record { x = start_point_of k; y = end_of k; most = pos 0 }) [] (no_length (start_point_of k) (end_of k) start end) (All-nil Fits)
event_fits k true h =
    let start : start_point_of k < 16 = omega arith in
    let end : end_of k < 16 = omega arith in
    All-cons Fits (record { x = start_point_of k; y = end_of k; most = pos 0 }) (record { x = end_of k; y = start_point_of k; most = pos 0 } ∷ []) (no_length (start_point_of k) (end_of k) start end)
    (All-cons Fits (record { x = end_of k; y = start_point_of k; most = pos 0 }) [] (no_length (end_of k) (start_point_of k) end start) (All-nil Fits))

operators_at : (conditions : List Condition) (k : ℕ) (c : Condition) → HaveOperators conditions → slice_get conditions k ≡ Some c → AreOperators (pattern_of c).times
operators_at [] k c h at = absurd cc
operators_at (d ∷ conditions) zero c h at = subst (λ (x : Condition). AreOperators (pattern_of x).times) (the_same at) h.0
operators_at (d ∷ conditions) (suc k) c h at = operators_at conditions k c h.1 at

all_fit : (p : Program) (conditions : List Condition) (places : List ℕ) → length conditions ≤ 8 → HaveOperators conditions → NameEarlier conditions
    → All Fits (edges_of_conditions p conditions places 0 conditions)
all_fit p conditions places few ops named = each_from Fits p conditions places 0 conditions (λ k c at.
    let within : k < length conditions = slice_get_within conditions k c at in
    let below : 0 + k < 8 = omega arith in
    held Fits (stands_in_network p places (0 + k) c) (pattern_edges p conditions (0 + k) (pattern_of c)) (λ e.
    All-append Fits (event_edges (is_point p (pattern_of c).ty.0) (0 + k)) (flat_map (test_edges conditions (0 + k)) (pattern_of c).times)
    (event_fits (0 + k) (is_point p (pattern_of c).ty.0) below)
    (tests_fit conditions (0 + k) (pattern_of c).times few below (operators_at conditions k c ops at) (named_here conditions k c named at))))

pub all_among : (p : Program) (conditions : List Condition) (places : List ℕ) → length conditions ≤ 8 → HaveOperators conditions → NameEarlier conditions
    → All (HasItsPoints 16) (edges_of_conditions p conditions places 0 conditions)
all_among p conditions places few ops named = All-weaker Fits (HasItsPoints 16) (λ e h. h.among) (edges_of_conditions p conditions places 0 conditions) (all_fit p conditions places few ops named)

pub all_small : (p : Program) (conditions : List Condition) (places : List ℕ) → length conditions ≤ 8 → HaveOperators conditions → NameEarlier conditions
    → All IsSmallEdge (edges_of_conditions p conditions places 0 conditions)
all_small p conditions places few ops named = All-weaker Fits IsSmallEdge (λ e h. h.small) (edges_of_conditions p conditions places 0 conditions) (all_fit p conditions places few ops named)
