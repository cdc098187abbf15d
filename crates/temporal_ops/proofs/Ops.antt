-- The edges of each word are those of an operator.
use Rattle.temporal_ops.proofs.Common.{◌≡◌, ℤ, pos, ◌^◌, ◌≤◌, not, List, [], ◌∷◌, length, Option, Some, None, IfSome, map, option_map, refl, arith, lit≤}
use Rattle.temporal_ops.proofs.Common.{length-map, int_max, ints, clamps, Corner, AStart, AEnd, BStart, BEnd, OpEdge, OpWord, After, Before, Coincides, During}
use Rattle.temporal_ops.proofs.Common.{Includes, Finishes, FinishedBy, Starts, StartedBy, Meets, MetBy, Overlaps, OverlappedBy, is_tested, IsOp, near}
use Rattle.temporal_ops.proofs.Common.{tolerance, gap_edges, coincide_edges, during_edges, order_edges, overlaps_edges, opposite, opposite_edge, int_min}
use Rattle.temporal_ops.proofs.Common.{AllByRecursion, All-from_recursion, recursion_from_All, All-map, All-weaker, IsWithin, IsOpEdge, EdgesAreOps, at_most}
use Rattle.temporal_ops.{proofs.Common.{least_difference, earlier}, specs.Operators.{edges_of}}

pub upper : (x y : Corner) (most : ℤ) → is_tested x ≡ not (is_tested y) → IsWithin (2 ^ 53) most → IsOpEdge (at_most x y most)
upper x y most j h = record { joins = j; sized = (omega (arith, ints), omega (arith, ints)) }

pub lower : (x y : Corner) (least : ℤ) → is_tested y ≡ not (is_tested x) → IsWithin (2 ^ 53) least → IsOpEdge (least_difference x y least)
lower x y least j h = record { joins = j; sized = (omega (arith, ints), omega (arith, ints)) }

op_of : (edges : List OpEdge) → length edges ≤ 5 → AllByRecursion IsOpEdge edges → IsOp edges
op_of edges few each = record { few = few; each = All-from_recursion IsOpEdge edges each }

-- a list of edges of an operator, by its length
pub op_of_two : (a b : OpEdge) → IsOpEdge a → IsOpEdge b → IsOp (a ∷ b ∷ [])
op_of_two a b i j = op_of _ (lit≤ tt) (i, (j, tt))

pub op_of_three : (a b c : OpEdge) → IsOpEdge a → IsOpEdge b → IsOpEdge c → IsOp (a ∷ b ∷ c ∷ [])
op_of_three a b c i j k = op_of _ (lit≤ tt) (i, (j, (k, tt)))

pub op_of_four : (a b c d : OpEdge) → IsOpEdge a → IsOpEdge b → IsOpEdge c → IsOpEdge d → IsOp (a ∷ b ∷ c ∷ d ∷ [])
op_of_four a b c d i j k l = op_of _ (lit≤ tt) (i, (j, (k, (l, tt))))

pub op_of_five : (a b c d e : OpEdge) → IsOpEdge a → IsOpEdge b → IsOpEdge c → IsOpEdge d → IsOpEdge e → IsOp (a ∷ b ∷ c ∷ d ∷ e ∷ [])
op_of_five a b c d e i j k l m = op_of _ (lit≤ tt) (i, (j, (k, (l, (m, tt)))))

pub ruleset op_lists = (op_of_two, op_of_three, op_of_four, op_of_five)

-- of numbers of at most this size
abbrev Sized : List ℤ → Type 0
Sized params = AllByRecursion (IsWithin (2 ^ 53)) params

least : (p q : ℤ) → IsWithin (2 ^ 53) p → IsWithin (2 ^ 53) q → IsWithin (2 ^ 53) (int_min p q)
least p q h k = (omega (arith, ints, clamps), omega (arith, ints, clamps))

greatest : (p q : ℤ) → IsWithin (2 ^ 53) p → IsWithin (2 ^ 53) q → IsWithin (2 ^ 53) (int_max p q)
greatest p q h k = (omega (arith, ints, clamps), omega (arith, ints, clamps))

zero_sized : IsWithin (2 ^ 53) (pos 0)
zero_sized = (omega (arith, ints), omega (arith, ints))

one_sized : IsWithin (2 ^ 53) (pos 1)
one_sized = (omega (arith, ints), omega (arith, ints))

order : (x y : Corner) → is_tested x ≡ not (is_tested y) → IsOpEdge (earlier x y)
order x y j = record { joins = j; sized = (omega (arith, ints), omega (arith, ints)) }

pub gap_is_op : (x y : Corner) → is_tested x ≡ not (is_tested y) → is_tested y ≡ not (is_tested x) → (params : List ℤ) → Sized params
    → IfSome (gap_edges x y params) IsOp
gap_is_op x y j k [] h = op_of _ (lit≤ tt) (lower x y (pos 1) k one_sized, tt)
gap_is_op x y j k (p ∷ []) h = op_of _ (lit≤ tt) (lower x y p k h.0, tt)
gap_is_op x y j k (p ∷ q ∷ []) h =
    op_of _ (lit≤ tt) (lower x y _ k (least p q h.0 h.1.0), (upper x y _ j (greatest p q h.0 h.1.0), tt))
gap_is_op x y j k (p ∷ q ∷ more ∷ others) h = tt

coincide_is_op : (params : List ℤ) → Sized params → IfSome (coincide_edges params) IsOp
coincide_is_op [] h =
    op_of _ (lit≤ tt) (upper AStart BStart _ refl zero_sized, (upper BStart AStart _ refl zero_sized, (upper AEnd BEnd _ refl zero_sized, (upper BEnd AEnd _ refl zero_sized, tt))))
coincide_is_op (most ∷ []) h =
    op_of _ (lit≤ tt) (upper AStart BStart _ refl h.0, (upper BStart AStart _ refl h.0, (upper AEnd BEnd _ refl h.0, (upper BEnd AEnd _ refl h.0, tt))))
coincide_is_op (most ∷ end_most ∷ []) h =
    op_of _ (lit≤ tt) (upper AStart BStart _ refl h.0, (upper BStart AStart _ refl h.0, (upper AEnd BEnd _ refl h.1.0, (upper BEnd AEnd _ refl h.1.0, tt))))
coincide_is_op (most ∷ end_most ∷ more ∷ others) h = tt

during_is_op : (params : List ℤ) → Sized params → IfSome (during_edges params) IsOp
during_is_op [] h =
    op_of _ (lit≤ tt) (order BStart AStart refl, (order AEnd BEnd refl, tt))
during_is_op (most ∷ []) h =
    op_of _ (lit≤ tt) (order BStart AStart refl, (upper AStart BStart _ refl h.0, (order AEnd BEnd refl, (upper BEnd AEnd _ refl h.0, tt))))
during_is_op (least ∷ most ∷ []) h =
    op_of _ (lit≤ tt) (lower AStart BStart _ refl h.0, (upper AStart BStart _ refl h.1.0, (lower BEnd AEnd _ refl h.0, (upper BEnd AEnd _ refl h.1.0, tt))))
during_is_op (least ∷ most ∷ end_least ∷ []) h = tt
during_is_op (least ∷ most ∷ end_least ∷ end_most ∷ []) h =
    op_of _ (lit≤ tt) (lower AStart BStart _ refl h.0, (upper AStart BStart _ refl h.1.0, (lower BEnd AEnd _ refl h.1.1.0, (upper BEnd AEnd _ refl h.1.1.1.0, tt))))
during_is_op (least ∷ most ∷ end_least ∷ end_most ∷ more ∷ others) h = tt

order_is_op : (first second x y : Corner) → is_tested first ≡ not (is_tested second) → is_tested x ≡ not (is_tested y) → is_tested y ≡ not (is_tested x)
    → (params : List ℤ) → Sized params → IfSome (order_edges first second x y params) IsOp
order_is_op first second x y i j k [] h =
    op_of _ (lit≤ tt) (order first second i, (upper x y _ j zero_sized, (upper y x _ k zero_sized, tt)))
order_is_op first second x y i j k (most ∷ []) h =
    op_of _ (lit≤ tt) (order first second i, (upper x y _ j h.0, (upper y x _ k h.0, tt)))
order_is_op first second x y i j k (most ∷ more ∷ others) h = tt

near_is_op : (x y : Corner) → is_tested x ≡ not (is_tested y) → is_tested y ≡ not (is_tested x)
    → (params : List ℤ) → Sized params → IfSome (option_map (near x y) (tolerance params)) IsOp
near_is_op x y j k [] h = op_of _ (lit≤ tt) (upper x y _ j zero_sized, (upper y x _ k zero_sized, tt))
near_is_op x y j k (most ∷ []) h = op_of _ (lit≤ tt) (upper x y _ j h.0, (upper y x _ k h.0, tt))
near_is_op x y j k (most ∷ more ∷ others) h = tt

overlaps_is_op : (params : List ℤ) → Sized params → IfSome (overlaps_edges params) IsOp
overlaps_is_op [] h =
    op_of _ (lit≤ tt) (order AStart BStart refl, (order BStart AEnd refl, (order AEnd BEnd refl, tt)))
overlaps_is_op (most ∷ []) h =
    op_of _ (lit≤ tt) (order AStart BStart refl, (order BStart AEnd refl, (order AEnd BEnd refl, (lower AEnd BStart _ refl zero_sized, (upper AEnd BStart _ refl h.0, tt)))))
overlaps_is_op (least ∷ most ∷ []) h =
    op_of _ (lit≤ tt) (order AStart BStart refl, (order BStart AEnd refl, (order AEnd BEnd refl, (lower AEnd BStart _ refl h.0, (upper AEnd BStart _ refl h.1.0, tt)))))
overlaps_is_op (least ∷ most ∷ more ∷ others) h = tt

opposite_joins : (x y : Corner) → is_tested x ≡ not (is_tested y) → is_tested (opposite x) ≡ not (is_tested (opposite y))
opposite_joins AStart BStart h = refl
opposite_joins AStart BEnd h = refl
opposite_joins AEnd BStart h = refl
opposite_joins AEnd BEnd h = refl
opposite_joins BStart AStart h = refl
opposite_joins BStart AEnd h = refl
opposite_joins BEnd AStart h = refl
opposite_joins BEnd AEnd h = refl
opposite_joins x y h = absurd cc

pub opposite_is_op : (edges : List OpEdge) → IsOp edges → IsOp (map opposite_edge edges)
opposite_is_op edges h = record {
  few = omega (arith, length-map edges opposite_edge, h.few);
  each = All-map IsOpEdge opposite_edge edges (All-weaker IsOpEdge (λ edge. IsOpEdge (opposite_edge edge))
      (λ edge k. record { joins = opposite_joins edge.x edge.y k.joins; sized = k.sized }) edges h.each);
}

opposite_row : (edges : Option (List OpEdge)) → IfSome edges IsOp → IfSome (option_map (map opposite_edge) edges) IsOp
opposite_row (Some edges) h = opposite_is_op edges h
opposite_row None h = tt

is_op : (word : OpWord) (params : List ℤ) → Sized params → IfSome (edges_of word params) IsOp
unfolding edges_of
is_op After params h = gap_is_op AStart BEnd refl refl params h
is_op Before params h = gap_is_op BStart AEnd refl refl params h
is_op Coincides params h = coincide_is_op params h
is_op During params h = during_is_op params h
is_op Includes params h = opposite_row _ (during_is_op params h)
is_op Finishes params h = order_is_op BStart AStart AEnd BEnd refl refl refl params h
is_op FinishedBy params h = order_is_op AStart BStart AEnd BEnd refl refl refl params h
is_op Starts params h = order_is_op AEnd BEnd AStart BStart refl refl refl params h
is_op StartedBy params h = order_is_op BEnd AEnd AStart BStart refl refl refl params h
is_op Meets params h = near_is_op AEnd BStart refl refl params h
is_op MetBy params h = near_is_op AStart BEnd refl refl params h
is_op Overlaps params h = overlaps_is_op params h
is_op OverlappedBy params h = opposite_row _ (overlaps_is_op params h)

pub edges_are_ops : EdgesAreOps
edges_are_ops word params h = is_op word params (recursion_from_All (IsWithin (2 ^ 53)) params h)
