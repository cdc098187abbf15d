-- The edges of each word mean its row of the table.
use Rattle.temporal_ops.proofs.Common.{◌≡◌, ℤ, ◌-ℤ◌, ◌≤ℤ◌, true, List, [], ◌∷◌, Option, Some, None, map, option_map, refl, sym, ◌∙◌, arith, ◌↔◌, list_all, ints}
use Rattle.temporal_ops.proofs.Common.{clamps, Times, Corner, AStart, AEnd, BStart, BEnd, OpEdge, After, Before, Coincides, During, Includes, Finishes}
use Rattle.temporal_ops.proofs.Common.{FinishedBy, Starts, StartedBy, Meets, MetBy, Overlaps, OverlappedBy, corner, Means, near, tolerance, gap_edges}
use Rattle.temporal_ops.proofs.Common.{coincide_edges, during_edges, order_edges, overlaps_edges, opposite, opposite_edge, Row, says, no_row, table_row_of}
use Rattle.temporal_ops.{proofs.Common.{EdgesMeanRows, exchanged, during, overlaps}, specs.{Edges.{edge_holds, edges_hold}, Operators.{edges_of}}}
use Rattle.std.proofs.lemmas.Bool.{and_from, and_parts}

-- the edges as bounds on numbers
abbrev pub Bounds : List OpEdge → Times → Times → Type 0
Bounds [] a b = Unit {0}
Bounds (edge ∷ edges) a b = ((corner edge.x a b -ℤ corner edge.y a b) ≤ℤ edge.most) × Bounds edges a b

pub edge_bounds : (a b : Times) (edge : OpEdge) → (edge_holds a b edge ≡ true) ↔ ((corner edge.x a b -ℤ corner edge.y a b) ≤ℤ edge.most)
unfolding edge_holds
edge_bounds a b edge = (λ h. grind (arith, ints), λ h. grind (arith, ints))

pub from_bounds : (edges : List OpEdge) (a b : Times) → Bounds edges a b → edges_hold edges a b ≡ true
unfolding edges_hold
from_bounds [] a b h = refl
from_bounds (edge ∷ edges) a b h = and_from _ _ ((edge_bounds a b edge).1 h.0) (from_bounds edges a b h.1)

pub to_bounds : (edges : List OpEdge) (a b : Times) → edges_hold edges a b ≡ true → Bounds edges a b
unfolding edges_hold
to_bounds [] a b h = tt
to_bounds (edge ∷ edges) a b h =
    let k = and_parts (edge_holds a b edge) (list_all (edge_holds a b) edges) h in
    ((edge_bounds a b edge).0 k.0, to_bounds edges a b k.1)

-- a row is met where the bounds of its edges are
by_bounds : (edges : List OpEdge) (P : Times → Times → Type 0) → ((a b : Times) → Bounds edges a b → P a b) → ((a b : Times) → P a b → Bounds edges a b)
    → (a b : Times) → (edges_hold edges a b ≡ true) ↔ P a b
by_bounds edges P f g a b = (λ h. f a b (to_bounds edges a b h), λ h. from_bounds edges a b (g a b h))

after_rows : (params : List ℤ) → Means (gap_edges AStart BEnd params) (table_row_of After params)
after_rows [] = by_bounds _ _ (λ a b h. omega (arith, ints)) (λ a b h. (omega (arith, ints), tt))
after_rows (least ∷ []) = by_bounds _ _ (λ a b h. omega (arith, ints)) (λ a b h. (omega (arith, ints), tt))
after_rows (p ∷ q ∷ []) = by_bounds _ _ (λ a b h. (omega (arith, ints, clamps), omega (arith, ints, clamps))) (λ a b h. (omega (arith, ints, clamps), (omega (arith, ints, clamps), tt)))
after_rows (p ∷ q ∷ more ∷ others) = tt

before_rows : (params : List ℤ) → Means (gap_edges BStart AEnd params) (table_row_of Before params)
before_rows [] = by_bounds _ _ (λ a b h. omega (arith, ints)) (λ a b h. (omega (arith, ints), tt))
before_rows (least ∷ []) = by_bounds _ _ (λ a b h. omega (arith, ints)) (λ a b h. (omega (arith, ints), tt))
before_rows (p ∷ q ∷ []) = by_bounds _ _ (λ a b h. (omega (arith, ints, clamps), omega (arith, ints, clamps))) (λ a b h. (omega (arith, ints, clamps), (omega (arith, ints, clamps), tt)))
before_rows (p ∷ q ∷ more ∷ others) = tt

coincide_rows : (params : List ℤ) → Means (coincide_edges params) (table_row_of Coincides params)
coincide_rows [] = by_bounds _ _ (λ a b h. (omega (arith, ints), omega (arith, ints))) (λ a b h. (omega (arith, ints), (omega (arith, ints), (omega (arith, ints), (omega (arith, ints), tt)))))
coincide_rows (most ∷ []) = by_bounds _ _ (λ a b h. ((omega (arith, ints), omega (arith, ints)), (omega (arith, ints), omega (arith, ints)))) (λ a b h. (omega (arith, ints), (omega (arith, ints), (omega (arith, ints), (omega (arith, ints), tt)))))
coincide_rows (most ∷ end_most ∷ []) = by_bounds _ _ (λ a b h. ((omega (arith, ints), omega (arith, ints)), (omega (arith, ints), omega (arith, ints)))) (λ a b h. (omega (arith, ints), (omega (arith, ints), (omega (arith, ints), (omega (arith, ints), tt)))))
coincide_rows (most ∷ end_most ∷ more ∷ others) = tt

during_rows : (params : List ℤ) → Means (during_edges params) (during params)
during_rows [] = by_bounds _ _ (λ a b h. (omega (arith, ints), omega (arith, ints))) (λ a b h. (omega (arith, ints), (omega (arith, ints), tt)))
during_rows (most ∷ []) = by_bounds _ _ (λ a b h. (omega (arith, ints), omega (arith, ints), omega (arith, ints), omega (arith, ints))) (λ a b h. (omega (arith, ints), (omega (arith, ints), (omega (arith, ints), (omega (arith, ints), tt)))))
during_rows (least ∷ most ∷ []) = by_bounds _ _ (λ a b h. ((omega (arith, ints), omega (arith, ints)), (omega (arith, ints), omega (arith, ints)))) (λ a b h. (omega (arith, ints), (omega (arith, ints), (omega (arith, ints), (omega (arith, ints), tt)))))
during_rows (least ∷ most ∷ end_least ∷ []) = tt
during_rows (least ∷ most ∷ end_least ∷ end_most ∷ []) = by_bounds _ _ (λ a b h. ((omega (arith, ints), omega (arith, ints)), (omega (arith, ints), omega (arith, ints)))) (λ a b h. (omega (arith, ints), (omega (arith, ints), (omega (arith, ints), (omega (arith, ints), tt)))))
during_rows (least ∷ most ∷ end_least ∷ end_most ∷ more ∷ others) = tt

finish_rows : (params : List ℤ) → Means (order_edges BStart AStart AEnd BEnd params) (table_row_of Finishes params)
finish_rows [] = by_bounds _ _ (λ a b h. (omega (arith, ints), omega (arith, ints))) (λ a b h. (omega (arith, ints), (omega (arith, ints), (omega (arith, ints), tt))))
finish_rows (most ∷ []) = by_bounds _ _ (λ a b h. (omega (arith, ints), (omega (arith, ints), omega (arith, ints)))) (λ a b h. (omega (arith, ints), (omega (arith, ints), (omega (arith, ints), tt))))
finish_rows (most ∷ more ∷ others) = tt

finished_rows : (params : List ℤ) → Means (order_edges AStart BStart AEnd BEnd params) (table_row_of FinishedBy params)
finished_rows [] = by_bounds _ _ (λ a b h. (omega (arith, ints), omega (arith, ints))) (λ a b h. (omega (arith, ints), (omega (arith, ints), (omega (arith, ints), tt))))
finished_rows (most ∷ []) = by_bounds _ _ (λ a b h. (omega (arith, ints), (omega (arith, ints), omega (arith, ints)))) (λ a b h. (omega (arith, ints), (omega (arith, ints), (omega (arith, ints), tt))))
finished_rows (most ∷ more ∷ others) = tt

start_rows : (params : List ℤ) → Means (order_edges AEnd BEnd AStart BStart params) (table_row_of Starts params)
start_rows [] = by_bounds _ _ (λ a b h. (omega (arith, ints), omega (arith, ints))) (λ a b h. (omega (arith, ints), (omega (arith, ints), (omega (arith, ints), tt))))
start_rows (most ∷ []) = by_bounds _ _ (λ a b h. ((omega (arith, ints), omega (arith, ints)), omega (arith, ints))) (λ a b h. (omega (arith, ints), (omega (arith, ints), (omega (arith, ints), tt))))
start_rows (most ∷ more ∷ others) = tt

started_rows : (params : List ℤ) → Means (order_edges BEnd AEnd AStart BStart params) (table_row_of StartedBy params)
started_rows [] = by_bounds _ _ (λ a b h. (omega (arith, ints), omega (arith, ints))) (λ a b h. (omega (arith, ints), (omega (arith, ints), (omega (arith, ints), tt))))
started_rows (most ∷ []) = by_bounds _ _ (λ a b h. ((omega (arith, ints), omega (arith, ints)), omega (arith, ints))) (λ a b h. (omega (arith, ints), (omega (arith, ints), (omega (arith, ints), tt))))
started_rows (most ∷ more ∷ others) = tt

meet_rows : (params : List ℤ) → Means (option_map (near AEnd BStart) (tolerance params)) (table_row_of Meets params)
meet_rows [] = by_bounds _ _ (λ a b h. omega (arith, ints)) (λ a b h. (omega (arith, ints), (omega (arith, ints), tt)))
meet_rows (most ∷ []) = by_bounds _ _ (λ a b h. (omega (arith, ints), omega (arith, ints))) (λ a b h. (omega (arith, ints), (omega (arith, ints), tt)))
meet_rows (most ∷ more ∷ others) = tt

met_rows : (params : List ℤ) → Means (option_map (near AStart BEnd) (tolerance params)) (table_row_of MetBy params)
met_rows [] = by_bounds _ _ (λ a b h. omega (arith, ints)) (λ a b h. (omega (arith, ints), (omega (arith, ints), tt)))
met_rows (most ∷ []) = by_bounds _ _ (λ a b h. (omega (arith, ints), omega (arith, ints))) (λ a b h. (omega (arith, ints), (omega (arith, ints), tt)))
met_rows (most ∷ more ∷ others) = tt

overlap_rows : (params : List ℤ) → Means (overlaps_edges params) (overlaps params)
overlap_rows [] = by_bounds _ _ (λ a b h. (omega (arith, ints), omega (arith, ints), omega (arith, ints))) (λ a b h. (omega (arith, ints), (omega (arith, ints), (omega (arith, ints), tt))))
overlap_rows (most ∷ []) = by_bounds _ _ (λ a b h. ((omega (arith, ints), omega (arith, ints), omega (arith, ints)), (omega (arith, ints), omega (arith, ints)))) (λ a b h. (omega (arith, ints), (omega (arith, ints), (omega (arith, ints), (omega (arith, ints), (omega (arith, ints), tt))))))
overlap_rows (least ∷ most ∷ []) = by_bounds _ _ (λ a b h. ((omega (arith, ints), omega (arith, ints), omega (arith, ints)), (omega (arith, ints), omega (arith, ints)))) (λ a b h. (omega (arith, ints), (omega (arith, ints), (omega (arith, ints), (omega (arith, ints), (omega (arith, ints), tt))))))
overlap_rows (least ∷ most ∷ more ∷ others) = tt

corner-opposite : (x : Corner) (a b : Times) → corner (opposite x) a b ≡ corner x b a
corner-opposite AStart a b = refl
corner-opposite AEnd a b = refl
corner-opposite BStart a b = refl
corner-opposite BEnd a b = refl

edges_hold-opposite : (edges : List OpEdge) (a b : Times) → edges_hold (map opposite_edge edges) a b ≡ edges_hold edges b a
unfolding edges_hold edge_holds
edges_hold-opposite [] a b = refl
edges_hold-opposite (edge ∷ edges) a b =
    rw (corner-opposite edge.x a b, corner-opposite edge.y a b, edges_hold-opposite edges a b)

exchanged_rows : (edges : Option (List OpEdge)) (row : Row) → Means edges row → Means (option_map (map opposite_edge) edges) (exchanged row)
exchanged_rows (Some edges) (says row) h = λ a b.
    let e = edges_hold-opposite edges a b in (λ k. (h b a).0 (sym e ∙ k), λ k. e ∙ (h b a).1 k)
exchanged_rows (Some edges) no_row h = h
exchanged_rows None (says row) h = h
exchanged_rows None no_row h = h

pub edges_mean_rows : EdgesMeanRows
unfolding edges_of
edges_mean_rows After params = after_rows params
edges_mean_rows Before params = before_rows params
edges_mean_rows Coincides params = coincide_rows params
edges_mean_rows During params = during_rows params
edges_mean_rows Includes params = exchanged_rows _ _ (during_rows params)
edges_mean_rows Finishes params = finish_rows params
edges_mean_rows FinishedBy params = finished_rows params
edges_mean_rows Starts params = start_rows params
edges_mean_rows StartedBy params = started_rows params
edges_mean_rows Meets params = meet_rows params
edges_mean_rows MetBy params = met_rows params
edges_mean_rows Overlaps params = overlap_rows params
edges_mean_rows OverlappedBy params = exchanged_rows _ _ (overlap_rows params)
