-- An operator as its list of edges.
use Rattle.std.specs.{Prelude.{ℤ, pos, negsuc, neg_ℤ, List, [], ◌∷◌, Option, Some, None, option_map, map}, Int.{int_max, int_min}}
use Rattle.temporal_ops.specs.declared.{edge.{Corner.{Corner, TheVariants.{AStart, AEnd, BStart, BEnd}}, OpEdge.{OpEdge}}, word.OpWord.{OpWord}}
use Rattle.temporal_ops.specs.declared.word.OpWord.TheVariants.{After, Before, Coincides, During, Includes, Finishes, FinishedBy, Starts, StartedBy, Meets}
use Rattle.temporal_ops.specs.declared.word.OpWord.TheVariants.{MetBy, Overlaps, OverlappedBy}

-- x - y ≤ most
abbrev pub at_most : Corner → Corner → ℤ → OpEdge
at_most x y most = record { x = x; y = y; most = most }

-- least ≤ x - y
abbrev pub least_difference : Corner → Corner → ℤ → OpEdge
least_difference x y least = at_most y x (neg_ℤ least)

-- x < y
abbrev pub earlier : Corner → Corner → OpEdge
earlier x y = at_most x y (negsuc 0)

-- x and y are at most this far apart
abbrev pub near : Corner → Corner → ℤ → List OpEdge
near x y most = at_most x y most ∷ at_most y x most ∷ []

-- least ≤ x - y ≤ most
abbrev pub between : ℤ → Corner → Corner → ℤ → List OpEdge
between least x y most = least_difference x y least ∷ at_most x y most ∷ []

-- how far apart two points may be that no parameter, or one, allows
abbrev pub tolerance : List ℤ → Option ℤ
tolerance [] = Some (pos 0)
tolerance (most ∷ []) = Some most
tolerance _ = None

-- the distance from y to x
abbrev pub gap_edges : Corner → Corner → List ℤ → Option (List OpEdge)
gap_edges x y [] = Some (least_difference x y (pos 1) ∷ [])
gap_edges x y (least ∷ []) = Some (least_difference x y least ∷ [])
gap_edges x y (p ∷ q ∷ []) = Some (between (int_min p q) x y (int_max p q))
gap_edges _ _ _ = None

abbrev pub coincide_edges : List ℤ → Option (List OpEdge)
coincide_edges [] = Some (at_most AStart BStart (pos 0) ∷ at_most BStart AStart (pos 0) ∷ near AEnd BEnd (pos 0))
coincide_edges (most ∷ []) = Some (at_most AStart BStart most ∷ at_most BStart AStart most ∷ near AEnd BEnd most)
coincide_edges (most ∷ end_most ∷ []) = Some (at_most AStart BStart most ∷ at_most BStart AStart most ∷ near AEnd BEnd end_most)
coincide_edges _ = None

-- the distances of the starts and of the ends, where A is inside B
abbrev pub inside_edges : ℤ → ℤ → ℤ → ℤ → List OpEdge
inside_edges least most end_least end_most =
    least_difference AStart BStart least ∷ at_most AStart BStart most ∷ between end_least BEnd AEnd end_most

abbrev pub during_edges : List ℤ → Option (List OpEdge)
during_edges [] = Some (earlier BStart AStart ∷ earlier AEnd BEnd ∷ [])
during_edges (most ∷ []) = Some (
    earlier BStart AStart ∷ at_most AStart BStart most ∷ earlier AEnd BEnd ∷ at_most BEnd AEnd most ∷ [])
during_edges (least ∷ most ∷ []) = Some (inside_edges least most least most)
during_edges (least ∷ most ∷ end_least ∷ end_most ∷ []) = Some (inside_edges least most end_least end_most)
during_edges _ = None

-- one point before another, and two points near each other
abbrev pub order_edges : Corner → Corner → Corner → Corner → List ℤ → Option (List OpEdge)
order_edges first second x y params = option_map (λ most. earlier first second ∷ near x y most) (tolerance params)

abbrev pub overlap_edges : List OpEdge → List OpEdge
overlap_edges more = earlier AStart BStart ∷ earlier BStart AEnd ∷ earlier AEnd BEnd ∷ more

abbrev pub overlaps_edges : List ℤ → Option (List OpEdge)
overlaps_edges [] = Some (overlap_edges [])
overlaps_edges (most ∷ []) = Some (overlap_edges (between (pos 0) AEnd BStart most))
overlaps_edges (least ∷ most ∷ []) = Some (overlap_edges (between least AEnd BStart most))
overlaps_edges _ = None

-- the same point of the other event
abbrev pub opposite : Corner → Corner
opposite AStart = BStart
opposite AEnd = BEnd
opposite BStart = AStart
opposite BEnd = AEnd

-- the edge with the two events exchanged
abbrev pub opposite_edge : OpEdge → OpEdge
opposite_edge edge = record { x = opposite edge.x; y = opposite edge.y; most = edge.most }

-- the edges of the operator of this word, where the table has a row for that many parameters
unfoldable pub edges_of : OpWord → List ℤ → Option (List OpEdge)
edges_of After params = gap_edges AStart BEnd params
edges_of Before params = gap_edges BStart AEnd params
edges_of Coincides params = coincide_edges params
edges_of During params = during_edges params
edges_of Includes params = option_map (map opposite_edge) (during_edges params)
edges_of Finishes params = order_edges BStart AStart AEnd BEnd params
edges_of FinishedBy params = order_edges AStart BStart AEnd BEnd params
edges_of Starts params = order_edges AEnd BEnd AStart BStart params
edges_of StartedBy params = order_edges BEnd AEnd AStart BStart params
edges_of Meets params = option_map (near AEnd BStart) (tolerance params)
edges_of MetBy params = option_map (near AStart BEnd) (tolerance params)
edges_of Overlaps params = overlaps_edges params
edges_of OverlappedBy params = option_map (map opposite_edge) (overlaps_edges params)
