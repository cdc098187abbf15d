-- How the fields of an operator come from its list of edges.
use Rattle.temporal_ops.proofs.Common.{◌≡◌, ℕ, ◌+◌, ◌<◌, ◌≤◌, ◌++◌, List, length, map, take, drop, get_or, set, sym, ◌∙◌, ap, subst, arith, length-append}
use Rattle.temporal_ops.proofs.Common.{length-drop, length-take, length-take-le, append-nil, replicate, take_all, length-map, take-append_seam, OpEdge, IsOp}
use Rattle.temporal_ops.proofs.Common.{opposite_edge, blank, drop-replicate, drop_all, take-append-le, get_or_default, drop-append_seam, IsStored}
use Rattle.{temporal_ops.proofs.Ops.{opposite_is_op}, std.proofs.lemmas.List.Edits.{map_over_more}}

pub stored_front : (edges : List OpEdge) → IsOp edges
    → IsStored (record { items = edges ++ drop (length edges) (replicate 5 blank); count = length edges })
stored_front edges op =
    let rest : List OpEdge = drop (length edges) (replicate 5 blank) in
    let few = op.few in
    record {
      size = omega (arith, length-append edges rest, length-drop (length edges) (replicate 5 blank));
      count = op.few;
      blanks = drop-append_seam edges rest ∙ drop-replicate (length edges) 5 blank;
      op = subst (λ (front : List OpEdge). IsOp front) (sym (take-append_seam edges rest)) op;
    }

-- a turn of the loop over the front of the items
pub exchanged_more : (old items : List OpEdge) (i : ℕ) (d : OpEdge) → i < length old
    → items ≡ map opposite_edge (take i old) ++ drop i old
    → set items i (opposite_edge (get_or items i d)) ≡ map opposite_edge (take (i + 1) old) ++ drop (i + 1) old
exchanged_more old items i d below is =
    let long : length items ≡ length old = ap length is ∙ simp (length-append, length-map, length-take, length-drop) (omega arith) in
    let within : i < length items = omega arith in
    map_over_more opposite_edge old items i (get_or items i d) below is (get_or_default items i d (get_or items i d) within)

-- what that loop leaves of them
pub exchanged_front : (items front : List OpEdge) (n i : ℕ) → length (take n items) ≤ i
    → front ≡ map opposite_edge (take i (take n items)) ++ drop i (take n items)
    → n ≤ length items → IsOp (take n items) → IsOp (take n (front ++ drop n items))
exchanged_front items front n i past is few op =
    let old : List OpEdge = take n items in
    let same : front ≡ map opposite_edge old =
    is ∙ rw (take_all i old past, drop_all i old past) (append-nil (map opposite_edge old)) in
    let long : length front ≡ n = ap length same ∙ length-map old opposite_edge ∙ length-take-le n items few in
    let whole : take n (front ++ drop n items) ≡ front =
    take-append-le n front (drop n items) (omega (arith, long)) ∙ take_all n front (omega (arith, long)) in
    rw (whole, same) (opposite_is_op old op)
