-- How an operator stores its edges: at the front of five items, of which the others are blank.
use Rattle.std.{specs.Prelude.{pos, List, replicate}, proofs.Common.{◌≡◌, ◌-◌, ◌≤◌, ◌++◌, length, take, drop, ap, sym, ◌∙◌, arith, take-append-drop}}
use Rattle.std.proofs.Common.{length-take-le}
use Rattle.temporal_ops.specs.{declared.edge.{Corner.TheVariants.{AStart}, OpEdge.{OpEdge}, Edges.{Edges}}, Edges.{IsOp}}

-- an item that means nothing
abbrev pub blank : OpEdge
blank = record { x = AStart; y = AStart; most = pos 0 }

abbrev pub stored : List OpEdge → Edges
stored edges = record { items = edges ++ replicate (5 - length edges) blank; count = length edges }

pub record IsStored (edges : Edges) : Type 0 where
  pub size : length edges.items ≡ 5
  pub count : edges.count ≤ 5
  pub blanks : drop edges.count edges.items ≡ replicate (5 - edges.count) blank
  pub op : IsOp (take edges.count edges.items)

-- the list gives the items back
pub stored_again : (edges : Edges) → IsStored edges → stored (take edges.count edges.items) ≡ edges
stored_again edges h =
    let front = take edges.count edges.items in
    let count : length front ≡ edges.count = length-take-le edges.count edges.items (omega (arith, h.size, h.count)) in
    let items : front ++ replicate (5 - length front) blank ≡ edges.items =
    ap (λ n. front ++ replicate (5 - n) blank) count ∙ ap (λ rest. front ++ rest) (sym h.blanks)
    ∙ take-append-drop edges.count edges.items in
    λ i. record { items = items i; count = count i }
