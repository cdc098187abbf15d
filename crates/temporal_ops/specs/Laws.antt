-- Laws on the edges of the operators and on the starts of possible events.
use Rattle.std.specs.{Prelude.{◌≡◌, ℤ, Bool, ◌^◌, ◌↔◌, IsTrue, List, Option, Some, None, IfSome}, List.{All}}
use Rattle.fx_base.specs.declared.times.Times.{Times}
use Rattle.temporal_ops.specs.{declared.{edge.OpEdge.{OpEdge}, word.OpWord.{OpWord}, window.Window.{Window}}, Edges.{edges_hold, IsOp, IsWithin, Joins}}
use Rattle.temporal_ops.specs.{Operators.{edges_of}, Possible.{IsStartWindow}, Starts.{starts_window}, Table.{Row, says, no_row, table_row_of}}

-- the edges hold of exactly the events of which the row says so, and there are none where there is no row
abbrev pub Means : Option (List OpEdge) → Row → Type 0
Means (Some edges) (says row) = (a b : Times) → IsTrue (edges_hold edges a b) ↔ row a b
Means (Some edges) no_row = ⊥
Means None (says row) = ⊥
Means None no_row = Unit {0}

-- the edges of a word mean its row of the table
abbrev pub EdgesMeanRows : Type 0
EdgesMeanRows = (word : OpWord) (params : List ℤ) → Means (edges_of word params) (table_row_of word params)

-- the edges of a word with parameters of at most 2^53 in size are those of an operator
abbrev pub EdgesAreOps : Type 0
EdgesAreOps = (word : OpWord) (params : List ℤ) → All (IsWithin (2 ^ 53)) params → IfSome (edges_of word params) IsOp

-- possible events have the starts of one window
abbrev pub OneWindow : Type 0
OneWindow = (bounds : List (List OpEdge × Times)) (point : Bool) (v w : Window) → IsStartWindow bounds point v → IsStartWindow bounds point w → v ≡ w

-- where each edge joins the two events, the window that the edges give is that of the possible events
abbrev pub WindowIsOfEdges : Type 0
WindowIsOfEdges = (bounds : List (List OpEdge × Times)) (point : Bool) → All (λ bound. All Joins bound.0) bounds → IsStartWindow bounds point (starts_window bounds point)
