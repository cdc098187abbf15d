-- What the law on edges and rows says of a word's edges.
use Rattle.temporal_ops.proofs.Common.{◌≡◌, ℤ, List, Option, Some, None, subst, OpEdge, OpWord, Means, Row, says, no_row, table_row_of, edges_of, HasRow}
use Rattle.temporal_ops.proofs.Rows.{edges_mean_rows}

means_of : (word : OpWord) (params : List ℤ) (edges : Option (List OpEdge)) → edges ≡ edges_of word params → Means edges (table_row_of word params)
means_of word params edges e = rw e (edges_mean_rows word params)

none_has_no_row : (row : Row) → Means None row → HasRow row → ⊥
none_has_no_row (says meaning) h k = h
none_has_no_row no_row h k = k

some_has_row : (edges : List OpEdge) (row : Row) → Means (Some edges) row → HasRow row
some_has_row edges (says meaning) h = tt
some_has_row edges no_row h = h

pub no_edges : (word : OpWord) (params : List ℤ) (edges : Option (List OpEdge)) → edges ≡ edges_of word params → edges ≡ None → HasRow (table_row_of word params) → ⊥
no_edges word params edges e none =
    none_has_no_row (table_row_of word params) (subst (λ (o : Option (List OpEdge)). Means o (table_row_of word params)) none (means_of word params edges e))

pub some_edges : (word : OpWord) (params : List ℤ) (edges : List OpEdge) → Some edges ≡ edges_of word params → Means (Some edges) (table_row_of word params)
some_edges word params edges e = means_of word params (Some edges) e

pub has_row : (word : OpWord) (params : List ℤ) (edges : List OpEdge) → Some edges ≡ edges_of word params → HasRow (table_row_of word params)
has_row word params edges e = some_has_row edges (table_row_of word params) (means_of word params (Some edges) e)

pub ruleset row_rules = (no_edges, some_edges, has_row)
