-- What a word with its parameters gives, by the answers of the table's own function.
use Rattle.drl_compile.proofs.Common.{◌≡◌, ◌&&◌, ◌||◌, ◌<ℤ◌, ℤ, pos, neg_ℤ, ◌^◌, Bool, true, false, not, List, Option, Some, None, cond, refl, sym, subst}
use Rattle.drl_compile.proofs.Common.{arith, IfSome, list_all, list_any, OpEdge, IsOp, operator_of, All, Any-from_list_any, IsWithin, is_negative}
use Rattle.{drl_compile.specs.Operators.{is_span}, std.{specs.Prelude.{Any, int_le, int_lt}, proofs.lemmas.{Int.{ints}, List.Elements.{All-weaker}}}}
use Rattle.{std.proofs.lemmas.List.Sums.{AllPass-from_list_all}, temporal_ops.specs.{declared.word.OpWord.{OpWord}, Laws.{Means}, Operators.{edges_of}}}
use Rattle.temporal_ops.{specs.Table.{Row, says, no_row, table_row_of, takes_negative, HasRow}, proofs.{Ops.{edges_are_ops}, Rows.{edges_mean_rows}}}

-- ---- limits

span_within : (n : ℤ) → is_span n ≡ true → IsWithin (2 ^ 53) n
unfolding is_span
span_within n e = within (int_le (neg_ℤ (pos (2 ^ 53))) n) (int_le n (pos (2 ^ 53))) e refl refl
  where
    within : (a b : Bool) → (a && b) ≡ true → int_le (neg_ℤ (pos (2 ^ 53))) n ≡ a → int_le n (pos (2 ^ 53)) ≡ b → IsWithin (2 ^ 53) n
    within true true e h k = (grind (arith, ints), grind (arith, ints))
    within true false e h k = absurd cc
    within false b e h k = absurd cc

pub spans_within : (params : List ℤ) → list_all is_span params ≡ true → All (IsWithin (2 ^ 53)) params
spans_within params e = All-weaker (λ n. is_span n ≡ true) (IsWithin (2 ^ 53)) span_within params (AllPass-from_list_all is_span params e)

-- ---- signs

below : (n : ℤ) → int_lt n (pos 0) ≡ true → n <ℤ pos 0
below n e = grind (arith, ints)

is_below : (n : ℤ) → n <ℤ pos 0 → int_lt n (pos 0) ≡ true
is_below n e = grind (arith, ints)

some_below : (params : List ℤ) → list_any is_negative params ≡ true → Any (λ p. p <ℤ pos 0) params
some_below params e = let h = Any-from_list_any is_negative params e in (h.0, h.1, h.2, h.3, below h.1 h.4)

-- ---- rows

has_row : (edges : List OpEdge) (row : Row) → Means (Some edges) row → HasRow row
has_row edges (says meaning) h = tt
has_row edges no_row h = h

no_edges : (o : Option (List OpEdge)) (row : Row) → Means o row → (HasRow row → ⊥) → o ≡ None
no_edges None row h k = refl
no_edges (Some edges) row h k = absurd (k (has_row edges row h))

-- ---- the three answers

abbrev Refused : OpWord → List ℤ → Type 0
Refused word params = HasRow (table_row_of word params) × (takes_negative word ≡ false) × Any (λ p. p <ℤ pos 0) params

pub operator_found : (word : OpWord) (params : List ℤ) (op : List OpEdge) → list_all is_span params ≡ true → edges_of word params ≡ Some op
    → (Refused word params → ⊥) → Some op ≡ operator_of word params
operator_found word params op e h k = by (takes_negative word) (list_any is_negative params) refl refl
  where
    row : HasRow (table_row_of word params)
    row = has_row op (table_row_of word params) (subst (λ (o : Option (List OpEdge)). Means o (table_row_of word params)) h (edges_mean_rows word params))

    by : (a b : Bool) → takes_negative word ≡ a → list_any is_negative params ≡ b → Some op ≡ operator_of word params
    by true b t n = rw e (rw t (sym h))
    by false false t n = rw e (rw t (rw n (sym h)))
    by false true t n = absurd (k (row, t, some_below params n))

-- one of the two conditions fails, or the table has no edges
pub operator_counted : (word : OpWord) (params : List ℤ) → (HasRow (table_row_of word params) → ⊥) → None ≡ operator_of word params
operator_counted word params k =
    by (list_all is_span params && (takes_negative word || not (list_any is_negative params))) (no_edges (edges_of word params) (table_row_of word params) (edges_mean_rows word params) k)
  where
    by : (b : Bool) → edges_of word params ≡ None → None ≡ cond b (edges_of word params) None
    by true e = sym e
    by false e = refl

-- ---- edges

pub operator_is : (word : OpWord) (params : List ℤ) → IfSome (operator_of word params) IsOp
operator_is word params = by (list_all is_span params) (takes_negative word || not (list_any is_negative params)) refl
  where
    by : (a b : Bool) → list_all is_span params ≡ a → IfSome (cond (a && b) (edges_of word params) None) IsOp
    by true true e = edges_are_ops word params (spans_within params e)
    by true false e = tt
    by false b e = tt
