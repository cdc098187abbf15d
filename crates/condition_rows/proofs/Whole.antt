-- The lines of all kinds of conditions, and of conditions one after the other.
use Rattle.condition_rows.proofs.Common.{◌≡◌, ◌∙◌, ◌↔◌, sym, ap, refl, List, [], ◌∷◌, ◌++◌, Bool, true, false, ◌||◌, In, Row, Condition, Plain, Negated}
use Rattle.condition_rows.proofs.Common.{Existing, Folded, Program, HaveDistinctTags, Snapshot, rows_of, line, is_empty_row, fold, append-nil, append_assoc}
use Rattle.condition_rows.{specs.Lines.{lines}, proofs.{Ends.{in_has, has_in}, Joined.{plain_line}, Kept.{negated_line, existing_line}, Valued.{folded_line}}}
use Rattle.rule_model.specs.Rows.{rows}
use mathlib.Core.Path.{fun_ext}

pub one_more : (p : Program) (s : Snapshot) → HaveDistinctTags s.facts → (front : List Condition) (c : Condition) (row : Row) → rows_of p s (front ++ c ∷ []) row ≡ line p s c (rows_of p s front) row
one_more p s d front (Plain q) row = plain_line p s d front q row
one_more p s d front (Negated q) row = negated_line p s d front q row
one_more p s d front (Existing q) row = existing_line p s d front q row
one_more p s d front (Folded a) row = folded_line p s d front a row

or_nothing : (b : Bool) → b ≡ (b || false)
or_nothing true = refl
or_nothing false = refl

module _ (p : Program) (s : Snapshot) (d : HaveDistinctTags s.facts) where
  abbrev next_line : (Row → Bool) → Condition → Row → Bool
  next_line left c row = line p s c left row

  -- from the rows of some conditions the lines of further ones make the rows of all
  lines_on : (front cs : List Condition) → fold next_line (rows_of p s front) cs ≡ rows_of p s (front ++ cs)
  lines_on front [] = ap (rows_of p s) (sym (append-nil front))
  lines_on front (c ∷ cs) =
      ap (λ left. fold next_line left cs) (fun_ext (λ row. sym (one_more p s d front c row)))
      ∙ lines_on (front ++ c ∷ []) cs
      ∙ ap (rows_of p s) (append_assoc front (c ∷ []) cs)

  pub by_lines : (cs : List Condition) (row : Row) → rows_of p s cs row ≡ lines p s cs row
  unfolding lines rows
  by_lines cs row =
      sym (ap (λ left. fold next_line left cs row) (fun_ext (λ r. or_nothing (is_empty_row r))) ∙ ap (λ (set : Row → Bool). set row) (lines_on [] cs))

  pub in_lines : (cs : List Condition) (row : Row) → In row (rows p s cs) ↔ (lines p s cs row ≡ true)
  in_lines cs row = (λ i. sym (by_lines cs row) ∙ in_has row (rows p s cs) i, λ e. has_in row (rows p s cs) (by_lines cs row ∙ e))
