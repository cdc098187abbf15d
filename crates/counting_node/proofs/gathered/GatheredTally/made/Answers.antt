use Rattle.counting_node.proofs.Common.{◌≡◌, ◌∙◌, ap, List, ℤ, ◌++◌, ◌∷◌, [], SFits, w64, to_z-of_z, eq_by_cmp, Row, row_cmp, with_row_value, row_valued}
use Rattle.counting_node.proofs.Gathering.{value_row}
use Rattle.counting_node.proofs.gathered.GatheredTally.made.Goals as goal

pub returns : goal.returns
returns c r =
    let fits : SFits w64 c.args.value = c.ranges.value in
    let pushed = simp to_z-of_z at c.in_ok-push.ensures.items in
    let values : c.from_vec.result ≡ c.in_ok-copy.copy.values ++ c.args.value ∷ [] =
    c.from_vec.ensures ∙ pushed ∙ ap (λ (xs : List ℤ). xs ++ c.args.value ∷ []) c.into_vec-values.ensures in
    ap (λ (xs : List ℤ). eq_by_cmp row_cmp r (row_valued c.in_ok-copy.copy xs)) values
    ∙ ap (λ (row : Row). eq_by_cmp row_cmp r (with_row_value row c.args.value)) c.in_ok-copy.ensures
    ∙ value_row r c.args.row.now c.args.value
