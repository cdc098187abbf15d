use Rattle.join_tests.proofs.{Common.{◌∙◌, side_part}, Siding.{sides_several}}
use Rattle.join_tests.proofs.row_key.value_of_sides.Goals as goal

pub returns-in-len2-up : goal.returns-in-len2-up
returns-in-len2-up g c =
    c.number_fed.ensures ∙ sides_several (side_part (g.F.Facts.map c.args.facts.now) c.args.row.now) c.args.sides.now c.sides_fed.result c.sides_fed.ensures c.in-len2-up.len_at_least
