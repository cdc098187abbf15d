use Rattle.join_tests.proofs.{Common.{◌∙◌, side_part}, Siding.{sides_with_slot}}
use Rattle.join_tests.proofs.row_key.sides_slotted.Goals as goal

pub returns-in-len1-up : goal.returns-in-len1-up
returns-in-len1-up g c =
    c.number_with.ensures ∙ sides_with_slot (side_part (g.F.Facts.map c.args.facts.now) c.args.row.now) c.args.sides.now c.sides_fed.result c.args.slot c.sides_fed.ensures c.in-len1-up.len_at_least
