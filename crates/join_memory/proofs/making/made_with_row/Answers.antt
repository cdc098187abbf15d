use Rattle.join_memory.proofs.{Common.{◌∙◌, sym, ap, [], ◌∷◌, IfOk-weaker, Value, all_sought}, Found.{names_alone, names_both}}
use Rattle.join_memory.proofs.making.made_with_row.Goals as goal

pub returns-in-One : goal.returns-in-One
returns-in-One g c =
    let is = sym c.candidates_sought.ensures ∙ ap all_sought c.in-One.is ∙ ap (λ (v : Value). v ∷ []) (sym c.value.ensures) in
    IfOk-weaker c.names_under.result _ _ (λ found h k. h k ∙ names_alone c.args.pattern.now c.args.right.now (g.F.Facts.map c.args.facts.now) c.args.row.now c.value.result.now is k) c.names_under.ensures

pub returns-in-Two : goal.returns-in-Two
returns-in-Two g c =
    let is = sym c.candidates_sought.ensures ∙ ap all_sought c.in-Two.is in
    IfOk-weaker c.names_of_both.result _ _ (λ found h k. h k ∙ names_both c.args.pattern.now c.args.right.now (g.F.Facts.map c.args.facts.now) c.args.row.now c.in-Two.first c.in-Two.second is k) c.names_of_both.ensures
