use Rattle.{join_memory.proofs.{Common.{◌∙◌, sym, ap, ◌∷◌, IfOk-weaker, Option, Value, option_map}, Found.{rows_alone, rows_both}}, std.proofs.Common.{Bor}}
use Rattle.join_tests.specs.Kept.{one_or_none}
use Rattle.join_memory.proofs.making.made_with_name.Goals as goal

pub returns-in-None : goal.returns-in-None
returns-in-None g c seen =
    let is = sym seen ∙ c.sought.ensures ∙ ap (λ (o : Option (Bor Value)). c.sought.result.0.now ∷ one_or_none (option_map (λ v. v.now) o)) c.in-None.is in
    IfOk-weaker c.rows_under.result _ _ (λ found h k. h k ∙ rows_alone c.args.pattern.now c.args.left.now (g.F.Facts.map c.args.facts.now) c.args.who c.sought.result.0.now is k) c.rows_under.ensures

pub returns-in-Some : goal.returns-in-Some
returns-in-Some g c seen =
    let is = sym seen ∙ c.sought.ensures ∙ ap (λ (o : Option (Bor Value)). c.sought.result.0.now ∷ one_or_none (option_map (λ v. v.now) o)) c.in-Some.is in
    IfOk-weaker c.rows_of_both.result _ _ (λ found h k. h k ∙ rows_both c.args.pattern.now c.args.left.now (g.F.Facts.map c.args.facts.now) c.args.who c.sought.result.0.now c.in-Some.second.now is k) c.rows_of_both.ensures
