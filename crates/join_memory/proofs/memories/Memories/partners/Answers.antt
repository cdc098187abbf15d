use Rattle.join_memory.proofs.{Common.{◌∙◌, sym, ap, ◌∷◌, IfOk-weaker, Option, Value, option_map}, Found.{partners_alone, partners_both}}
use Rattle.{std.proofs.Common.{Bor}, join_tests.specs.Kept.{one_or_none}}
use Rattle.join_memory.proofs.memories.Memories.partners.Goals as goal

pub returns-in-None-clause-rows : goal.returns-in-None-clause-rows
returns-in-None-clause-rows g c seen =
    let is = sym seen ∙ c.sought.ensures ∙ ap (λ (o : Option (Bor Value)). c.sought.result.0.now ∷ one_or_none (option_map (λ v. v.now) o)) c.in-None.is in
    IfOk-weaker c.partners_under.result _ _ (λ found h k. h k ∙ partners_alone c.args.self.now.pattern c.args.self.now.left (g.F.Facts.map c.args.facts.now) c.args.who c.sought.result.0.now is k) c.partners_under.ensures.rows

pub returns-in-Some-clause-rows : goal.returns-in-Some-clause-rows
returns-in-Some-clause-rows g c seen =
    let is = sym seen ∙ c.sought.ensures ∙ ap (λ (o : Option (Bor Value)). c.sought.result.0.now ∷ one_or_none (option_map (λ v. v.now) o)) c.in-Some.is in
    IfOk-weaker c.partners_of_both.result _ _ (λ found h k. h k ∙ partners_both c.args.self.now.pattern c.args.self.now.left (g.F.Facts.map c.args.facts.now) c.args.who c.sought.result.0.now c.in-Some.second.now is k) c.partners_of_both.ensures.rows
