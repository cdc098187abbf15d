use Rattle.join_memory.proofs.{Common.{◌∙◌, ap, not, Option, Some, is_some, eq_by_cmp, Value, same_value, at, name_cmp, SeesRows}, Keeping.{right_keeps}}
use Rattle.join_memory.proofs.Keeping.{some_put, some_if, if_some, none_if}
use Rattle.join_memory.proofs.memories.Memories.put_right.Goals as goal

pub returns-clause-keeps : goal.returns-clause-keeps
returns-clause-keeps g c =
    right_keeps c.args.self.now (g.F.Facts.map c.args.facts.now) c.args.who c.in_ok-value.value (c.in_ok-value.ensures ∙ c.own.ensures ∙ c.sight-sight.ensures.own) (Some tt) c.put.new.self c.in_ok-put.ensures.kept
    _ (λ n. some_put (eq_by_cmp name_cmp c.args.who n) tt _)

pub returns-clause-came : goal.returns-clause-came
returns-clause-came g c =
    some_if c.is_none-came.result c.sight-sight.result c.then_some.result c.then_some.ensures
    ∙ none_if c.is_none-came.result (is_some c.in_ok-put.field-0) c.is_none-came.ensures
    ∙ ap (λ (o : Option (Unit {0})). not (is_some o)) c.in_ok-put.ensures.before
    ∙ ap (λ (v : Value). not (is_some (at same_value name_cmp c.args.self.now.right v c.args.who))) (c.in_ok-value.ensures ∙ c.own.ensures ∙ c.sight-sight.ensures.own)

pub returns-clause-sight : goal.returns-clause-sight
returns-clause-sight g c =
    if_some (SeesRows c.args.self.now.pattern (g.F.Facts.map c.args.facts.now) c.args.who) c.is_none-came.result c.sight-sight.result c.then_some.result c.then_some.ensures c.sight-sight.ensures.sought
