use Rattle.join_memory.proofs.Common.{◌∙◌, ap, not, ◌&&◌, ◌||◌, Option, Some, is_some, eq_by_cmp, Value, same_value, at, name_cmp, beside, SeesRows}
use Rattle.join_memory.proofs.Keeping.{right_keeps, names_keep, some_put, some_if, if_some, none_if}
use Rattle.join_memory.proofs.candidates.Candidates.put.Goals as goal

pub returns-clause-keeps : goal.returns-clause-keeps
returns-clause-keeps g c left =
    right_keeps (beside left c.args.self.now) (g.F.Facts.map c.args.facts.now) c.args.who c.in_ok-value.value (c.in_ok-value.ensures ∙ c.own.ensures ∙ c.sight-sight.ensures.own) (Some tt) c.put.new.self c.in_ok-put.ensures.kept
    _ (λ n. some_put (eq_by_cmp name_cmp c.args.who n) tt _)

pub returns-clause-names : goal.returns-clause-names
returns-clause-names g c =
    names_keep c.args.self.now (g.F.Facts.map c.args.facts.now) c.args.who c.in_ok-value.value (c.in_ok-value.ensures ∙ c.own.ensures ∙ c.sight-sight.ensures.own) (Some tt) c.put.new.self c.in_ok-put.ensures.kept
    _ (λ n. some_put (eq_by_cmp name_cmp c.args.who n) tt _)

pub returns-clause-under : goal.returns-clause-under
returns-clause-under g c value n =
    ap is_some (c.in_ok-put.ensures.kept value n) ∙ some_put (same_value c.in_ok-value.value value && eq_by_cmp name_cmp c.args.who n) tt (at same_value name_cmp c.args.self.now.names value n)
    ∙ ap (λ (v : Value). is_some (at same_value name_cmp c.args.self.now.names value n) || (same_value v value && eq_by_cmp name_cmp c.args.who n)) (c.in_ok-value.ensures ∙ c.own.ensures ∙ c.sight-sight.ensures.own)

pub returns-clause-came : goal.returns-clause-came
returns-clause-came g c =
    some_if c.is_none-came.result c.sight-sight.result c.then_some.result c.then_some.ensures
    ∙ none_if c.is_none-came.result (is_some c.in_ok-put.field-0) c.is_none-came.ensures
    ∙ ap (λ (o : Option (Unit {0})). not (is_some o)) c.in_ok-put.ensures.before
    ∙ ap (λ (v : Value). not (is_some (at same_value name_cmp c.args.self.now.names v c.args.who))) (c.in_ok-value.ensures ∙ c.own.ensures ∙ c.sight-sight.ensures.own)

pub returns-clause-sight : goal.returns-clause-sight
returns-clause-sight g c =
    if_some (SeesRows c.args.self.now.pattern (g.F.Facts.map c.args.facts.now) c.args.who) c.is_none-came.result c.sight-sight.result c.then_some.result c.then_some.ensures c.sight-sight.ensures.sought
