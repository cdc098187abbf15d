use Rattle.join_memory.proofs.{Common.{◌∙◌, ap, None, is_some, eq_by_cmp, Value, same_value, at, name_cmp, SeesRows}, Keeping.{right_keeps, some_taken}}
use Rattle.join_memory.proofs.Keeping.{some_if, if_some}
use Rattle.join_memory.proofs.memories.Memories.take_right.Goals as goal

pub returns-clause-keeps : goal.returns-clause-keeps
returns-clause-keeps g c =
    right_keeps c.args.self.now (g.F.Facts.map c.args.facts.now) c.args.who c.own.result.now (c.own.ensures ∙ c.sight-sight.ensures.own) None c.take.new.self c.take.ensures.kept
    _ (λ n. some_taken (eq_by_cmp name_cmp c.args.who n) _)

pub returns-clause-taken : goal.returns-clause-taken
returns-clause-taken g c =
    some_if c.is_some-was.result c.sight-sight.result c.then_some.result c.then_some.ensures
    ∙ c.is_some-was.ensures ∙ ap is_some c.take.ensures.taken
    ∙ ap (λ (v : Value). is_some (at same_value name_cmp c.args.self.now.right v c.args.who)) (c.own.ensures ∙ c.sight-sight.ensures.own)

pub returns-clause-sight : goal.returns-clause-sight
returns-clause-sight g c =
    if_some (SeesRows c.args.self.now.pattern (g.F.Facts.map c.args.facts.now) c.args.who) c.is_some-was.result c.sight-sight.result c.then_some.result c.then_some.ensures c.sight-sight.ensures.sought
