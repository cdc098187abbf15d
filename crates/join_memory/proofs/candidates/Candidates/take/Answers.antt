use Rattle.join_memory.proofs.Common.{◌≡◌, ◌∙◌, ap, subst, true, Option, None, is_some, eq_by_cmp, Value, same_value, at, name_cmp, beside, SeesRows}
use Rattle.join_memory.proofs.Keeping.{before_taken, right_keeps, names_keep, some_taken, some_if, if_some}
use Rattle.join_memory.proofs.candidates.Candidates.take.Goals as goal

pub returns-clause-keeps : goal.returns-clause-keeps
returns-clause-keeps g c left =
    right_keeps (beside left c.args.self.now) (g.F.Facts.map c.args.facts.now) c.args.who c.own.result.now (c.own.ensures ∙ c.sight-sight.ensures.own) None c.take.new.self c.take.ensures.kept
    _ (λ n. some_taken (eq_by_cmp name_cmp c.args.who n) _)

pub returns-clause-names : goal.returns-clause-names
returns-clause-names g c =
    names_keep c.args.self.now (g.F.Facts.map c.args.facts.now) c.args.who c.own.result.now (c.own.ensures ∙ c.sight-sight.ensures.own) None c.take.new.self c.take.ensures.kept
    _ (λ n. some_taken (eq_by_cmp name_cmp c.args.who n) _)

pub returns-clause-under : goal.returns-clause-under
returns-clause-under g c value n kept = before_taken _ _ (subst (λ (o : Option (Unit {0})). is_some o ≡ true) (c.take.ensures.kept value n) kept)

pub returns-clause-taken : goal.returns-clause-taken
returns-clause-taken g c =
    some_if c.is_some-was.result c.sight-sight.result c.then_some.result c.then_some.ensures
    ∙ c.is_some-was.ensures ∙ ap is_some c.take.ensures.taken
    ∙ ap (λ (v : Value). is_some (at same_value name_cmp c.args.self.now.names v c.args.who)) (c.own.ensures ∙ c.sight-sight.ensures.own)

pub returns-clause-sight : goal.returns-clause-sight
returns-clause-sight g c =
    if_some (SeesRows c.args.self.now.pattern (g.F.Facts.map c.args.facts.now) c.args.who) c.is_some-was.result c.sight-sight.result c.then_some.result c.then_some.ensures c.sight-sight.ensures.sought
