use Rattle.agenda.proofs.{Common.{◌==◌, refl, match_of}, Steps.{fired_taken, taken_next}}
use Rattle.agenda.proofs.agenda.drop_rows.Goals as goal

pub loop-row-preserved : goal.loop-row-preserved
loop-row-preserved c m =
    taken_next c.loop-row.row-iterator.rest.items c.next.new.self.rest.items m.row c.in-Some.row (c.args.rule.0 == m.rule.0) _ _ _ c.in-Some.ensures.steps.0
    (fired_taken (match_of c.args.rule.0 c.in-Some.row) c.loop-row.fired.keys c.remove.new.self.keys c.args.rule.0 c.in-Some.row refl refl c.remove.ensures.updates.0 m) (c.loop-row.invariant m)
