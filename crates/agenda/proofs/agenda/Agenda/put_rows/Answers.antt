use Rattle.{agenda.proofs.{Common.{◌∙◌, ◌==◌}, Steps.{put_next, all_put}}, fx_base.proofs.Sequences.{empty_from_length}}
use Rattle.agenda.proofs.agenda.Agenda.put_rows.Goals as goal

pub loop-row-preserved : goal.loop-row-preserved
loop-row-preserved c = record {
  saliences = c.in_ok-put_row.ensures.saliences ∙ c.loop-row.invariant.saliences;
  pending = λ m. put_next c.loop-row.row-iterator.rest.items c.next.new.self.rest.items m.row c.in-Some.row (c.args.rule.0 == m.rule.0) _ _ _ c.in-Some.ensures.steps.0 (c.in_ok-put_row.ensures.pending m) (c.loop-row.invariant.pending m);
  fired = c.in_ok-put_row.ensures.fired ∙ c.loop-row.invariant.fired;
}

pub returns-clause-pending : goal.returns-clause-pending
returns-clause-pending c m =
    let rest = c.loop-row.row-iterator.rest in
    all_put rest.items m.row (c.args.rule.0 == m.rule.0) _ _ (empty_from_length rest.items rest.len rest.ok.0 c.in-None.ensures.steps.0) (c.loop-row.invariant.pending m)
