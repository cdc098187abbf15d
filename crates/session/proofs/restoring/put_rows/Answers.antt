use Rattle.{session.proofs.Common.{◌∙◌, refl, added_pending, added_turn, none_added}, fx_base.proofs.Sequences.{empty_from_length}}
use Rattle.session.proofs.restoring.put_rows.Goals as goal

pub loop-change-init : goal.loop-change-init
loop-change-init c = record {
  saliences = refl;
  adding = none_added c.args.agenda.now c.args.changes.items c.into_iter-change-iterator.result.rest.items c.into_iter-change-iterator.ensures.into_iter_gives.0;
}

pub loop-change-preserved : goal.loop-change-preserved
loop-change-preserved c = record {
  saliences = c.in_ok-change.ensures.saliences ∙ c.loop-change.invariant.saliences;
  adding = λ none.
      added_turn c.args.agenda.now c.loop-change.agenda c.change.new.self c.args.changes.items c.loop-change.change-iterator.rest.items c.next.new.self.rest.items c.in-Some.change c.in-Some.ensures.steps.0
      c.in_ok-change.ensures (c.loop-change.invariant.adding none);
}

pub returns-clause-saliences : goal.returns-clause-saliences
returns-clause-saliences c = c.loop-change.invariant.saliences

pub returns-clause-pending : goal.returns-clause-pending
returns-clause-pending c none =
    let rest = c.loop-change.change-iterator.rest in
    added_pending c.args.agenda.now c.loop-change.agenda c.args.changes.items rest.items (empty_from_length rest.items rest.len rest.ok.0 c.in-None.ensures.steps.0) (c.loop-change.invariant.adding none)

pub returns-clause-fired : goal.returns-clause-fired
returns-clause-fired c none = (c.loop-change.invariant.adding none).fired
