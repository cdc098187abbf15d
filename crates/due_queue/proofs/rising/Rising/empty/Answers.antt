use Rattle.due_queue.proofs.{Common.{◌∙◌}, Entries.{value_at_is, set_is_emptied}}
use Rattle.due_queue.proofs.rising.Rising.empty.Goals as goal

pub returns-in_err-one-clause-value : goal.returns-in_err-one-clause-value
returns-in_err-one-clause-value g c =
    c.from_residual-in_err-one.ensures ∙ c.in_err-one.ensures
    ∙ value_at_is c.args.self.now.entries.items c.args.place c.in_ok-entry.entry.now c.requires c.in_ok-entry.ensures.lookup

pub returns-clause-value : goal.returns-clause-value
returns-clause-value g c =
    c.in_ok-one.ensures ∙ value_at_is c.args.self.now.entries.items c.args.place c.in_ok-entry.entry.now c.requires c.in_ok-entry.ensures.lookup

pub returns-clause-emptied : goal.returns-clause-emptied
returns-clause-emptied g c =
    set_is_emptied c.args.self.now.entries.items c.args.place c.index_mut.result.now c.requires c.index_mut.ensures.value
