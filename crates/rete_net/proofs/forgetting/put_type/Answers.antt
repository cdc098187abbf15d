use Rattle.rete_net.proofs.{Common.{◌∙◌, sym, ap, slice_get, items_of, has_place}, Places.{due_more, put_stays}}
use Rattle.rete_net.proofs.forgetting.put_type.Goals as goal

pub returns-clause-put : goal.returns-clause-put
returns-clause-put c =
    due_more c.args.index.now c.args.types.now.keys c.insert.new.self.keys c.args.due.now.keys c.put_all.new.set.keys c.from.result c.of_type.result.now
    (c.of_type.ensures ∙ ap (λ n. items_of (slice_get c.args.index.now.by_type.lists.items n)) (sym c.from.ensures))
    c.in_ok-fresh.ensures.updates.0 c.in_ok-put_all.ensures

pub returns-clause-kept : goal.returns-clause-kept
returns-clause-kept c other was = put_stays c.from.result other (has_place c.args.types.now.keys other) _ (c.in_ok-fresh.ensures.updates.0 other) was
