use Rattle.due_queue.{proofs.{Common.{◌∙◌, ◌||◌, ap, subst, has_pair, AreDue}, DueEntries.{entries_due, both_due}}, specs.Rising.{live}}
use Rattle.std.proofs.Common.{map as list_map}
use Rattle.due_queue.proofs.rising_map.RisingMap.due.Goals as goal

pub returns : goal.returns
returns g c =
    let rising = entries_due g.met.M.Ord.total g.met.K.Ord.total c.args.bound c.self.inside.rising.entries.items c.self.invariant.0.rises c.in_ok-rising.rising.items c.in_ok-rising.ensures in
    subst (λ waiting. AreDue g.M.Ord.cmp g.K.Ord.cmp c.args.bound waiting c.in_ok-keys.keys.items) c.self.view_is
    (both_due g.met.M.Ord.total g.met.K.Ord.total c.args.bound (live c.self.inside.rising.entries.items) c.self.inside.others c.in_ok-rising.rising.items c.in_ok-others.others.items c.in_ok-pairs.pairs.items
    c.self.invariant.1 rising c.in_ok-others.ensures (c.in_ok-pairs.ensures.in_order rising.in_order)
    (λ t. c.in_ok-pairs.ensures.both t ∙ ap (λ pairs. has_pair g.M.Ord.cmp g.K.Ord.cmp c.in_ok-rising.rising.items t || has_pair g.M.Ord.cmp g.K.Ord.cmp pairs t) c.deref.ensures.value)
    c.in_ok-keys.keys.items (c.in_ok-keys.ensures ∙ ap (list_map (λ pair. pair.1)) c.deref-2.ensures.value))
