use Rattle.due_queue.proofs.{Common.{◌∙◌, sym, ap, found, is_moment}, Together.{moment_in_some, moment_in_other, split, split_back, least_of_both}}
use Rattle.{due_queue.specs.Rising.{live}, std.proofs.lemmas.Option.{IfSome_then}}
use Rattle.due_queue.proofs.rising_map.RisingMap.first.Goals as goal

pub returns-then-leads-clause-waits : goal.returns-then-leads-clause-waits
returns-then-leads-clause-waits g c =
    IfSome_then c.first.result c.first.ensures.waits
    (λ t waits. sym (ap (λ waiting. is_moment g.M.Ord.cmp t.0 (found g.K.Ord.cmp waiting t.1)) c.self.view_is) ∙ moment_in_some g.M.Ord.cmp g.K.Ord.cmp (live c.self.inside.rising.entries.items) c.self.inside.others t.0 t.1 waits)

pub returns-then-leads-clause-least : goal.returns-then-leads-clause-least
returns-then-leads-clause-least g c at key e =
    least_of_both g.met.M.Ord.total g.met.K.Ord.total (live c.self.inside.rising.entries.items) c.self.inside.others _ (c.leads.ensures.rising c.if-leads.true) (split g.K.Ord.cmp (live c.self.inside.rising.entries.items) c.self.inside.others) c.first.result c.first.ensures.least at key
    (ap (λ waiting. is_moment g.M.Ord.cmp at (found g.K.Ord.cmp waiting key)) c.self.view_is ∙ e)

pub returns-else-leads-clause-waits : goal.returns-else-leads-clause-waits
returns-else-leads-clause-waits g c =
    IfSome_then c.first-else-leads.result c.first-else-leads.ensures.waits
    (λ t waits. sym (ap (λ waiting. is_moment g.M.Ord.cmp t.0 (found g.K.Ord.cmp waiting t.1)) c.self.view_is) ∙ moment_in_other g.M.Ord.cmp g.K.Ord.cmp (live c.self.inside.rising.entries.items) c.self.inside.others t.0 t.1 c.self.invariant.1 waits)

pub returns-else-leads-clause-least : goal.returns-else-leads-clause-least
returns-else-leads-clause-least g c at key e =
    least_of_both g.met.M.Ord.total g.met.K.Ord.total c.self.inside.others (live c.self.inside.rising.entries.items) _ (c.leads.ensures.others c.if-leads.false) (split_back g.K.Ord.cmp (live c.self.inside.rising.entries.items) c.self.inside.others) c.first-else-leads.result c.first-else-leads.ensures.least at key
    (ap (λ waiting. is_moment g.M.Ord.cmp at (found g.K.Ord.cmp waiting key)) c.self.view_is ∙ e)
