use Rattle.{due_queue.proofs.{Common.{◌∙◌, sym}, Orders.{gt_first, past_later}}, std.proofs.lemmas.Option.{IfSome_then}}
use Rattle.due_queue.proofs.pairs.take_first_due.Goals as goal

pub returns-then-is_past-clause-none : goal.returns-then-is_past-clause-none
returns-then-is_past-clause-none g c other there =
    past_later g.met.M.Ord.total c.args.bound.now c.in_ok-first.first.now.0 other.0 (gt_first _ _ (c.in_ok-first.ensures.least other there)) (sym c.is_past.ensures ∙ c.if-is_past.true)

pub returns-clause-first : goal.returns-clause-first
returns-clause-first g c = IfSome_then c.pop_first.result c.pop_first.ensures.least (λ pair least other there. least other there)

pub returns-clause-taken : goal.returns-clause-taken
returns-clause-taken g c = IfSome_then c.pop_first.result c.pop_first.ensures.updates (λ pair updates other. updates.0 other)
