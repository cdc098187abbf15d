use Rattle.rete_net.proofs.{Common.{◌≡◌, ◌∙◌, sym, ap, Some, slice_get, slice_get-get_or}, Listed.{put_here, put_kept}}
use Rattle.rete_net.proofs.lists.Lists.put.Goals as goal

found : (c : goal.In_ok-push) → slice_get c.reach.new.self.lists.items c.args.number ≡ Some c.index_mut.result.now
found c = slice_get-get_or c.reach.new.self.lists.items c.args.number c.index_mut.result.now c.in_ok-reach.ensures.reached ∙ ap Some (sym c.index_mut.ensures.value)

pub returns-clause-put : goal.returns-clause-put
returns-clause-put c = put_here c.reach.new.self.lists.items c.args.number c.index_mut.result.now c.push.new.self c.args.place (found c) c.in_ok-push.ensures.items

pub returns-clause-kept : goal.returns-clause-kept
returns-clause-kept c n k h =
    put_kept c.reach.new.self.lists.items c.args.number c.index_mut.result.now c.push.new.self c.args.place n k (found c) c.in_ok-push.ensures.items (c.in_ok-reach.ensures.kept n k h)
