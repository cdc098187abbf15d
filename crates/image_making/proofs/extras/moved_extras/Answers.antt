use Rattle.{std.proofs.lemmas.Result.{IfOk-weaker}, fx_base.proofs.Sequences.{empty_from_length}, image_making.proofs.Going.{all_going, one_going}}
use Rattle.image_making.proofs.extras.moved_extras.Goals as goal

pub loop-extra-preserved : goal.loop-extra-preserved
loop-extra-preserved c =
    one_going c.args.old.now c.args.new.now c.requires.apart c.args.extras.items c.requires.placed c.requires.in_order c.loop-extra.moved c.put_moved.new.moved c.in-Some.extra
    c.loop-extra.extra-iterator.rest.items c.next.new.self.rest.items c.in-Some.ensures.steps.0 c.in_ok-put_moved.ensures c.loop-extra.invariant

pub returns-clause-moved : goal.returns-clause-moved
returns-clause-moved c =
    let rest = c.loop-extra.extra-iterator.rest in
    IfOk-weaker c.listed.result _ _ (λ moved are. all_going c.args.old.now c.args.new.now c.requires.apart c.args.extras.items c.requires.placed c.requires.in_order c.loop-extra.moved rest.items moved.items
    (empty_from_length rest.items rest.len rest.ok.0 c.in-None.ensures.steps.0) c.loop-extra.invariant are) c.listed.ensures.listed
