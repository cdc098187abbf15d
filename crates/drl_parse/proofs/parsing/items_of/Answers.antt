use Rattle.drl_parse.proofs.{Common.{◌∙◌, sym, whole_at, item_at}, ItemTurns.{kept, stops, ends}}
use Rattle.drl_parse.proofs.parsing.items_of.Goals as goal

pub returns-in-None : goal.returns-in-None
returns-in-None c =
    rw c.outside.ensures
    (stops (whole_at item_at) c.args.tokens.now c.args.lines.now c.loop-own.items.items c.loop-own.number c.loop-own.rest.now c.in-Some.own.now c.in-Some.next.now c.loop-own.rest_lines.now c.loop-own.invariant
    (rw c.in-Some.is at c.split_item.ensures.parts) (sym c.in_ok-whole.ensures ∙ c.in-None.is))

pub loop-own-preserved : goal.loop-own-preserved
loop-own-preserved c =
    rw (c.in_ok-push.ensures.items, c.split_at.ensures.back)
    (kept (whole_at item_at) c.args.tokens.now c.args.lines.now c.loop-own.items.items c.loop-own.number c.loop-own.rest.now c.in-Some.own.now c.in-Some.next.now c.loop-own.rest_lines.now c.in-Some-2.body c.loop-own.invariant
    (rw c.in-Some.is at c.split_item.ensures.parts) (sym c.in_ok-whole.ensures ∙ c.in-Some-2.is))

pub returns : goal.returns
returns c =
    rw c.from_vec.ensures
    (ends (whole_at item_at) c.args.tokens.now c.args.lines.now c.loop-own.items.items c.loop-own.number c.loop-own.rest.now c.loop-own.rest_lines.now c.loop-own.invariant (rw c.in_default.is at c.split_item.ensures.parts))
