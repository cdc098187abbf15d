use Rattle.fact_store.proofs.Ranges.{last_of, greatest_of, none_before, none_up_to}
use Rattle.fact_store.proofs.versions.greatest.Goals as goal

pub returns-then-last-id-clause-found : goal.returns-then-last-id-clause-found
returns-then-last-id-clause-found c =
    last_of c.args.pairs.now c.args.id c.args.top c.range.result c.next_back.new.self c.in-Some.last.now (c.range.ensures.in_range tt) c.in-Some.ensures.steps c.if-last-id.true

pub returns-then-last-id-clause-greatest : goal.returns-then-last-id-clause-greatest
returns-then-last-id-clause-greatest c other below held =
    greatest_of c.args.pairs.now c.args.id c.args.top c.range.result c.next_back.new.self c.in-Some.last.now (c.range.ensures.in_range tt) c.in-Some.ensures.steps c.if-last-id.true other below held

pub returns-else-last-id-clause-none : goal.returns-else-last-id-clause-none
returns-else-last-id-clause-none c other below =
    none_before c.args.pairs.now c.args.id c.args.top c.range.result c.next_back.new.self c.in-Some.last.now (c.range.ensures.in_range tt) c.in-Some.ensures.steps c.if-last-id.false other below

pub returns-in-None-clause-none : goal.returns-in-None-clause-none
returns-in-None-clause-none c other below = none_up_to c.args.pairs.now c.args.id c.args.top c.range.result (c.range.ensures.in_range tt) c.in-None.ensures.steps.0 other below
