use Rattle.rete_net.proofs.{Common.{◌≤◌, arith}, Places.{before_first, none_from}}
use Rattle.rete_net.proofs.due.first_below.Goals as goal

pub returns-then-place-end-clause-first : goal.returns-then-place-end-clause-first
returns-then-place-end-clause-first c = before_first c.args.set.now c.args.from c.range.result c.next.new.self c.in-Some.place.now (c.range.ensures.in_range tt) c.in-Some.ensures.steps

pub returns-else-place-end-clause-none : goal.returns-else-place-end-clause-none
returns-else-place-end-clause-none c none k low lt =
    let past : c.args.end ≤ c.in-Some.place.now = c.if-place-end.false in
    before_first c.args.set.now c.args.from c.range.result c.next.new.self c.in-Some.place.now (c.range.ensures.in_range tt) c.in-Some.ensures.steps k low (omega arith)

pub returns-in-None-clause-none : goal.returns-in-None-clause-none
returns-in-None-clause-none c none k low lt = none_from c.args.set.now c.args.from c.range.result (c.range.ensures.in_range tt) c.in-None.ensures.steps.0 k low
