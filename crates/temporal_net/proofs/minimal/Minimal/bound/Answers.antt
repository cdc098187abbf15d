use Rattle.temporal_net.proofs.Solved.{bound_read, none_read, within_read}
use Rattle.temporal_net.proofs.minimal.Minimal.bound.Goals as goal

pub returns-in-Some-clause-greatest : goal.returns-in-Some-clause-greatest
returns-in-Some-clause-greatest c =
    bound_read c.args.self.now c.self.inside.edges.items c.self.inside.rows.items c.self.view_is c.self.invariant c.args.x c.args.y c.requires.x c.requires.y
    c.index.result.now c.in-Some.distance c.index.ensures c.in-Some.is

pub returns-in-Some-clause-within : goal.returns-in-Some-clause-within
returns-in-Some-clause-within c =
    within_read c.args.self.now c.self.inside.edges.items c.self.inside.rows.items c.self.view_is c.self.invariant c.args.x c.args.y c.requires.x c.requires.y
    c.index.result.now c.in-Some.distance c.index.ensures c.in-Some.is

pub returns-in-None-clause-greatest : goal.returns-in-None-clause-greatest
returns-in-None-clause-greatest c =
    none_read c.args.self.now c.self.inside.edges.items c.self.inside.rows.items c.self.view_is c.self.invariant c.args.x c.args.y c.requires.x c.requires.y
    c.index.result.now c.index.ensures c.in-None.is
