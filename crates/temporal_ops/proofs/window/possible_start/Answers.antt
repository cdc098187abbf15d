use Rattle.temporal_ops.proofs.{Common.{Never, UpTo, Unbounded, edges_hold, ArePossibleTimes}, Rooms.{fitting_is_possible, one_more}, Windows.{starts_too}}
use Rattle.temporal_ops.proofs.Windows.{which_window}
use Rattle.temporal_ops.proofs.window.possible_start.Goals as goal

pub loop-op-preserved : goal.loop-op-preserved
loop-op-preserved c = λ y.
    one_more (λ bound. edges_hold bound.0 y bound.1) c.args.bounds.now _ _ _ c.loop-op-test.true c.loop-op-item.is
    _ _ _ (c.loop-op.invariant y) (c.keep.ensures y)

pub returns-clause-window : goal.returns-clause-window
returns-clause-window c =
    starts_too _ _
    (fitting_is_possible c.args.bounds.now c.args.point c.new-room.result _ _ c.new-room.ensures
    c.loop-op-test.false c.loop-op.invariant)
    c.window.result c.window.ensures

pub returns-clause-never : goal.returns-clause-never
returns-clause-never c =
    which_window (ArePossibleTimes c.args.bounds.now c.args.point) c.window.result Never (returns-clause-window c)

pub returns-clause-up_to : goal.returns-clause-up_to
returns-clause-up_to c = λ u.
    which_window (ArePossibleTimes c.args.bounds.now c.args.point) c.window.result (UpTo u) (returns-clause-window c)

pub returns-clause-unbounded : goal.returns-clause-unbounded
returns-clause-unbounded c =
    which_window (ArePossibleTimes c.args.bounds.now c.args.point) c.window.result Unbounded (returns-clause-window c)
