-- Facts at a moment.
use Rattle.std.specs.Prelude.{List}
use Rattle.fx_base.specs.declared.fact.Fact.{Fact}
use Rattle.rule_model.specs.{declared.moment.Moment.{Moment}, Moments.{reached_in}, Snapshots.{Snapshot}}

-- the snapshot of these facts at this moment
abbrev pub over : List Fact → Moment → Snapshot
over facts m = record { facts = facts; clock = m.clock; reached = reached_in m.last_starts.now m.promises.now }
