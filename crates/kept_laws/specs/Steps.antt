-- The steps of which the laws of what is kept speak, and the rows that come in them.
use Rattle.std.specs.Prelude.{◌≡◌, true, false, List, None}
use Rattle.row_delta.specs.declared.row.Row.{Row}
use Rattle.rule_model.specs.declared.{condition.Condition.{Condition}, life.LifeTable.{LifeTable}, program.Program.{Program}, step.Step.{Step}}
use Rattle.rule_model.specs.Snapshots.{Snapshot}
use Rattle.rule_world.specs.{Lawful.{IsLawful}, Programs.{UseOperators}, Worlds.{World, snapshot, moved, step_fault}}
use Rattle.life_meaning.specs.Tables.{AreSafe}
use Rattle.life_laws.specs.Law.{IsFlagged}
use Rattle.condition_rows.specs.Sets.{rows_of}

-- a step without a fault of a lawful world, with a safe table of lives for a program whose types are flagged and whose temporal tests have
-- operators, as those of every runnable program
pub record IsLawfulStep (p : Program) (table : LifeTable) (w : World) (step : Step) : Type 0 where
  pub flagged : IsFlagged p
  pub operators : UseOperators p.rules
  pub safe : AreSafe p table
  pub lawful : IsLawful p w
  pub faultless : step_fault p w step ≡ None

-- what conditions look at behind the step
abbrev pub behind : Program → World → Step → Snapshot
behind p w step = snapshot (moved p w step)

-- the row is one of the conditions behind the step, and was none before it
pub record RowComes (p : Program) (w : World) (step : Step) (conditions : List Condition) (row : Row) : Type 0 where
  pub is : rows_of p (behind p w step) conditions row ≡ true
  pub was_not : rows_of p (snapshot w) conditions row ≡ false
